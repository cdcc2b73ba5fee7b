use Rattle.std.proofs.Common.{◌≡◌, ◌*◌, length}
use Rattle.book.specs.Table.{book_of}
use Rattle.rounds_bench.proofs.full_table.Given as goal

abbrev pub invariant-loop : goal.invariant-loop
invariant-loop l = (length (book_of l.table) ≡ 2 * l.counter) × (l.table.given.stamp ≡ 2 * l.counter)
