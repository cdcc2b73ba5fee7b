use Rattle.std.proofs.Common.{◌≡◌, drop}
use Rattle.orders.specs.Book.{after}
use Rattle.book.specs.Table.{book_of}
use Rattle.matching.proofs.attempt.make.Given as goal

abbrev pub invariant-loop-t : goal.invariant-loop-t
invariant-loop-t l =
    (after (drop l.t-index l.trades) (book_of l.table) ≡ after l.trades (book_of l.initial.table))
    × (l.table.given ≡ l.initial.table.given)
