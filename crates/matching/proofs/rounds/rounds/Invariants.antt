use Rattle.std.proofs.Common.{◌≡◌, length}
use Rattle.book.specs.Table.{book_of}
use Rattle.matching.proofs.Settling.{Stands}
use Rattle.matching.proofs.rounds.rounds.Given as goal

abbrev pub invariant-loop-a : goal.invariant-loop-a
invariant-loop-a l =
    (l.strip ≡ l.initial.strip) × (l.table.given ≡ l.initial.table.given)
    × Stands l.issue (book_of l.initial.table) (book_of l.table) l.initial.free l.free l.end l.count

abbrev pub decreases-loop-a : goal.decreases-loop-a
decreases-loop-a l = length (book_of l.table)
