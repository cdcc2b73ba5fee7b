use Rattle.std.proofs.Common.{◌≡◌, length}
use Rattle.book.specs.Table.{book_of}
use Rattle.rules.specs.Market.{all_ended}
use Rattle.market.proofs.settling.end_all.Given as goal

-- what is left to end gives the whole
abbrev pub invariant-loop-o : goal.invariant-loop-o
invariant-loop-o g l =
    (all_ended (book_of l.table) (g.R.Register.rows l.register) ≡ all_ended (book_of l.initial.table) (g.R.Register.rows l.initial.register))
    × (l.table.given ≡ l.initial.table.given)
    × (g.R.Register.rest l.register ≡ g.R.Register.rest l.initial.register)

abbrev pub decreases-loop-o : goal.decreases-loop-o
decreases-loop-o g l = length (book_of l.table)
