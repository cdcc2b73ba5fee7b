use Rattle.std.specs.Prelude.{ℕ, ◌<◌, ◌≡◌, Option}
use Rattle.orders.specs.Search.{First}
use Rattle.orders.proofs.ranked.first.Given as goal

abbrev pub invariant-loop-place : goal.invariant-loop-place
invariant-loop-place g l =
    (at : ℕ → Option g.row.T.Denot) → ((i : ℕ) (r : Option g.row.T.Denot) → i < l.places → goal.F-post g l.look i r → r ≡ at i) → First g.T.Ranked.before at l.place l.best
