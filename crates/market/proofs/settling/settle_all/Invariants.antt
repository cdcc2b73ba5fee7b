use Rattle.std.proofs.Common.{◌≡◌, drop}
use Rattle.rules.specs.Market.{all_settled}
use Rattle.market.proofs.settling.settle_all.Given as goal

-- what is left to settle gives the whole
abbrev pub invariant-loop-t : goal.invariant-loop-t
invariant-loop-t g l =
    (all_settled (drop l.t-index l.trades) (g.R.Register.rows l.register) ≡ all_settled l.trades (g.R.Register.rows l.initial.register))
    × (g.R.Register.rest l.register ≡ g.R.Register.rest l.initial.register)
