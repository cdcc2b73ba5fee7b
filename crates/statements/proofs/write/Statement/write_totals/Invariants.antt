use Rattle.std.proofs.Common.{◌-◌, take}
use Rattle.std.specs.List.{flat_map}
use Rattle.std.specs.Fmt.{HasWritten, IsPlainFormatter}
use Rattle.register.specs.Rules.{issues}
use Rattle.statements.specs.Statement.{total_at}
use Rattle.statements.proofs.write.Statement.write_totals.Given as goal

abbrev pub invariant-loop-issue : goal.invariant-loop-issue
invariant-loop-issue g l =
    IsPlainFormatter l.initial.f → HasWritten g.W.Write.write_str_gives l.initial.f (flat_map (total_at l.self.pairs.now (g.R.Register.rows l.self.register.now)) (take (l.issue - 1) issues)) l.f
