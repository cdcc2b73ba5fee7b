use Rattle.std.proofs.Common.{take}
use Rattle.std.specs.Fmt.{HasWritten, IsPlainFormatter}
use Rattle.statements.specs.Statement.{balance_lines}
use Rattle.statements.proofs.write.Statement.write_balances.Given as goal

abbrev pub invariant-loop-pair : goal.invariant-loop-pair
invariant-loop-pair g l = IsPlainFormatter l.initial.f → HasWritten g.W.Write.write_str_gives l.initial.f (balance_lines (take l.pair-index l.pair-items) (g.R.Register.rows l.self.register.now)) l.f
