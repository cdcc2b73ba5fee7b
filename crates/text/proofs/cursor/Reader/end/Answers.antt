use Rattle.std.proofs.Common.{◌+◌, length, refl, ap, arith}
use Rattle.text.proofs.Numbers.{here, column}
use Rattle.text.proofs.Steps.{ended, not_ended}
use Rattle.text.proofs.cursor.Reader.end.Goals as goal

pub returns-then-self : goal.returns-then-self
returns-then-self g c = λ line h. column g.F.Form.spells (c.args.self.now.at + 1) _ h.0 (omega arith) (not_ended g.F.Form.spells (here g.F.Form.spells h) c.if-self.true)

pub returns : goal.returns
returns g c = λ line h. (refl, ended g.F.Form.spells h.1 (let w = h.1.within in let e = ap length h.0 in omega (arith, c.if-self.false)))
