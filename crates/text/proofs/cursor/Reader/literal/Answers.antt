use Rattle.std.proofs.Common.{subst}
use Rattle.text.specs.Tree.{At}
use Rattle.text.proofs.Steps.{broke, lits_next, lits_done}
use Rattle.text.proofs.cursor.Reader.literal.Goals as goal

pub loop-b-preserved : goal.loop-b-preserved
loop-b-preserved g c = λ G line h. c.in_ok-byte.ensures _ line (subst (λ T. At g.F.Form.spells T line c.loop-b.self) (lits_next c.args.text.now G c.loop-b.b-index c.loop-b-test.true) (c.loop-b.invariant G line h))

pub returns-in_err-byte : goal.returns-in_err-byte
returns-in_err-byte g c = λ G line h.
    broke _ _ c.from_residual.result _ c.from_residual.ensures.1
    (c.in_err-byte.ensures _ line (subst (λ T. At g.F.Form.spells T line c.loop-b.self) (lits_next c.args.text.now G c.loop-b.b-index c.loop-b-test.true) (c.loop-b.invariant G line h)))

pub returns : goal.returns
returns g c = λ G line h. subst (λ T. At g.F.Form.spells T line c.loop-b.self) (lits_done c.args.text.now G c.loop-b.b-index c.loop-b-test.false) (c.loop-b.invariant G line h)
