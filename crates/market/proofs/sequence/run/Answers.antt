use Rattle.std.proofs.Common.{sym, ◌∙◌, arith}
use Rattle.std.proofs.lemmas.Grind.{common_steps}
use Rattle.market.proofs.sequence.run.Goals as goal

pub returns-clause-does : goal.returns-clause-does
returns-clause-does g c =
    let made = c.in_ok-outcomes.ensures.does in
    let first = c.new-market.ensures.board (g.R.Register.rows c.new-market.result.register.now) c.args.tape.now in
    let name = sym c.new-market.ensures.named ∙ sym c.in_ok-outcomes.ensures.lasts.named in
    grind (arith, common_steps, name, first, made)
