use Rattle.std.proofs.Common.{◌+◌, arith, rules}
use borrow.Author.Tests.{tests}
use Rattle.text.proofs.Steps.{lit_stuck}
use Rattle.text.proofs.Numbers.{here, column}
use Rattle.text.proofs.cursor.Reader.byte.Goals as goal

pub returns-then-ne : goal.returns-then-ne
returns-then-ne g c = λ G line h.
    column g.F.Form.spells (c.args.self.now.at + 1) _ h.0 (omega arith)
    (lit_stuck g.F.Form.spells (here g.F.Form.spells h) (λ lt e. search (rules, tests)))
