use Rattle.std.proofs.Common.{arith, rules}
use borrow.Author.Tests.{tests}
use Rattle.text.specs.Tokens.{Digit, Letter}
use Rattle.text.proofs.Steps.{run_front}
use Rattle.text.proofs.tokens.first_token.Goals as goal

pub returns-in-48-to-57 : goal.returns-in-48-to-57
returns-in-48-to-57 c = run_front Digit c.args.rest.now c.run.result.now (omega arith) (omega arith, omega arith) c.run.ensures.front (λ k l. search (rules, tests, c.run.ensures.all k l)) (λ l d. search (rules, tests, c.run.ensures.stops l))

pub returns-in-97-to-122 : goal.returns-in-97-to-122
returns-in-97-to-122 c =
    let r = c.run-in-97-to-122.ensures in
    run_front Letter c.args.rest.now c.run-in-97-to-122.result.now (omega arith) (omega arith, omega arith) r.front (λ k l. search (rules, tests, r.all k l)) (λ l d. search (rules, tests, r.stops l))
