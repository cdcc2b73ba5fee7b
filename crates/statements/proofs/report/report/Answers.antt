use Rattle.std.proofs.Common.{string_bytes, ap, ◌∙◌, arith, rules}
use borrow.Author.Tests.{tests}
use Rattle.std.proofs.lemmas.List.{take_all}
use Rattle.std.proofs.lemmas.Result.{IfOk-weaker}
use Rattle.text.proofs.Cuts.{first_cut, lines_on}
use Rattle.statements.specs.Report.{statement_of}
use Rattle.statements.proofs.Reports.{one_line, some_refused, none_refused}
use Rattle.statements.proofs.report.report.Goals as goal

pub loop-i-preserved : goal.loop-i-preserved
loop-i-preserved c =
    let s = c.in-Some.ensures.steps in
    let first = first_cut _ _ _ _ _ _ s.0 (λ a r q k. search (rules, tests)) in
    one_line c.in-Some.line.now _ c.loop-i.invariant (lines_on _ _ _ s.0.0 first) (let at = s.1 in omega arith) (search (rules, take_all)) s.2 c.in_ok-take_line.ensures

pub returns-then-not-is_empty : goal.returns-then-not-is_empty
returns-then-not-is_empty c = let n = c.in-None.ensures.steps in some_refused c.loop-i.invariant n.0.0 (search rules)

pub returns : goal.returns
returns c =
    let n = c.in-None.ensures.steps in
    IfOk-weaker c.statement.result _ _
    (λ s e. none_refused c.loop-i.invariant n.0.0 (search rules) (string_bytes s) (e ∙ ap statement_of c.deref_mut.ensures.value))
    c.statement.ensures.text
