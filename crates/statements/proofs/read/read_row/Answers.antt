use Rattle.std.proofs.lemmas.Result.{MatchResult-weaker}
use Rattle.text.proofs.Steps.{broke}
use Rattle.statements.proofs.RowTree.{after_account, after_issue, after_free, after_held, begun}
use Rattle.statements.proofs.read.read_row.Goals as goal

pub returns-in_err-literal : goal.returns-in_err-literal
returns-in_err-literal c =
    let line = c.args.line.now in
    let h0 = begun line c.new-reader.result c.new-reader.ensures.line c.new-reader.ensures.at in
    broke _ _ c.from_residual.result _ c.from_residual.ensures.1 (c.in_err-literal.ensures _ line h0)

pub returns-in_err-account : goal.returns-in_err-account
returns-in_err-account c =
    let line = c.args.line.now in
    let h0 = begun line c.new-reader.result c.new-reader.ensures.line c.new-reader.ensures.at in
    let h1 = c.in_ok-literal.ensures _ line h0 in
    broke _ _ c.from_residual-in_err-account.result _ c.from_residual-in_err-account.ensures.1 (c.in_err-account.ensures.reads after_account line h1)

pub returns-in_err-issue : goal.returns-in_err-issue
returns-in_err-issue c =
    let line = c.args.line.now in
    let h0 = begun line c.new-reader.result c.new-reader.ensures.line c.new-reader.ensures.at in
    let h1 = c.in_ok-literal.ensures _ line h0 in
    let h2 = c.in_ok-account.ensures.reads after_account line h1 in
    broke _ _ c.from_residual-in_err-issue.result _ c.from_residual-in_err-issue.ensures.1 (c.in_err-issue.ensures.reads (after_issue _) line h2)

pub returns-in_err-free : goal.returns-in_err-free
returns-in_err-free c =
    let line = c.args.line.now in
    let h0 = begun line c.new-reader.result c.new-reader.ensures.line c.new-reader.ensures.at in
    let h1 = c.in_ok-literal.ensures _ line h0 in
    let h2 = c.in_ok-account.ensures.reads after_account line h1 in
    let h3 = c.in_ok-issue.ensures.reads (after_issue _) line h2 in
    broke _ _ c.from_residual-in_err-free.result _ c.from_residual-in_err-free.ensures.1 (c.in_err-free.ensures.reads (after_free _ _) line h3)

pub returns-in_err-held : goal.returns-in_err-held
returns-in_err-held c =
    let line = c.args.line.now in
    let h0 = begun line c.new-reader.result c.new-reader.ensures.line c.new-reader.ensures.at in
    let h1 = c.in_ok-literal.ensures _ line h0 in
    let h2 = c.in_ok-account.ensures.reads after_account line h1 in
    let h3 = c.in_ok-issue.ensures.reads (after_issue _) line h2 in
    let h4 = c.in_ok-free.ensures.reads (after_free _ _) line h3 in
    broke _ _ c.from_residual-in_err-held.result _ c.from_residual-in_err-held.ensures.1 (c.in_err-held.ensures.reads (after_held _ _ _) line h4)

pub returns-in_err-literal-2 : goal.returns-in_err-literal-2
returns-in_err-literal-2 c =
    let line = c.args.line.now in
    let h0 = begun line c.new-reader.result c.new-reader.ensures.line c.new-reader.ensures.at in
    let h1 = c.in_ok-literal.ensures _ line h0 in
    let h2 = c.in_ok-account.ensures.reads after_account line h1 in
    let h3 = c.in_ok-issue.ensures.reads (after_issue _) line h2 in
    let h4 = c.in_ok-free.ensures.reads (after_free _ _) line h3 in
    let h5 = c.in_ok-held.ensures.reads (after_held _ _ _) line h4 in
    broke _ _ c.from_residual-in_err-literal-2.result _ c.from_residual-in_err-literal-2.ensures.1 (c.in_err-literal-2.ensures _ line h5)

pub returns : goal.returns
returns c =
    let line = c.args.line.now in
    let h0 = begun line c.new-reader.result c.new-reader.ensures.line c.new-reader.ensures.at in
    let h1 = c.in_ok-literal.ensures _ line h0 in
    let h2 = c.in_ok-account.ensures.reads after_account line h1 in
    let h3 = c.in_ok-issue.ensures.reads (after_issue _) line h2 in
    let h4 = c.in_ok-free.ensures.reads (after_free _ _) line h3 in
    let h5 = c.in_ok-held.ensures.reads (after_held _ _ _) line h4 in
    let h6 = c.in_ok-literal-2.ensures _ line h5 in
    MatchResult-weaker c.end.result (c.end.ensures line h6) (λ _ p. p.1) (λ _ p. p)
