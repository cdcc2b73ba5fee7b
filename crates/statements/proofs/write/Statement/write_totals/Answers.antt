use Rattle.std.proofs.Common.{ap, arith, rules}
use Rattle.std.specs.List.{flat_map}
use Rattle.std.proofs.Output.{has_written_append, has_written_of_eq}
use Rattle.statements.specs.Statement.{total_at}
use Rattle.statements.proofs.Joins.{issue_more, issues_end}
use Rattle.statements.proofs.write.Statement.write_totals.Goals as goal

pub loop-issue-preserved : goal.loop-issue-preserved
loop-issue-preserved g c = λ p.
    let f = total_at c.args.self.now.pairs.now (g.R.Register.rows c.args.self.now.register.now) in
    has_written_of_eq _ _ _ _ _ (issue_more f c.loop-issue.issue (omega arith) (omega arith)) (has_written_append _ _ _ _ _ _ (c.loop-issue.invariant p) (search rules))

pub returns : goal.returns
returns g c = λ p ok.
    let f = total_at c.args.self.now.pairs.now (g.R.Register.rows c.args.self.now.register.now) in
    has_written_of_eq _ _ _ _ _ (ap (flat_map f) (issues_end c.loop-issue.issue (omega arith))) (c.loop-issue.invariant p)
