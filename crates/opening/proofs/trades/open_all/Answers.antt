use Rattle.std.proofs.Common.{refl, ap, length, rules, arith}
use Rattle.std.specs.Iterator.Adapters.{zip_second}
use Rattle.std.specs.Slice.Iter.{iter_rest}
use Rattle.opening.proofs.Issues.{one_more}
use Rattle.opening.proofs.trades.open_all.Goals as goal

pub loop-issue-preserved : goal.loop-issue-preserved
loop-issue-preserved c =
    let t = c.loop-issue.table in
    let s = c.in-Some.ensures.steps in
    let m = c.open_issue-made.ensures.made in
    let few = m.few in
    let inv = c.loop-issue.invariant in
    let closes = iter_rest (zip_second c.next.new.self) in
    let l = ap length s.1 in
    let left = rw (← s.0.0, s.1) at inv.rest in
    record {
      issues = omega arith;
      live = omega (arith, inv.live);
      rest = rw s.0.1 (one_more c.in-Some.issue c.in-Some.close.now closes c.loop-issue.made _ _ _ _ t _ _ _ _
          (omega (arith, inv.live, c.requires.room, c.loop-issue.auto.free)) refl m left);
      given = search rules;
    }
