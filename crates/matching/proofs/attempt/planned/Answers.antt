use Rattle.std.proofs.Common.{length, ap, ◌∙◌, arith}
use Rattle.orders.specs.Tape.{written}
use Rattle.matching.specs.Listing.{attempt_over}
use Rattle.matching.proofs.Listings.{attempt_listed}
use Rattle.matching.proofs.attempt.planned.Goals as goal

pub plan-requires : goal.plan-requires
plan-requires c = omega (arith, ap length c.deref.ensures.0, c.list.ensures.count, c.requires.room)

pub returns-clause-free : goal.returns-clause-free
returns-clause-free c =
    let a = c.args.a.now in
    let same = ap (attempt_over a) c.deref.ensures.0 ∙ attempt_listed c.args.table.now a c.list.new.rows.items c.list.ensures.lists in
    c.plan.ensures.free ∙ ap (λ ts. written 0 ts c.args.free.now) same

pub returns-clause-count : goal.returns-clause-count
returns-clause-count c =
    let a = c.args.a.now in
    let same = ap (attempt_over a) c.deref.ensures.0 ∙ attempt_listed c.args.table.now a c.list.new.rows.items c.list.ensures.lists in
    c.plan.ensures.count ∙ ap length same
