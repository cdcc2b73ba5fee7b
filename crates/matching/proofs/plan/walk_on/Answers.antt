use Rattle.std.proofs.Common.{length, length-set, filter, refl, sym, ap, ◌∙◌, arith, rules, tests}
use Rattle.std.proofs.lemmas.List.{at_drop_all, length_push}
use Rattle.std.proofs.lemmas.Grind.{common_steps}
use Rattle.std.proofs.lemmas.Iterator.{YieldsList-from_slice, YieldsList-from_map}
use Rattle.std.proofs.lemmas.Iterator.Consumers.{YieldsList-at, YieldsList-from_filter, YieldsList-turn, YieldsList-end}
use Rattle.orders.specs.Tape.{written}
use Rattle.matching.specs.Walk.{walk}
use Rattle.matching.specs.Attempt.{trades_of}
use Rattle.matching.specs.Listing.{orders_in, meets}
use Rattle.matching.proofs.Walking.{next_order, walk_taken, walk_passed}
use Rattle.matching.proofs.plan.walk_on.Goals as goal

pub loop-o-init : goal.loop-o-init
loop-o-init c = (
  YieldsList-at c.into_iter-o-iterator.ensures.into_iter_gives
      (YieldsList-from_filter _ (meets c.args.skip c.args.a.now)
      (YieldsList-at c.filter-o-items.ensures.source (YieldsList-from_map _ (λ r. r.order) (YieldsList-at c.map.ensures.source (YieldsList-from_slice c.args.rows.now cc)) c.map.ensures.closure (λ x r q k. search rules)))
      c.filter-o-items.ensures.closure (λ x r q k. search (rules, tests))),
  c.requires,
  refl,
  refl,
)

pub bounds-free-end : goal.bounds-free-end
bounds-free-end c =
    let next = next_order _ _ _ (YieldsList-turn c.loop-o.invariant.0 c.loop-o.yielded _ c.loop-o.yielded_by _ _ c.in-Some.o c.in-Some.is c.next.ensures.steps) in
    omega (arith, c.loop-o.invariant.1, ap length next)

pub loop-o-preserved-then-q-gt0 : goal.loop-o-preserved-then-q-gt0
loop-o-preserved-then-q-gt0 c =
    let next = next_order _ _ _ (YieldsList-turn c.loop-o.invariant.0 c.loop-o.yielded _ c.loop-o.yielded_by _ _ c.in-Some.o c.in-Some.is c.next.ensures.steps) in
    let n = length_push c.loop-o.yielded c.in-Some.o in
    let took = walk_taken c.loop-o.left c.offer-q.result c.in-Some.o in
    let room = length-set c.loop-o.free c.loop-o.end c.trade.result in
    (c.loop-o.invariant.0, grind (arith, common_steps), grind (arith, common_steps, took), grind (arith, common_steps, took))

pub loop-o-preserved : goal.loop-o-preserved
loop-o-preserved c =
    let next = next_order _ _ _ (YieldsList-turn c.loop-o.invariant.0 c.loop-o.yielded _ c.loop-o.yielded_by _ _ c.in-Some.o c.in-Some.is c.next.ensures.steps) in
    let n = length_push c.loop-o.yielded c.in-Some.o in
    let passed = walk_passed c.loop-o.left c.offer-q.result c.in-Some.o in
    (c.loop-o.invariant.0, grind (arith, common_steps), grind (arith, common_steps, passed), grind (arith, common_steps, passed))

pub returns : goal.returns
returns c =
    let all = filter (meets c.args.skip c.args.a.now) (orders_in c.args.rows.now) in
    let over = (YieldsList-end c.loop-o.invariant.0 c.loop-o.yielded _ c.loop-o.yielded_by _ _ c.in-None.is c.next.ensures.steps).1 in
    let none = at_drop_all (λ l. l) all (length c.loop-o.yielded) (omega (arith, over)) in
    record {
      free = ap (λ l. written c.loop-o.end (trades_of c.args.a.now (walk c.loop-o.left l)) c.loop-o.free) (sym none) ∙ c.loop-o.invariant.2;
      end = omega (arith, ap (λ l. length (trades_of c.args.a.now (walk c.loop-o.left l))) none, c.loop-o.invariant.3);
    }
