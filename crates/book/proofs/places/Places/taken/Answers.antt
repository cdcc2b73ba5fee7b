use Rattle.std.proofs.Common.{◌≡◌, ◌≤◌, ℕ, is_some, cond, count_by, arith, rules, tests, Option}
use Rattle.std.proofs.lemmas.List.Sums.{count_by-le-length}
use Rattle.std.proofs.lemmas.Iterator.{YieldsList-from_slice, YieldsList-from_map}
use Rattle.std.proofs.lemmas.Iterator.Consumers.{YieldsList-at, sum_by_from_yields_List}
use Rattle.std.proofs.lemmas.Iterator.Adapters.{fits_from_length, at_most_from_yields_List}
use Rattle.orders.specs.declared.order.Order.{Order}
use Rattle.book.proofs.places.Places.taken.Goals as goal

pub sum-requires-clause-fits : goal.sum-requires-clause-fits
sum-requires-clause-fits c =
    fits_from_length _ _ 256 _ (at_most_from_yields_List (YieldsList-at c.map.ensures.source (YieldsList-from_slice c.args.self.now.slots cc)) (omega (arith, c.args.self.now.long)))
    c.map.ensures.closure (omega arith) (λ x r q k. search (rules, tests))

pub returns : goal.returns
returns c =
    let slots = c.args.self.now.slots in
    let f : Option Order → ℕ = λ s. cond (is_some s) 1 0 in
    let counted : c.sum.result ≡ count_by is_some slots = sum_by_from_yields_List f slots _ _ c.sum.ensures.ran
    (YieldsList-from_map _ f (YieldsList-at c.map.ensures.source (YieldsList-from_slice slots cc)) c.map.ensures.closure (λ x r q k. search (rules, tests))) in
    let few : count_by is_some slots ≤ 256 = omega (arith, count_by-le-length is_some slots, c.args.self.now.long) in
    search rules
