use Rattle.std.proofs.Common.{rules, ◌≡◌, ◌∙◌, sum_by, sym, refl, arith, ℕ}
use borrow.Author.Tests.{tests}
use Rattle.std.specs.List.{range_with_len}
use Rattle.std.proofs.lemmas.Iterator.{YieldsList-from_range, YieldsList-from_map}
use Rattle.std.proofs.lemmas.Iterator.Consumers.{sum_by_from_yields_List}
use Rattle.std.proofs.lemmas.Iterator.Adapters.{fits_from_length, at_most_from_yields_List}
use Rattle.std.proofs.lemmas.List.FromFn.{length-range_with_len}
use Rattle.book.specs.Table.{at_place}
use Rattle.opening.specs.Opening.{share}
use Rattle.opening.proofs.Sums.{quantity_places}
use Rattle.opening.proofs.level.Level.quantity.Goals as goal

pub sum-requires-clause-fits : goal.sum-requires-clause-fits
sum-requires-clause-fits c =
    fits_from_length _ _ 256 _ (at_most_from_yields_List (YieldsList-from_range 0 256 256 (cc) refl) (omega (arith, length-range_with_len 0 256)))
    c.map.ensures.closure (omega arith) (λ x r q k. search (rules, tests))

pub returns : goal.returns
returns c =
    let t = c.args.table.now in
    let f : ℕ → ℕ = λ k. share c.args.self.issue c.args.self.price c.args.side (at_place t k) in
    let e : c.sum.result ≡ sum_by f (range_with_len 0 256) =
    sum_by_from_yields_List f (range_with_len 0 256) _ _ c.sum.ensures.ran
    (YieldsList-from_map _ f (YieldsList-from_range 0 256 256 (cc) refl) c.map.ensures.closure (λ x r q k. search rules)) in
    e ∙ sym (quantity_places c.args.self.issue c.args.self.price c.args.side t)
