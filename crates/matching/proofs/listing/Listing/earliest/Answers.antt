use Rattle.std.proofs.Common.{◌≡◌, ℕ, Option, rules, ◌∙◌}
use Rattle.std.specs.Option.{option_map}
use Rattle.orders.specs.declared.rank.Stamped.{Stamped}
use Rattle.orders.specs.Stamps.{stamped}
use Rattle.matching.specs.Listing.{ready_at}
use Rattle.matching.proofs.Readiness.{earliest_is}
use Rattle.matching.proofs.listing.Listing.earliest.Goals as goal

pub returns : goal.returns
returns c =
    let rows = c.args.self.now.rows.now in
    let at : ℕ → Option Stamped = λ k. stamped (ready_at c.args.self.now.issue rows k) in
    let same : c.map.result ≡ option_map (λ b. b.1.order) c.first.result = search rules in
    same ∙ earliest_is c.args.self.now.table.now c.args.self.now.issue rows c.args.self.now.lists c.first.result (c.first.ensures at (λ i r h post. search rules))
