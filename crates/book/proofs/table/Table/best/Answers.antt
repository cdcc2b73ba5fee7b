use Rattle.std.proofs.Common.{rules, ◌≡◌, ◌∙◌, refl, ℕ, Option}
use Rattle.std.specs.Option.{option_map}
use Rattle.orders.specs.declared.order.Order.{Order}
use Rattle.orders.specs.Search.{passing}
use Rattle.book.specs.Table.{at_place}
use Rattle.orders.specs.Ranks.{ahead_ranks, ahead_ties}
use Rattle.book.proofs.Tables.{best_of_table}
use Rattle.book.proofs.table.Table.best.Goals as goal

pub returns : goal.returns
returns g c = λ p says.
    let t = c.args.self.now in
    let at : ℕ → Option Order = λ k. passing p (at_place t k) in
    let f = c.first.ensures at (λ i r h post. post p says) in
    let same : c.map.result ≡ option_map (λ b. b.1) c.first.result = search rules in
    same ∙ best_of_table ahead_ranks ahead_ties t p at c.first.result (λ k h. refl) f
