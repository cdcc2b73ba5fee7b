use Rattle.std.proofs.Common.{rules, ◌≡◌, ◌∙◌}
use Rattle.std.specs.Option.{option_map}
use Rattle.book.specs.Table.{book_of, at_place}
use Rattle.opening.specs.Opening.{limit_of}
use Rattle.opening.specs.Prices.{best_candidate}
use Rattle.opening.proofs.price.best_candidate.Goals as goal

pub returns : goal.returns
returns c =
    let t = c.args.table.now in
    let f = c.first.ensures (λ k. limit_of c.args.issue c.args.close (book_of t) (at_place t k)) (λ i r h post. search rules) in
    let same : c.map.result ≡ option_map (λ b. b.1) c.first.result = search rules in
    same ∙ best_candidate c.args.issue c.args.close t c.first.result f
