use Rattle.std.proofs.Common.{ap, ◌∙◌, eqb}
use Rattle.matching.specs.Listing.{facing}
use Rattle.matching.proofs.Walking.{unfilled_amount, fill_end}
use Rattle.matching.proofs.walk.fills.Goals as goal

pub returns : goal.returns
returns c =
    let a = c.args.a.now in
    let os = facing a c.args.rows.now in
    ap (λ w. eqb w 0) c.unfilled.ensures ∙ fill_end _ _ a.left (unfilled_amount a.left os)
