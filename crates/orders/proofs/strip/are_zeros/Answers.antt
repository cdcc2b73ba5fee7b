use Rattle.std.proofs.Common.{ap, ◌∙◌, eqb}
use Rattle.orders.proofs.Strips.{none_greater}
use Rattle.orders.proofs.strip.are_zeros.Goals as goal

pub returns : goal.returns
returns c = ap (λ n. eqb n 0) c.greatest.ensures ∙ none_greater 0 c.args.strip.now
