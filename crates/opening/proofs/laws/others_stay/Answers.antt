use Rattle.opening.proofs.Fairness.{others_stay}
use Rattle.opening.proofs.laws.others_stay.Goals as goal

pub returns : goal.returns
returns c = others_stay
