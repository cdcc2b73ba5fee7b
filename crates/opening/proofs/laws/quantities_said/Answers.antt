use Rattle.opening.proofs.Sums.{quantities_said}
use Rattle.opening.proofs.laws.quantities_said.Goals as goal

pub returns : goal.returns
returns c = quantities_said
