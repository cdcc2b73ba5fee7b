use Rattle.matching.proofs.Actives.{active_said}
use Rattle.matching.proofs.laws.active_said.Goals as goal

pub returns : goal.returns
returns c = active_said
