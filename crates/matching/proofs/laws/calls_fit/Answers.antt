use Rattle.matching.proofs.Proved.{calls_fit}
use Rattle.matching.proofs.laws.calls_fit.Goals as goal

pub returns : goal.returns
returns c = calls_fit
