use Rattle.opening.proofs.Words.{best_first}
use Rattle.opening.proofs.laws.best_first.Goals as goal

pub returns : goal.returns
returns c = best_first
