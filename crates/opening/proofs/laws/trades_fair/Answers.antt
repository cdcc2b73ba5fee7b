use Rattle.opening.proofs.Fairness.{trades_fair}
use Rattle.opening.proofs.laws.trades_fair.Goals as goal

pub returns : goal.returns
returns c = trades_fair
