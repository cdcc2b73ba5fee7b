use Rattle.opening.proofs.Words.{trades_add_up}
use Rattle.opening.proofs.laws.trades_add_up.Goals as goal

pub returns : goal.returns
returns c = trades_add_up
