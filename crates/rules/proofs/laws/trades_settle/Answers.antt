use Rattle.rules.proofs.Settlements.{trades_settle}
use Rattle.rules.proofs.laws.trades_settle.Goals as goal

pub returns : goal.returns
returns c = trades_settle
