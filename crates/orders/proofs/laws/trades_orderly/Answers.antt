use Rattle.orders.proofs.Trades.{trades_orderly}
use Rattle.orders.proofs.laws.trades_orderly.Goals as goal

pub returns : goal.returns
returns c = trades_orderly
