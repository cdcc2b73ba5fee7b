use Rattle.opening.proofs.Openings.{prices_open}
use Rattle.opening.proofs.laws.price_opens.Goals as goal

pub returns : goal.returns
returns c = prices_open
