use Rattle.orders.specs.Ranks.{rank_decides}
use Rattle.orders.proofs.laws.rank_decides.Goals as goal

pub returns : goal.returns
returns c = rank_decides
