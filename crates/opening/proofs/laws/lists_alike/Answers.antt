use Rattle.opening.proofs.Alike.{lists_alike}
use Rattle.opening.proofs.laws.lists_alike.Goals as goal

pub returns : goal.returns
returns c = lists_alike
