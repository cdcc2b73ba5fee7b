use Rattle.opening.proofs.Alike.{issues_apart}
use Rattle.opening.proofs.laws.issues_apart.Goals as goal

pub returns : goal.returns
returns c = issues_apart
