use Rattle.matching.proofs.Proved.{rounds_settle}
use Rattle.matching.proofs.laws.rounds_settle.Goals as goal

pub returns : goal.returns
returns c = rounds_settle
