use Rattle.matching.proofs.Issues.{quiet_local}
use Rattle.matching.proofs.laws.quiet_local.Goals as goal

pub returns : goal.returns
returns c = quiet_local
