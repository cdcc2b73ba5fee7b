use Rattle.matching.proofs.Proved.{attempts_fair}
use Rattle.matching.proofs.laws.attempts_fair.Goals as goal

pub returns : goal.returns
returns c = attempts_fair
