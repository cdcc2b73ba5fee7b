use Rattle.rules.proofs.Accepted.{refusals_change_nothing}
use Rattle.rules.proofs.laws.refusals_change_nothing.Goals as goal

pub returns : goal.returns
returns c = refusals_change_nothing
