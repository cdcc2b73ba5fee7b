use Rattle.runs.proofs.promise_kept.Goals as goal
use Rattle.runs.proofs.Replays.{promise_kept}

pub returns : goal.returns
returns c = promise_kept
