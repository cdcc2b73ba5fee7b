use Rattle.std.proofs.Common.{refl}
use Rattle.register.specs.Rules.{issues}
use Rattle.examples.proofs.calls_answer_as_worked.Goals as goal

pub returns : goal.returns
unfolding issues
returns c = refl
