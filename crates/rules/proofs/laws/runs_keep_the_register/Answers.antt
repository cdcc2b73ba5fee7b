use Rattle.rules.proofs.Registers.{runs_keep_the_register}
use Rattle.rules.proofs.laws.runs_keep_the_register.Goals as goal

pub returns : goal.returns
returns c = runs_keep_the_register
