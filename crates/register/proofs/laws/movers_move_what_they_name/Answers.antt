use Rattle.register.proofs.Changes.{movers_move_what_they_name}
use Rattle.register.proofs.laws.movers_move_what_they_name.Goals as goal

pub returns : goal.returns
returns c = movers_move_what_they_name
