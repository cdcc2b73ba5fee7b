use Rattle.opening.proofs.Words.{rows_free}
use Rattle.opening.proofs.laws.rows_free.Goals as goal

pub returns : goal.returns
returns c = rows_free
