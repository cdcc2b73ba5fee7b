use Rattle.matching.proofs.Proved.{rows_free}
use Rattle.matching.proofs.laws.rows_free.Goals as goal

pub returns : goal.returns
returns c = rows_free
