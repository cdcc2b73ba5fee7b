use Rattle.book.proofs.Tables.{tables_alike}
use Rattle.book.proofs.laws.tables_alike.Goals as goal

pub returns : goal.returns
returns c = tables_alike
