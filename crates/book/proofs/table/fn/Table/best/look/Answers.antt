use Rattle.std.proofs.Common.{rules}
use Rattle.book.proofs.table.fn.Table.best.look.Goals as goal

pub returns : goal.returns
returns g c = λ p says. let b = says c.in_ok-o.o c.test.result (search rules) in search rules
