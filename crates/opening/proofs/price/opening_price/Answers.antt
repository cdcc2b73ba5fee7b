use Rattle.std.proofs.Common.{rules}
use Rattle.book.specs.Table.{book_of}
use Rattle.opening.proofs.Openings.{opens_said}
use Rattle.opening.proofs.price.opening_price.Goals as goal

pub returns-clause-opens : goal.returns-clause-opens
returns-clause-opens c = opens_said c.args.issue c.args.close (book_of c.args.table.now) _ (search rules)
