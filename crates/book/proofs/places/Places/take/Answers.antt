use Rattle.std.proofs.Common.{sym}
use Rattle.book.specs.Places.{book}
use Rattle.orders.proofs.Changes.{reduced_none}
use Rattle.book.proofs.places.Places.take.Goals as goal

pub returns-in_default : goal.returns-in_default
returns-in_default c = sym (reduced_none c.args.number c.args.q (book c.args.self.now.slots) (sym c.in_default.ensures.order))
