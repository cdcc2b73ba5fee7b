use Rattle.std.proofs.Common.{sym, ◌∙◌}
use Rattle.book.proofs.Slots.{book_length}
use Rattle.book.proofs.places.Places.live.Goals as goal

pub returns-clause-count : goal.returns-clause-count
returns-clause-count c = c.taken.ensures ∙ sym (book_length c.args.self.now.slots)
