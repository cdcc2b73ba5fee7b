use Rattle.std.proofs.Common.{ap, ◌∙◌}
use Rattle.book.specs.Places.{book}
use Rattle.book.proofs.Writes.{book_traded, book_less}
use Rattle.book.proofs.places.Places.take_at.Goals as goal

pub returns-then-q-o : goal.returns-then-q-o
returns-then-q-o c = ap book c.write.ensures ∙ book_traded c.args.self.now c.args.place c.args.o c.requires.0 c.requires.1 c.args.q c.if-q-o.true

pub returns-else-q-o : goal.returns-else-q-o
returns-else-q-o c = ap book (c.lower.ensures c.args.o c.requires.1) ∙ book_less c.args.self.now c.args.place c.args.o c.requires.0 c.requires.1 c.args.q c.if-q-o.false
