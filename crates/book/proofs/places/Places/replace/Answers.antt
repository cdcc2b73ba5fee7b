use Rattle.std.proofs.Common.{sym, ap, ◌∙◌}
use Rattle.book.specs.Places.{book}
use Rattle.orders.proofs.Changes.{changed_none}
use Rattle.book.proofs.Writes.{number_alone, stamp_alone, book_written}
use Rattle.book.proofs.places.Places.replace.Goals as goal

pub write-requires-clause-apart : goal.write-requires-clause-apart
write-requires-clause-apart c =
    let t = c.args.self.now in
    let p = c.in-Some.field-0-1 in
    let f = rw (c.in-Some.is) at c.held.ensures.place in
    (number_alone t c.in-Some.place p f.0 f.1 c.args.o f.2, stamp_alone t c.in-Some.place p f.0 f.1 c.args.o f.2 c.requires.stamp)

pub returns-in-Some : goal.returns-in-Some
returns-in-Some c =
    let f = rw (c.in-Some.is) at c.held.ensures.place in
    ap book c.write.ensures ∙ book_written c.args.self.now c.in-Some.place c.in-Some.field-0-1 f.0 f.1 c.args.o f.2

pub returns-in_default : goal.returns-in_default
returns-in_default c =
    let o = c.args.o in
    sym (changed_none o.number (λ _. o) (book c.args.self.now.slots) (sym c.in_default.ensures.order))
