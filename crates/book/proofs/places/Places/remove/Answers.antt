use Rattle.std.proofs.Common.{sym, ap, ◌∙◌}
use Rattle.book.specs.Places.{book}
use Rattle.orders.proofs.Changes.{without_none}
use Rattle.book.proofs.Writes.{book_without}
use Rattle.book.proofs.places.Places.remove.Goals as goal

pub returns-in_err-i-clause-book : goal.returns-in_err-i-clause-book
returns-in_err-i-clause-book c =
    let e = rw (c.in_err-i.was) at c.held.ensures.order in
    sym (without_none c.args.number (book c.args.self.now.slots) (sym e))

pub returns : goal.returns
returns c =
    let f = rw (c.in_ok-i.was) at c.held.ensures.place in
    let e = rw (c.in_ok-i.was) at c.held.ensures.order in
    record { order = e; book = ap book c.write.ensures ∙ book_without c.args.self.now c.in_ok-i.i c.in_ok-i.o f.0 f.1 c.args.number f.2 }
