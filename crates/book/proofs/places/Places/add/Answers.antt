use Rattle.std.proofs.Common.{ap, ◌∙◌, sym, arith}
use Rattle.orders.specs.Book.{number_of, stamp_of}
use Rattle.book.specs.Places.{book}
use Rattle.book.proofs.Slots.{alone_fresh, free_at, book_filled, book_full}
use Rattle.book.proofs.places.Places.add.Goals as goal

pub write-requires-clause-apart : goal.write-requires-clause-apart
write-requires-clause-apart c =
    let ss = c.args.self.now.slots in
    let o = c.args.o in
    (alone_fresh number_of ss c.in-Some.place o c.requires.fresh.0, alone_fresh stamp_of ss c.in-Some.place o c.requires.fresh.1)

pub returns-in-Some : goal.returns-in-Some
returns-in-Some c =
    let t = c.args.self.now in
    let f = free_at t.slots c.in-Some.place (sym c.in-Some.ensures) in
    ap book c.write.ensures ∙ book_filled t.slots c.in-Some.place c.args.o f.0 f.1 c.requires.fresh.0

pub returns-in_default : goal.returns-in_default
returns-in_default c =
    let t = c.args.self.now in
    absurd (omega (arith, c.requires.room, book_full t.slots (sym c.in_default.ensures), t.long))
