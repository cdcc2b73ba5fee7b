use Rattle.std.proofs.Common.{sym, refl, ◌∙◌}
use Rattle.orders.specs.Book.{stamp_of, suspended}
use Rattle.book.specs.Places.{book}
use Rattle.orders.proofs.Changes.{changed_none}
use Rattle.book.proofs.Counters.{own_same}
use Rattle.book.proofs.Slots.{book_distinct, found_bounds}
use Rattle.book.proofs.Writes.{change_found}
use Rattle.book.proofs.places.Places.suspend.Goals as goal

pub replace-requires : goal.replace-requires
replace-requires c =
    let t = c.args.self.now in
    let o = c.in-Some.o in
    let e = sym c.in-Some.ensures in
    record { stamp = own_same c.args.number (book t.slots) o (suspended o) (book_distinct stamp_of t.slots t.stamps) e refl refl; bounds = found_bounds t.slots c.args.number o t.valid e }

pub returns-in-Some : goal.returns-in-Some
returns-in-Some c = c.replace.ensures ∙ change_found c.args.self.now suspended c.args.number c.in-Some.o c.in-Some.ensures refl

pub returns-in_default : goal.returns-in_default
returns-in_default c = sym (changed_none c.args.number suspended (book c.args.self.now.slots) (sym c.in_default.ensures))
