use Rattle.std.proofs.Common.{◌≡◌, Some, sym, ◌∙◌}
use Rattle.book.specs.Places.{at}
use Rattle.book.proofs.Slots.{lowest_some, lowest_none}
use Rattle.book.proofs.places.Places.lowest.Goals as goal

pub returns-in_err-place : goal.returns-in_err-place
returns-in_err-place c = let none = rw (c.in_err-place.was) at c.lowest_number.ensures in rw c.from_residual.ensures (lowest_none c.args.self.now.slots 256 c.args.self.now.long none)

pub returns : goal.returns
returns c =
    let t = c.args.self.now in
    let f = rw (c.in_ok-place.was) at c.lowest_number.ensures in
    let o = c.in_ok-o.o in
    let e : at t.slots c.in_ok-place.place ≡ Some o = sym c.get.ensures ∙ c.in_ok-o.was in
    (f.0, e, lowest_some t.slots 256 c.in_ok-place.place c.in_ok-place.field-0-1 o t.long t.numbers f e)
