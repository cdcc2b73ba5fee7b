use Rattle.std.proofs.Common.{◌≡◌, ◌<◌, Some, sym, ap, ◌∙◌, subst, arith}
use Rattle.orders.specs.declared.order.Order.{Order}
use Rattle.orders.specs.Book.{find}
use Rattle.orders.specs.Lists.{none_some}
use Rattle.orders.proofs.Changes.{missing_find}
use Rattle.book.specs.Places.{book}
use Rattle.book.proofs.Slots.{held_at, find_at, missing_book}
use Rattle.book.proofs.places.Places.held.Goals as goal

pub returns-in_err-place-clause-order : goal.returns-in_err-place-clause-order
returns-in_err-place-clause-order c =
    let t = c.args.self.now in
    rw c.from_residual.ensures (sym (missing_find c.args.number (book t.slots) (missing_book t.slots c.args.number (sym c.place_of.ensures ∙ c.in_err-place.was))))

pub returns-in_err-o : goal.returns-in_err-o
returns-in_err-o c =
    let r = held_at c.args.self.now.slots c.args.number c.in_ok-place.place (sym c.place_of.ensures ∙ c.in_ok-place.was) in
    none_some r.0 (sym c.in_err-o.was ∙ c.get.ensures ∙ r.2)

pub returns : goal.returns
returns c =
    let t = c.args.self.now in
    let r = held_at t.slots c.args.number c.in_ok-place.place (sym c.place_of.ensures ∙ c.in_ok-place.was) in
    let e = sym c.get.ensures ∙ c.in_ok-o.was in
    let h : c.in_ok-place.place < 256 = omega (arith, r.1, t.long) in
    let same : r.0 ≡ c.in_ok-o.o = let f : Some r.0 ≡ Some c.in_ok-o.o = sym r.2 ∙ e in cc in
    let n = subst (λ (o : Order). o.number ≡ c.args.number) same r.3 in
    record { order = sym (ap (λ n. find n (book t.slots)) (sym n) ∙ find_at t.slots c.in_ok-place.place c.in_ok-o.o e t.numbers); place = (h, e, n) }
