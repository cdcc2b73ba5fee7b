use Rattle.std.proofs.Common.{ℕ, is_some, unwrap_or, sym, refl, ap, ◌∙◌}
use Rattle.orders.specs.declared.order.Order.{Order}
use Rattle.orders.specs.Book.{stamp_of, amended, replaced}
use Rattle.book.specs.Places.{book}
use Rattle.orders.proofs.Changes.{changed_none}
use Rattle.book.proofs.Counters.{own_either, stamp_or}
use Rattle.book.proofs.Slots.{book_distinct}
use Rattle.book.proofs.Writes.{change_found}
use Rattle.book.proofs.places.Places.amend.Goals as goal

pub replace-requires-clause-stamp : goal.replace-requires-clause-stamp
replace-requires-clause-stamp c =
    let a = c.args in
    let t = a.self.now in
    let o = c.in-Some.o in
    let p : Order = record o { price = a.price; left = a.quantity; term = a.term; stamp = c.unwrap_or.result } in
    own_either a.number a.fresh (book t.slots) o p (book_distinct stamp_of t.slots t.stamps) (sym c.in-Some.ensures) c.requires.stamp c.unwrap_or.ensures refl

pub returns-in-Some : goal.returns-in-Some
returns-in-Some c =
    let o = c.in-Some.o in
    let a = c.args in
    let f : Order → Order = amended a.quantity a.price a.term (is_some a.fresh) (unwrap_or a.fresh 0) in
    let stamped : ℕ → Order = λ k. record o { price = a.price; left = a.quantity; term = a.term; stamp = k } in
    c.replace.ensures ∙ ap (λ k. replaced (stamped k) (book a.self.now.slots)) (c.unwrap_or.ensures ∙ stamp_or a.fresh o.stamp) ∙ change_found a.self.now f a.number o c.in-Some.ensures refl

pub returns-in_default : goal.returns-in_default
returns-in_default c =
    let a = c.args in
    sym (changed_none a.number (amended a.quantity a.price a.term (is_some a.fresh) (unwrap_or a.fresh 0)) (book a.self.now.slots) (sym c.in_default.ensures))
