use Rattle.std.proofs.Common.{◌<◌, length, Some, sym, ap, ◌∙◌, rules}
use Rattle.orders.specs.Orders.{in_bounds}
use Rattle.orders.specs.Book.{number_of, stamp_of}
use Rattle.book.specs.Places.{at}
use Rattle.orders.proofs.Validity.{bounds_lowered}
use Rattle.book.proofs.Slots.{apart_set, alone_like, bounded_set, bounded_at, less_left}
use Rattle.book.proofs.places.Places.lower.Goals as goal

pub invariant_of-self : goal.invariant_of-self
invariant_of-self c =
    let t = c.args.self.now in
    let ss = t.slots in
    let i = c.args.place in
    let o = c.in-Some.o in
    let p = c.reduce.new.o in
    let is = c.in-Some.is in
    let e = c.reduce.ensures in
    let h : i < length ss = search rules in record { numbers = apart_set number_of ss i (Some p) h t.numbers (alone_like number_of ss i o p is (ap number_of (sym e)) t.numbers); stamps = apart_set stamp_of ss i (Some p) h t.stamps (alone_like stamp_of ss i o p is (ap stamp_of (sym e)) t.stamps); long = search rules; valid = bounded_set ss i (Some p) t.valid (ap in_bounds e ∙ bounds_lowered c.args.q o (less_left (at ss i) o c.args.q is c.requires.less) (bounded_at ss i o t.valid is)) }
