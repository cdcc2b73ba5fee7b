use Rattle.std.proofs.Common.{◌<◌, length, rules}
use Rattle.orders.specs.Book.{number_of, stamp_of}
use Rattle.book.proofs.Slots.{apart_set, bounded_set}
use Rattle.book.proofs.places.Places.write.Goals as goal

pub invariant_of-self : goal.invariant_of-self
invariant_of-self c =
    let t = c.args.self.now in
    let i = c.args.place in
    let s = c.args.slot in
    let h : i < length t.slots = search rules in record { numbers = apart_set number_of t.slots i s h t.numbers c.requires.apart.0; stamps = apart_set stamp_of t.slots i s h t.stamps c.requires.apart.1; long = search rules; valid = bounded_set t.slots i s t.valid c.requires.bounds }
