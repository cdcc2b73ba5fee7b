use Rattle.std.proofs.Common.{refl}
use Rattle.orders.specs.Book.{number_of, stamp_of}
use Rattle.book.proofs.Slots.{empty_apart}
use Rattle.book.proofs.places.Places.new.Goals as goal

pub invariant_of-result : goal.invariant_of-result
invariant_of-result c = record { numbers = empty_apart number_of 256; stamps = empty_apart stamp_of 256; long = refl; valid = refl }
