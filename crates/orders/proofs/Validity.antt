-- The bounds of an order as a test say what they say in words.
use Rattle.std.proofs.Common.{◌≡◌, ℕ, ◌<◌, true, false, arith}
use Rattle.std.proofs.lemmas.Grind.{common_steps}
use Rattle.orders.specs.declared.order.Order.{Order}
use Rattle.orders.specs.declared.order.Term.{Term}
use Rattle.orders.specs.declared.order.Term.TheVariants.{Least}
use Rattle.orders.specs.Book.{loosened, lowered}
use Rattle.orders.specs.Orders.{Valid, breaks_price, breaks_quantity, breaks_least, in_bounds}

pub bounds_valid : (o : Order) → in_bounds o ≡ true → Valid o
bounds_valid o h = grind (arith, common_steps)

-- an order is in bounds if its price, its quantity left and its least quantity are
pub bounds_from : (o : Order) → breaks_price o.price ≡ false → breaks_quantity o.left ≡ false → breaks_least o.term o.left ≡ false → in_bounds o ≡ true
bounds_from o p q l = grind (arith, common_steps)

pub valid_bounds : (o : Order) → Valid o → in_bounds o ≡ true
valid_bounds o v = grind (arith, common_steps)

-- an order that has traded has no least quantity
pub not_least : (t : Term) (m : ℕ) → loosened t ≡ Least m → ⊥
not_least t m e = grind (arith, common_steps)

-- an order that trades less than it has left stays within its bounds
pub valid_lowered : (q : ℕ) (o : Order) → q < o.left → Valid o → Valid (lowered q o)
valid_lowered q o lt v = grind (arith, common_steps)

pub bounds_lowered : (q : ℕ) (o : Order) → q < o.left → in_bounds o ≡ true → in_bounds (lowered q o) ≡ true
bounds_lowered q o lt h = valid_bounds (lowered q o) (valid_lowered q o lt (bounds_valid o h))
