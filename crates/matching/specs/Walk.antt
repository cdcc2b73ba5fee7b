-- The walk of an active order over the orders opposite.
use Rattle.std.specs.Prelude.{ℕ, ◌+◌, ◌-◌, min, max, Bool, cond, ◌&&◌, List, [], ◌∷◌, Some, None, filter, find, Option, ◌==◌, nat_le}
use Rattle.orders.specs.declared.order.Order.{Order}
use Rattle.orders.specs.declared.order.Term.{Term}
use Rattle.orders.specs.declared.order.Term.TheVariants.{Plain, All, Least}
use Rattle.orders.specs.Orders.{within, working_opposite}
use Rattle.orders.specs.Rank.{in_rank, ahead}
use Rattle.orders.specs.Book.{Book, without}

-- a working order of the active order's issue on the other side, at a price that meets its limit
abbrev pub faces : Order → Order → Bool
faces a o = working_opposite a.issue a.side o && within a.side a.price o.price

-- the orders that the active order walks, in rank order
abbrev pub candidates : Order → Book → List Order
candidates a b = in_rank ahead (filter (faces a) b)

-- what a waiting order with this term and quantity left gives where w is wanted
abbrev pub gives : Term → ℕ → ℕ → ℕ
gives Plain left w = min w left
gives All left w = cond (nat_le left w) left 0
gives (Least m) left w = cond (nat_le m (min w left)) (min w left) 0

-- what a waiting order gives to the active order
pub record Part : Type 0 where
  pub from : Order
  pub quantity : ℕ

abbrev pub part : Order → ℕ → Part
part o q = record { from = o; quantity = q }

-- an order that gives nothing is passed over
abbrev pub taken : Order → ℕ → List Part → List Part
taken o q ps = cond (q == 0) ps (part o q ∷ ps)

-- the parts of a walk for w
abbrev pub walk : ℕ → List Order → List Part
walk w [] = []
walk w (o ∷ os) = let q : ℕ = gives o.term o.left w in taken o q (walk (w - q) os)

abbrev pub amount : List Part → ℕ
amount [] = 0
amount (p ∷ ps) = p.quantity + amount ps

-- the first order that gives a part of at least m where w is wanted
abbrev pub first_giving : ℕ → ℕ → List Order → Option Order
first_giving m w os = find (λ o. nat_le (max m 1) (gives o.term o.left w)) os

-- a least order's first part; then it is plain and walks anew, over all the others
abbrev pub least_parts : ℕ → Option Order → List Order → List Part
least_parts w None os = []
least_parts w (Some o) os = let q : ℕ = gives o.term o.left w in part o q ∷ walk (w - q) (without o.number os)

-- the parts that an active order with this term and quantity left trades
abbrev pub parts : Term → ℕ → List Order → List Part
parts Plain w os = walk w os
parts All w os = let ps : List Part = walk w os in cond (amount ps == w) ps []
parts (Least m) w os = least_parts w (first_giving m w os) os
