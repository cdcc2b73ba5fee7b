-- The book: the live orders, ascending by number; and what calls and trades do to it.
use Rattle.std.specs.Prelude.{ℕ, ◌-◌, Bool, true, false, cond, not, List, [], ◌∷◌, Some, None, filter, Option, ◌==◌}
use Rattle.orders.specs.declared.order.Order.{Order}
use Rattle.orders.specs.declared.order.Trade.{Trade}
use Rattle.orders.specs.declared.order.Entry.{Entry}
use Rattle.orders.specs.declared.order.Side.{Side}
use Rattle.orders.specs.declared.order.Term.{Term}
use Rattle.orders.specs.declared.order.Term.TheVariants.{Plain, All, Least}
use Rattle.orders.specs.Orders.{working_opposite}
use Rattle.orders.specs.Rank.{first_by, ahead}

abbrev pub Book : Type 0
Book = List Order

abbrev pub number_of : Order → ℕ
number_of o = o.number

abbrev pub stamp_of : Order → ℕ
stamp_of o = o.stamp

-- the live order of number n
abbrev pub find : ℕ → Book → Option Order
find n [] = None
find n (o ∷ os) = cond (o.number == n) (Some o) (find n os)

-- the best-ranked working order opposite
abbrev pub best_opposite : ℕ → Side → Book → Option Order
best_opposite i s b = first_by ahead (filter (working_opposite i s) b)

-- Calls.
-- an entry as an order with this limit, number and stamp
abbrev pub placed : Entry → ℕ → ℕ → ℕ → Order
placed e p n k =
    record { number = n; account = e.account; issue = e.issue; side = e.side; price = p; left = e.quantity; term = e.term; stamp = k; working = true }

-- another quantity left, price and term; and the stamp k if a new one is asked for
abbrev pub amended : ℕ → ℕ → Term → Bool → ℕ → Order → Order
amended q p t again k o =
    record { number = o.number; account = o.account; issue = o.issue; side = o.side; price = p; left = q; term = t; stamp = cond again k o.stamp; working = o.working }

abbrev pub suspended : Order → Order
suspended o =
    record { number = o.number; account = o.account; issue = o.issue; side = o.side; price = o.price; left = o.left; term = o.term; stamp = o.stamp; working = false }

-- back to work, with the stamp k
abbrev pub resumed : ℕ → Order → Order
resumed k o =
    record { number = o.number; account = o.account; issue = o.issue; side = o.side; price = o.price; left = o.left; term = o.term; stamp = k; working = true }

-- the order of number n is changed in its place, every other stays as it is
abbrev pub changed : ℕ → (Order → Order) → Book → Book
changed n f [] = []
changed n f (o ∷ os) = cond (o.number == n) (f o) o ∷ changed n f os

-- the order of p's number is replaced by p
abbrev pub replaced : Order → Book → Book
replaced p b = changed p.number (λ _. p) b

-- the order of number n is ended
abbrev pub without : ℕ → Book → Book
without n b = filter (λ o. not (o.number == n)) b

-- the order taken out, if there is one, and then the others
abbrev pub first_then : Option Order → Book → Book
first_then None b = b
first_then (Some o) b = o ∷ b

-- Trades.
-- a least term lasts through its first trade
abbrev pub loosened : Term → Term
loosened Plain = Plain
loosened All = All
loosened (Least m) = Plain

-- the order has traded q
abbrev pub lowered : ℕ → Order → Order
lowered q o =
    record { number = o.number; account = o.account; issue = o.issue; side = o.side; price = o.price; left = o.left - q; term = loosened o.term; stamp = o.stamp; working = o.working }

-- an order with nothing left is no longer live
abbrev pub if_left : Order → Book → Book
if_left o os = cond (o.left == 0) os (o ∷ os)

-- the order of number n trades q
abbrev pub reduced : ℕ → ℕ → Book → Book
reduced n q [] = []
reduced n q (o ∷ os) = cond (o.number == n) (if_left (lowered q o) os) (o ∷ reduced n q os)

abbrev pub after_trade : Trade → Book → Book
after_trade t b = reduced t.buy t.quantity (reduced t.sell t.quantity b)

abbrev pub after : List Trade → Book → Book
after [] b = b
after (t ∷ ts) b = after ts (after_trade t b)
