-- The trades of an attempt.
use Rattle.std.specs.Prelude.{ℕ, cond, List, [], map, Some, None, Option}
use Rattle.orders.specs.declared.order.Order.{Order}
use Rattle.orders.specs.declared.order.Trade.{Trade}
use Rattle.orders.specs.declared.order.Side.{Side}
use Rattle.orders.specs.declared.order.Side.TheVariants.{Buy, Sell}
use Rattle.orders.specs.Book.{Book, find}
use Rattle.matching.specs.Walk.{Part, candidates, parts}

-- the trade of the active order a with the waiting order o, at the price of o
abbrev pub trade_of : Side → Order → Order → ℕ → Trade
trade_of Buy a o q = record { issue = a.issue; buy = a.number; sell = o.number; buyer = a.account; seller = o.account; quantity = q; price = o.price }
trade_of Sell a o q = record { issue = a.issue; buy = o.number; sell = a.number; buyer = o.account; seller = a.account; quantity = q; price = o.price }

abbrev pub trades_of : Order → List Part → List Trade
trades_of a ps = map (λ p. trade_of a.side a p.from p.quantity) ps

-- the trades of the active order's attempt
abbrev pub attempt : Order → Book → List Trade
attempt a b = trades_of a (parts a.term a.left (candidates a b))

-- an order that is not live or not working makes none
abbrev pub if_working : Option Order → Book → List Trade
if_working None b = []
if_working (Some a) b = cond a.working (attempt a b) []

abbrev pub attempt_of : ℕ → Book → List Trade
attempt_of n b = if_working (find n b) b
