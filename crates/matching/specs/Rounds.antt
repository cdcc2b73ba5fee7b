-- Rounds on one issue.
use Rattle.std.specs.Prelude.{ℕ, zero, suc, Bool, true, false, cond, not, ◌&&◌, List, [], ◌∷◌, ◌++◌, length, Some, None, filter, Option, ◌==◌, nat_le}
use Rattle.std.specs.Option.{option_or}
use Rattle.orders.specs.declared.order.Order.{Order}
use Rattle.orders.specs.declared.order.Trade.{Trade}
use Rattle.orders.specs.declared.order.Side.{Side}
use Rattle.orders.specs.declared.order.Side.TheVariants.{Buy, Sell}
use Rattle.orders.specs.Orders.{opposed, special, plain_in}
use Rattle.orders.specs.Rank.{first_by, ahead, earlier}
use Rattle.orders.specs.Book.{Book, after}
use Rattle.matching.specs.Attempt.{attempt}

-- the first by rank of the working plain orders of the issue on the side
abbrev pub best_plain : ℕ → Side → Book → Option Order
best_plain i s b = first_by ahead (filter (plain_in i s) b)

abbrev pub later : Order → Order → Order
later x y = cond (earlier x y) y x

-- the best plain buy at or above the best plain sell: the later-stamped of the two
abbrev pub crossing : Option Order → Option Order → Option Order
crossing None y = None
crossing (Some x) None = None
crossing (Some x) (Some y) = cond (nat_le y.price x.price) (Some (later x y)) None

abbrev pub any_trade : List Trade → Bool
any_trade [] = false
any_trade (t ∷ ts) = true

-- a working special order of the issue
abbrev pub special_in : ℕ → Order → Bool
special_in i o = o.issue == i && (special o.term && o.working)

-- a special order is ready if it is working and its attempt would trade
abbrev pub ready : ℕ → Book → Order → Bool
ready i b o = special_in i o && any_trade (attempt o b)

abbrev pub on_side : Side → Order → Bool
on_side s o = not (opposed s o.side)

-- where both sides have ready orders, the lowest stamp of them all; where one side has, the first of them by rank
abbrev pub by_sides : Option Order → Option Order → Option Order → Option Order
by_sides None sell lowest = sell
by_sides (Some x) None lowest = Some x
by_sides (Some x) (Some y) lowest = lowest

abbrev pub first_ready : List Order → Option Order
first_ready rs = by_sides (first_by ahead (filter (on_side Buy) rs)) (first_by ahead (filter (on_side Sell) rs)) (first_by earlier rs)

-- the order that a round makes active, if there is one
abbrev pub active_in : ℕ → Book → Option Order
active_in i b = option_or (crossing (best_plain i Buy b) (best_plain i Sell b)) (first_ready (filter (ready i b) b))

pub record Rounds : Type 0 where
  pub trades : List Trade
  pub count : ℕ

-- the active order makes its attempt, and the next round follows
abbrev pub round : Option Order → Book → (List Trade → Rounds) → Rounds
round None b next = record { trades = []; count = 0 }
round (Some a) b next =
    let ts : List Trade = attempt a b in
    let r : Rounds = next ts in
    record { trades = ts ++ r.trades; count = suc r.count }

-- rounds until no order is active, k at the most
abbrev pub rounds : ℕ → ℕ → Book → Rounds
rounds zero i b = record { trades = []; count = 0 }
rounds (suc k) i b = round (active_in i b) b (λ ts. rounds k i (after ts b))

-- each round ends an order, so as many as there are live orders are all
abbrev pub all_rounds : ℕ → Book → Rounds
all_rounds i b = rounds (length b) i b
