-- What is true of attempts and rounds, in words.
use Rattle.std.specs.Prelude.{◌≡◌, ℕ, ◌+◌, ◌<◌, ◌≤◌, Bool, true, cond, ◌||◌, ◌⊎◌, List, [], ◌∷◌, length, Some, None, filter, Option, ◌==◌, ◌≢◌, nat_eq}
use Rattle.std.specs.List.{AllByRecursion as EveryOne}
use Rattle.orders.specs.declared.order.Order.{Order}
use Rattle.orders.specs.declared.order.Trade.{Trade}
use Rattle.orders.specs.declared.order.Side.{Side}
use Rattle.orders.specs.declared.order.Side.TheVariants.{Buy, Sell}
use Rattle.orders.specs.declared.order.Term.TheVariants.{Plain, All}
use Rattle.book.specs.declared.table.Table.{Table}
use Rattle.orders.specs.Search.{In}
use Rattle.orders.specs.Book.{Book, find, without, after}
use Rattle.orders.specs.Laws.{Sound, AllFair, Ahead}
use Rattle.book.specs.Table.{book_of, at_place}
use Rattle.matching.specs.Attempt.{attempt, attempt_of}
use Rattle.matching.specs.Rounds.{ready, active_in, Rounds, rounds, all_rounds}

-- Attempts.
abbrev pub of_issue : ℕ → Book → Book
of_issue j b = filter (λ o. nat_eq o.issue j) b

-- the order n takes part in the trade
abbrev pub is_of : ℕ → Trade → Bool
is_of n t = t.buy == n || t.sell == n

-- what the order n trades in all
abbrev pub traded : ℕ → List Trade → ℕ
traded n [] = 0
traded n (t ∷ ts) = cond (is_of n t) t.quantity 0 + traded n ts

-- every all order of the book, active or waiting, trades nothing or all that it has left
abbrev pub AllOrNone : Book → List Trade → Type 0
AllOrNone b ts = (n : ℕ) (o : Order) → find n b ≡ Some o → o.term ≡ All → (traded n ts ≡ 0) ⊎ (traded n ts ≡ o.left)

-- each trade is fair on the book that those before it leave; so a least m order's first trade is at least m
pub record TradesWell (b : Book) (ts : List Trade) : Type 0 where
  pub fair : AllFair ts b
  pub whole : AllOrNone b ts
  pub sound : Sound (after ts b)
  pub few : length ts + length (after ts b) ≤ length b

-- the trade is one of the active order a with an order of the book, at the price of that order
pub record AtWaitingPrice (a : Order) (b : Book) (t : Trade) : Type 0 where
  pub waiting : Order
  pub live : In waiting b
  pub price : t.price ≡ waiting.price
  pub sides : ((t.buy ≡ a.number) × (t.sell ≡ waiting.number)) ⊎ ((t.sell ≡ a.number) × (t.buy ≡ waiting.number))

pub record Attempted (a : Order) (b : Book) (ts : List Trade) : Type 0 where
  pub trades : TradesWell b ts
  pub prices : EveryOne (AtWaitingPrice a b) ts
  -- the orders of other issues stay as they are
  pub others : (j : ℕ) → (a.issue ≢ j) → of_issue j (after ts b) ≡ of_issue j b

abbrev pub AttemptsFair : Type 0
AttemptsFair = (a : Order) (b : Book) → Sound b → In a b → a.working ≡ true → Attempted a b (attempt a b)

-- Rounds.
pub record PlainOrder (i : ℕ) (s : Side) (o : Order) : Type 0 where
  pub issue : o.issue ≡ i
  pub side : o.side ≡ s
  pub working : o.working ≡ true
  pub plain : o.term ≡ Plain

-- Who is active, in words.
-- a working special order of the issue on the side whose attempt would trade
pub record ReadyOrder (i : ℕ) (s : Side) (b : Book) (o : Order) : Type 0 where
  pub live : In o b
  pub issue : o.issue ≡ i
  pub side : o.side ≡ s
  pub working : o.working ≡ true
  pub special : o.term ≡ Plain → ⊥
  pub trades : attempt o b ≡ [] → ⊥

-- a working plain order of the issue on the side that no other is ahead of
pub record BestOrder (i : ℕ) (s : Side) (b : Book) (o : Order) : Type 0 where
  pub live : In o b
  pub plain : PlainOrder i s o
  pub first : (x : Order) → In x b → PlainOrder i s x → Ahead x o → ⊥

-- the best plain buy is priced at or above the best plain sell, and a is the later-stamped of the two
pub record Crossed (i : ℕ) (b : Book) (a : Order) : Type 0 where
  pub buy : Order
  pub sell : Order
  pub best_buy : BestOrder i Buy b buy
  pub best_sell : BestOrder i Sell b sell
  pub meet : sell.price ≤ buy.price
  pub later : ((a ≡ buy) × (sell.stamp ≤ buy.stamp)) ⊎ ((a ≡ sell) × (buy.stamp < sell.stamp))

abbrev pub other : Side → Side
other Buy = Sell
other Sell = Buy

-- no plain orders cross, and a is ready: no ready order on its side is ahead of it where that side alone has any, and none has a lower stamp where both have
pub record Named (i : ℕ) (b : Book) (a : Order) : Type 0 where
  pub apart : (x y : Order) → In x b → In y b → PlainOrder i Buy x → PlainOrder i Sell y → x.price < y.price
  pub is_ready : ReadyOrder i a.side b a
  pub one_side : ((o : Order) → ReadyOrder i (other a.side) b o → ⊥) → (o : Order) → ReadyOrder i a.side b o → Ahead o a → ⊥
  pub both_sides : (o : Order) → ReadyOrder i (other a.side) b o → (s : Side) (x : Order) → ReadyOrder i s b x → a.stamp ≤ x.stamp

-- the order that a round makes active, and that it trades
pub record Active (i : ℕ) (b : Book) (a : Order) : Type 0 where
  pub who : Crossed i b a ⊎ Named i b a
  pub trades : attempt a b ≡ [] → ⊥

abbrev pub ActiveSaid : Type 0
ActiveSaid = (i : ℕ) (b : Book) → Sound b → (a : Order) → active_in i b ≡ Some a → Active i b a

-- The quiet book of an issue: each working plain buy is priced below each working plain sell, and no working special order would trade.
pub record Quiet (i : ℕ) (b : Book) : Type 0 where
  pub no_cross : (x y : Order) → In x b → In y b → PlainOrder i Buy x → PlainOrder i Sell y → x.price < y.price
  pub none_ready : (o : Order) → In o b → o.issue ≡ i → o.working ≡ true → (o.term ≢ Plain) → attempt o b ≡ []

-- whether an issue is quiet is a matter of its own orders alone
abbrev pub QuietLocal : Type 0
QuietLocal = (j : ℕ) (b c : Book) → of_issue j b ≡ of_issue j c → Quiet j b → Quiet j c

-- the rounds leave a quiet issue, each of them trades, and the orders of other issues stay as they are
pub record Settles (i : ℕ) (b : Book) (r : Rounds) : Type 0 where
  pub trades : TradesWell b r.trades
  pub each : r.count ≤ length r.trades
  pub quiet : Quiet i (after r.trades b)
  pub others : (j : ℕ) → (i ≢ j) → of_issue j (after r.trades b) ≡ of_issue j b
  pub still_quiet : (j : ℕ) → Quiet j b → Quiet j (after r.trades b)
  -- more rounds than live orders change nothing
  pub enough : (k : ℕ) → length b ≤ k → rounds k i b ≡ r

abbrev pub RoundsSettle : Type 0
RoundsSettle = (i : ℕ) (b : Book) → Sound b → Settles i b (all_rounds i b)

-- A call: an attempt on a book that may hold an order more than before the call, an order that may then be dropped, and rounds.
-- There are at most as many trades as live orders, so one more than before the call.
abbrev pub dropped : Option ℕ → Book → Book
dropped None b = b
dropped (Some n) b = without n b

pub record CallFits (b : Book) (ts : List Trade) (c : Book) (us : List Trade) : Type 0 where
  pub sound : Sound c
  pub few : (length ts + length us) + length (after us c) ≤ length b

abbrev pub CallsFit : Type 0
CallsFit = (n : ℕ) (drop : Option ℕ) (i : ℕ) (b : Book) → Sound b →
    let ts : List Trade = attempt_of n b in
    let c : Book = dropped drop (after ts b) in
    CallFits b ts c (all_rounds i c).trades

-- The row decides nothing: tables that hold the same orders, in whatever places, trade alike.
pub record TradeAlike (b c : Book) : Type 0 where
  pub attempts : (n : ℕ) → attempt_of n b ≡ attempt_of n c
  pub readies : (i : ℕ) → filter (ready i b) b ≡ filter (ready i c) c
  pub actives : (i : ℕ) → active_in i b ≡ active_in i c
  pub all_alike : (i : ℕ) → all_rounds i b ≡ all_rounds i c
  pub afters : (ts : List Trade) → after ts b ≡ after ts c

abbrev pub RowsFree : Type 0
RowsFree = (t u : Table) → ((i : ℕ) (o : Order) → at_place t i ≡ Some o → (j : ℕ) × (at_place u j ≡ Some o)) →
    ((j : ℕ) (o : Order) → at_place u j ≡ Some o → (i : ℕ) × (at_place t i ≡ Some o)) → TradeAlike (book_of t) (book_of u)
