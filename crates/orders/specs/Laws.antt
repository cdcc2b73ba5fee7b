-- What is true of books, trades and rank, in words.
use Rattle.std.specs.Prelude.{◌≡◌, ℕ, ◌+◌, ◌<◌, ◌≤◌, min, true, ◌⊎◌, List, [], ◌∷◌, length, Some, Decides, ◌≢◌}
use Rattle.std.specs.List.{AllByRecursion as EveryOne}
use Rattle.orders.specs.declared.order.Order.{Order}
use Rattle.orders.specs.declared.order.Trade.{Trade}
use Rattle.orders.specs.declared.order.Side.{Side}
use Rattle.orders.specs.declared.order.Side.TheVariants.{Buy, Sell}
use Rattle.orders.specs.declared.order.Term.{Term}
use Rattle.orders.specs.declared.order.Term.TheVariants.{Plain, Least}
use Rattle.orders.specs.Orders.{Valid}
use Rattle.orders.specs.Rank.{first_by, in_rank, ahead}
use Rattle.orders.specs.Search.{In}
use Rattle.orders.specs.Book.{Book, number_of, stamp_of, find, without, after, after_trade}

-- numbers ascend
abbrev pub Ascending : Book → Type 0
Ascending [] = Unit {0}
Ascending (o ∷ os) = EveryOne (λ x. o.number < x.number) os × Ascending os

-- no two of the list have one key
abbrev pub Distinct : {X : Type 0} → (X → ℕ) → List X → Type 0
Distinct key [] = Unit {0}
Distinct key (x ∷ xs) = EveryOne (λ y. key y ≢ key x) xs × Distinct key xs

-- a book as the market keeps it: numbers ascend, and each order is within its bounds and has a stamp of its own
pub record Sound (b : Book) : Type 0 where
  pub ascending : Ascending b
  pub valid : EveryOne Valid b
  pub stamps : Distinct stamp_of b

-- a trade between two live and working orders of the book: the lesser of what they have left, within both limits
pub record Fair (t : Trade) (b : Book) : Type 0 where
  pub buy : Order
  pub sell : Order
  pub buy_live : find t.buy b ≡ Some buy
  pub sell_live : find t.sell b ≡ Some sell
  pub buy_works : buy.working ≡ true
  pub sell_works : sell.working ≡ true
  pub buys : buy.side ≡ Buy
  pub sells : sell.side ≡ Sell
  pub buy_issue : buy.issue ≡ t.issue
  pub sell_issue : sell.issue ≡ t.issue
  pub buyer : t.buyer ≡ buy.account
  pub seller : t.seller ≡ sell.account
  pub lesser : t.quantity ≡ min buy.left sell.left
  pub some : 1 ≤ t.quantity
  pub low : sell.price ≤ t.price
  pub high : t.price ≤ buy.price
  -- a least order's first trade, through which its term lasts, is at least its m
  pub buy_least : (m : ℕ) → buy.term ≡ Least m → m ≤ t.quantity
  pub sell_least : (m : ℕ) → sell.term ≡ Least m → m ≤ t.quantity

-- each trade is fair on the book that the trades before it leave
abbrev pub AllFair : List Trade → Book → Type 0
AllFair [] b = Unit {0}
AllFair (t ∷ ts) b = Fair t b × AllFair ts (after_trade t b)

-- Fair trades keep a sound book sound, and each ends an order, so that there are at most as many as orders have ended.
pub record Orderly (ts : List Trade) (b : Book) : Type 0 where
  pub sound : Sound (after ts b)
  pub few : length ts + length (after ts b) ≤ length b

abbrev pub TradesOrderly : Type 0
TradesOrderly = (ts : List Trade) (b : Book) → Sound b → AllFair ts b → Orderly ts b

-- Rank on one side in words: a higher buy or lower sell price; at one price plain before special; then the lower stamp.
abbrev pub Better : Side → ℕ → ℕ → Type 0
Better Buy p q = q < p
Better Sell p q = p < q

abbrev pub Plainer : Term → Term → Type 0
Plainer t u = (t ≡ Plain) × (u ≢ Plain)

-- both plain or both special
abbrev pub Alike : Term → Term → Type 0
Alike t u = (t ≡ Plain → u ≡ Plain) × (u ≡ Plain → t ≡ Plain)

abbrev pub Ahead : Order → Order → Type 0
Ahead x y =
    Better x.side x.price y.price
    ⊎ ((x.price ≡ y.price) × (Plainer x.term y.term ⊎ (Alike x.term y.term × (x.stamp < y.stamp))))

abbrev pub RankSaid : Type 0
RankSaid = (x y : Order) → x.side ≡ y.side → Decides (ahead x y) (Ahead x y)

-- Rank decides: orders with numbers and stamps of their own have one first and one rank order, however they are listed. And the rank order is
-- that first and then the others in rank order, so that to find the first again and again among those not yet taken is to walk in rank order.
pub record ByRank (xs ys : List Order) : Type 0 where
  pub same_first : first_by ahead xs ≡ first_by ahead ys
  pub same_order : in_rank ahead xs ≡ in_rank ahead ys
  pub in_turn : (w : Order) → first_by ahead xs ≡ Some w → in_rank ahead xs ≡ w ∷ in_rank ahead (without w.number xs)

abbrev pub RankDecides : Type 0
RankDecides = (xs ys : List Order) → ((o : Order) → In o xs → In o ys) → ((o : Order) → In o ys → In o xs) →
    Distinct number_of xs → Distinct number_of ys → Distinct stamp_of xs → ByRank xs ys
