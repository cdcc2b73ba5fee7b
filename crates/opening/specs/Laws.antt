-- The opening in words.
use Rattle.std.specs.Prelude.{◌≡◌, ℕ, ◌+◌, ◌≤◌, true, false, ◌⊎◌, List, [], ◌∷◌, ◌++◌, Some, None, sum_by, ◌≢◌}
use Rattle.std.specs.List.{AllByRecursion as EveryOne}
use Rattle.orders.specs.declared.order.Order.{Order}
use Rattle.orders.specs.declared.order.Trade.{Trade}
use Rattle.orders.specs.declared.order.Side.{Side}
use Rattle.orders.specs.declared.order.Side.TheVariants.{Buy, Sell}
use Rattle.orders.specs.declared.order.Term.TheVariants.{Plain}
use Rattle.book.specs.declared.table.Table.{Table}
use Rattle.orders.specs.Search.{In}
use Rattle.orders.specs.Book.{Book, number_of, stamp_of, find, after_trade, after}
use Rattle.orders.specs.Laws.{Distinct, Sound, AllFair, Ahead}
use Rattle.book.specs.Table.{book_of, at_place}
use Rattle.opening.specs.Opening.{distance, quantity_at, matched_at, surplus_at, opening_price, pairing, trades_at, opening_trades, all_trades}

-- a buy pays at most its limit, a sell gets at least its limit
abbrev pub Meets : Side → ℕ → ℕ → Type 0
Meets Buy limit p = p ≤ limit
Meets Sell limit p = limit ≤ p

-- the order takes part at the price p on this side
pub record TakesPart (i p : ℕ) (s : Side) (o : Order) : Type 0 where
  pub issue : o.issue ≡ i
  pub side : o.side ≡ s
  pub working : o.working ≡ true
  pub plain : o.term ≡ Plain
  pub meets : Meets s o.price p

-- B and S add up what the orders that take part have left; every other order counts nothing.
pub record AddsLeft (i p : ℕ) (s : Side) : Type 0 where
  pub none : quantity_at i p s [] ≡ 0
  pub more : (o : Order) (b : Book) → TakesPart i p s o → quantity_at i p s (o ∷ b) ≡ o.left + quantity_at i p s b
  pub same : (o : Order) (b : Book) → (TakesPart i p s o → ⊥) → quantity_at i p s (o ∷ b) ≡ quantity_at i p s b

abbrev pub QuantitiesSaid : Type 0
QuantitiesSaid = (i p : ℕ) (s : Side) → AddsLeft i p s

-- p is the limit of a working plain order of the issue
abbrev pub Limit : ℕ → Book → ℕ → Type 0
Limit i b p = (o : Order) × (In o b) × (o.issue ≡ i) × (o.working ≡ true) × (o.term ≡ Plain) × (o.price ≡ p)

-- p opens the issue: it is a limit, something trades, and no limit comes before it
pub record Opens (i close : ℕ) (b : Book) (p : ℕ) : Type 0 where
  pub limit : Limit i b p
  pub trades : 1 ≤ matched_at i b p
  pub most : (l : ℕ) → Limit i b l → matched_at i b l ≤ matched_at i b p
  pub least : (l : ℕ) → Limit i b l → matched_at i b l ≡ matched_at i b p → surplus_at i b p ≤ surplus_at i b l
  pub nearest : (l : ℕ) → Limit i b l → matched_at i b l ≡ matched_at i b p → surplus_at i b l ≡ surplus_at i b p → distance p close ≤ distance l close
  pub highest : (l : ℕ) → Limit i b l → matched_at i b l ≡ matched_at i b p → surplus_at i b l ≡ surplus_at i b p → distance l close ≡ distance p close → l ≤ p

-- nothing would trade at any limit
abbrev pub Unmatched : ℕ → Book → Type 0
Unmatched i b = (l : ℕ) → Limit i b l → matched_at i b l ≡ 0

-- The opening price opens the issue, it is absent exactly if nothing would trade at any limit, and no other price opens the issue.
pub record PriceOpens (i close : ℕ) (b : Book) : Type 0 where
  pub present : (p : ℕ) → opening_price i close b ≡ Some p → Opens i close b p
  pub absent : opening_price i close b ≡ None → Unmatched i b
  pub nothing : Unmatched i b → opening_price i close b ≡ None
  pub only : (p : ℕ) → Opens i close b p → opening_price i close b ≡ Some p

abbrev pub PricesOpen : Type 0
PricesOpen = (i close : ℕ) (b : Book) → PriceOpens i close b

-- The opening trades add up to the lesser of B and S of the opening price, and at no limit would more trade.
pub record AddsUp (i close : ℕ) (b : Book) : Type 0 where
  pub sum : (p : ℕ) → opening_price i close b ≡ Some p → sum_by (λ t. t.quantity) (opening_trades i close b) ≡ matched_at i b p
  pub most : (l : ℕ) → Limit i b l → matched_at i b l ≤ sum_by (λ t. t.quantity) (opening_trades i close b)

abbrev pub TradesAddUp : Type 0
TradesAddUp = (i close : ℕ) (b : Book) → AddsUp i close b

-- the best-ranked order that takes part on one side
pub record Best (i p : ℕ) (s : Side) (b : Book) (o : Order) : Type 0 where
  pub live : In o b
  pub part : TakesPart i p s o
  pub first : (x : Order) → In x b → TakesPart i p s x → Ahead x o → ⊥

-- Each trade joins the best-ranked buy and sell of those that stand and take part, and the others follow on the book that it leaves; there is
-- none where on one side no order takes part.
pub record BestJoin (i p : ℕ) (b : Book) : Type 0 where
  pub next : (x y : Order) → Best i p Buy b x → Best i p Sell b y → trades_at i p b ≡ pairing p x y ∷ trades_at i p (after_trade (pairing p x y) b)
  pub none : (s : Side) → ((o : Order) → In o b → TakesPart i p s o → ⊥) → trades_at i p b ≡ []

-- the opening trades are those at the opening price, and none without one
pub record InTurn (i close : ℕ) (b : Book) : Type 0 where
  pub priced : (p : ℕ) → opening_price i close b ≡ Some p → (opening_trades i close b ≡ trades_at i p b) × BestJoin i p b
  pub unpriced : opening_price i close b ≡ None → opening_trades i close b ≡ []

abbrev pub BestFirst : Type 0
BestFirst = (i close : ℕ) (b : Book) → Sound b → InTurn i close b

-- Opening trades are of the issue, at its opening price, and fair: between two live orders and their own accounts, for the lesser of what these
-- have left, within both limits. Those of all issues are fair too.
pub record FairOpening (b : Book) : Type 0 where
  pub priced : (i close p : ℕ) → opening_price i close b ≡ Some p → EveryOne (λ t. (t.issue ≡ i) × (t.price ≡ p)) (opening_trades i close b)
  pub one : (i close : ℕ) → AllFair (opening_trades i close b) b
  pub all : (i : ℕ) (closes : List ℕ) → AllFair (all_trades i closes b) b

abbrev pub TradesFair : Type 0
TradesFair = (b : Book) → Sound b → FairOpening b

-- suspended or special
abbrev pub Waits : Order → Type 0
Waits o = (o.working ≡ false) ⊎ (o.term ≢ Plain)

-- Orders that take no part at the opening price are as before, and so are orders of other issues, suspended ones and special ones; the latter
-- two also when all issues open.
pub record OthersKept (b : Book) : Type 0 where
  pub apart : (i close p : ℕ) → opening_price i close b ≡ Some p → (o : Order) → In o b → ((s : Side) → TakesPart i p s o → ⊥) →
      find o.number (after (opening_trades i close b) b) ≡ Some o
  pub other_issue : (i close : ℕ) (o : Order) → In o b → (o.issue ≢ i) → find o.number (after (opening_trades i close b) b) ≡ Some o
  pub waiting : (i close : ℕ) (o : Order) → In o b → Waits o → find o.number (after (opening_trades i close b) b) ≡ Some o
  pub all_issues : (i : ℕ) (closes : List ℕ) (o : Order) → In o b → Waits o → find o.number (after (all_trades i closes b) b) ≡ Some o

abbrev pub OthersStay : Type 0
OthersStay = (b : Book) → Sound b → OthersKept b

-- Each issue opens as if it were alone: the issues that open before it play no part.
abbrev pub each_alone : ℕ → List ℕ → Book → List Trade
each_alone i [] b = []
each_alone i (c ∷ cs) b = opening_trades i c b ++ each_alone (i + 1) cs b

abbrev pub IssuesApart : Type 0
IssuesApart = (i : ℕ) (closes : List ℕ) (b : Book) → Sound b → all_trades i closes b ≡ each_alone i closes b

-- The order of the list plays no part: the same orders, with numbers and stamps of their own, in any order, have one opening price and the same
-- opening trades.
pub record OpenAlike (i close : ℕ) (b c : Book) : Type 0 where
  pub price : opening_price i close b ≡ opening_price i close c
  pub trades : opening_trades i close b ≡ opening_trades i close c

abbrev pub ListsAlike : Type 0
ListsAlike = (i close : ℕ) (b c : Book) → ((o : Order) → In o b → In o c) → ((o : Order) → In o c → In o b) →
    Distinct number_of b → Distinct number_of c → Distinct stamp_of b → OpenAlike i close b c

-- The row decides nothing: two tables that hold the same orders, in whatever places, have one opening price, the same opening trades and the
-- same orders after them; and so for all issues.
pub record SameOpening (t u : Table) : Type 0 where
  pub price : (i close : ℕ) → opening_price i close (book_of t) ≡ opening_price i close (book_of u)
  pub trades : (i close : ℕ) → opening_trades i close (book_of t) ≡ opening_trades i close (book_of u)
  pub orders : (i close : ℕ) → after (opening_trades i close (book_of t)) (book_of t) ≡ after (opening_trades i close (book_of u)) (book_of u)
  pub all_issues : (i : ℕ) (closes : List ℕ) → all_trades i closes (book_of t) ≡ all_trades i closes (book_of u)
  pub all_orders : (i : ℕ) (closes : List ℕ) → after (all_trades i closes (book_of t)) (book_of t) ≡ after (all_trades i closes (book_of u)) (book_of u)

abbrev pub RowsFree : Type 0
RowsFree = (t u : Table) → ((k : ℕ) (o : Order) → at_place t k ≡ Some o → (j : ℕ) × (at_place u j ≡ Some o)) →
    ((j : ℕ) (o : Order) → at_place u j ≡ Some o → (k : ℕ) × (at_place t k ≡ Some o)) → SameOpening t u
