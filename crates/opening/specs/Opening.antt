-- The opening price of an issue and its opening trades.
use Rattle.std.specs.Prelude.{ℕ, zero, suc, ◌+◌, ◌-◌, min, Bool, cond, not, ◌&&◌, List, [], ◌∷◌, ◌++◌, map, length, Some, None, sum_by, filter, Option, ◌==◌, nat_lt}
use Prim.Native.Nat.{compare}
use Rattle.orders.specs.declared.order.Order.{Order}
use Rattle.orders.specs.declared.order.Trade.{Trade}
use Rattle.orders.specs.declared.order.Side.{Side}
use Rattle.orders.specs.declared.order.Side.TheVariants.{Buy, Sell}
use Rattle.orders.specs.Orders.{special, plain_in, within}
use Rattle.orders.specs.Rank.{first_by, in_rank, ahead, lex}
use Rattle.orders.specs.Book.{Book, lowered, if_left, after}
use Rattle.opening.specs.declared.candidate.Candidate.{Candidate}

abbrev pub distance : ℕ → ℕ → ℕ
distance x y = (x - y) + (y - x)

-- B and S.
-- a working plain order of the issue on this side whose limit the price p meets
abbrev pub takes_part : ℕ → ℕ → Side → Order → Bool
takes_part i p s o = plain_in i s o && within s o.price p

-- the orders on one side that take part at the price p, in rank order
abbrev pub taking_part : ℕ → ℕ → Side → Book → List Order
taking_part i p s b = in_rank ahead (filter (takes_part i p s) b)

-- what they have left: B of p on the buy side, S of p on the sell side
abbrev pub quantity_at : ℕ → ℕ → Side → Book → ℕ
quantity_at i p s b = sum_by (λ o. o.left) (taking_part i p s b)

-- what would trade at the price p: the lesser of B and S
abbrev pub matched_at : ℕ → Book → ℕ → ℕ
matched_at i b p = min (quantity_at i p Buy b) (quantity_at i p Sell b)

-- what would be left over
abbrev pub surplus_at : ℕ → Book → ℕ → ℕ
surplus_at i b p = distance (quantity_at i p Buy b) (quantity_at i p Sell b)

-- The opening price.
-- the figures of a price
abbrev pub figures : ℕ → Book → ℕ → ℕ → Candidate
figures i b close p =
    record { price = p; matched = matched_at i b p; surplus = surplus_at i b p; away = distance p close }

-- most matched, then least surplus, then nearest to the previous close, then the higher price
abbrev pub wins : Candidate → Candidate → Bool
wins x y =
    lex (compare y.matched x.matched) (lex (compare x.surplus y.surplus) (lex (compare x.away y.away) (nat_lt y.price x.price)))

-- a working plain order of the issue
abbrev pub plain_of : ℕ → Order → Bool
plain_of i o = o.issue == i && (o.working && not (special o.term))

-- the candidates: the limits of these orders
abbrev pub candidates : ℕ → ℕ → Book → List Candidate
candidates i close b = map (λ o. figures i b close o.price) (filter (plain_of i) b)

abbrev pub if_matched : Option Candidate → Option ℕ
if_matched None = None
if_matched (Some c) = cond (c.matched == 0) None (Some c.price)

abbrev pub opening_price : ℕ → ℕ → Book → Option ℕ
opening_price i close b = if_matched (first_by wins (candidates i close b))

-- The opening trades.
-- the trade of a buy and a sell at the price p: the lesser of what they have left
abbrev pub pairing : ℕ → Order → Order → Trade
pairing p b s =
    record { issue = b.issue; buy = b.number; sell = s.number; buyer = b.account; seller = s.account; quantity = min b.left s.left; price = p }

-- buys and sells pair in rank order; each trade ends one of the two, so k of both lengths suffices
abbrev pub paired : ℕ → ℕ → List Order → List Order → List Trade
paired zero p bs ss = []
paired (suc k) p [] ss = []
paired (suc k) p (b ∷ bs) [] = []
paired (suc k) p (b ∷ bs) (s ∷ ss) =
    let q : ℕ = min b.left s.left in
    pairing p b s ∷ paired k p (if_left (lowered q b) bs) (if_left (lowered q s) ss)

-- the trades at one price
abbrev pub trades_at : ℕ → ℕ → Book → List Trade
trades_at i p b =
    let bs : List Order = taking_part i p Buy b in
    let ss : List Order = taking_part i p Sell b in
    paired (length bs + length ss) p bs ss

abbrev pub trades_if : ℕ → Book → Option ℕ → List Trade
trades_if i b None = []
trades_if i b (Some p) = trades_at i p b

abbrev pub opening_trades : ℕ → ℕ → Book → List Trade
opening_trades i close b = trades_if i b (opening_price i close b)

-- the opening trades of the issues from i up, each with its previous close, on the book that the issues before leave
abbrev pub all_trades : ℕ → List ℕ → Book → List Trade
all_trades i [] b = []
all_trades i (c ∷ cs) b = opening_trades i c b ++ all_trades (i + 1) cs (after (opening_trades i c b) b)

-- What stands at a place of the table.
-- what the order there has left, if it takes part
abbrev pub share : ℕ → ℕ → Side → Option Order → ℕ
share i p s None = 0
share i p s (Some o) = cond (takes_part i p s o) o.left 0

-- the figures of its limit, if it is a working plain order of the issue
abbrev pub limit_of : ℕ → ℕ → Book → Option Order → Option Candidate
limit_of i close b None = None
limit_of i close b (Some o) = cond (plain_of i o) (Some (figures i b close o.price)) None
