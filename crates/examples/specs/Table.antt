-- The worked examples. Assumes nothing.
use Rattle.std.specs.Prelude.{◌≡◌, ℕ, true, List, [], ◌∷◌}
use Rattle.orders.specs.declared.order.Side.TheVariants.{Buy, Sell}
use Rattle.orders.specs.declared.order.Term.TheVariants.{Plain, All, Least}
use Rattle.examples.specs.Examples.{Example, opens, trades, answers, enters, buy, sell, suspended, all_hold}

abbrev pub trade : ℕ → ℕ → ℕ → ℕ → List ℕ
trade b s q p = b ∷ s ∷ q ∷ p ∷ []

-- the price at which most trades
abbrev pub most_matched : Example
most_matched = opens (buy 100 1260 ∷ buy 200 1250 ∷ sell 150 1240 ∷ sell 100 1250 ∷ []) 1000 1250 (trade 1 3 100 1250 ∷ trade 2 3 50 1250 ∷ trade 2 4 100 1250 ∷ [])

-- two prices alike but for the previous close: at one distance the higher, else the nearer
abbrev pub higher_price : Example
higher_price = opens (buy 100 1260 ∷ sell 100 1240 ∷ []) 1250 1260 (trade 1 2 100 1260 ∷ [])

abbrev pub nearer_price : Example
nearer_price = opens (buy 100 1260 ∷ sell 100 1240 ∷ []) 1240 1240 (trade 1 2 100 1240 ∷ [])

abbrev pub no_price : Example
no_price = opens (buy 100 1230 ∷ sell 100 1240 ∷ []) 1000 0 []

abbrev pub least_left_over : Example
least_left_over = opens (buy 100 1260 ∷ buy 50 1240 ∷ sell 100 1240 ∷ []) 1000 1260 (trade 1 3 100 1260 ∷ [])

-- special and suspended orders take no part in an opening
abbrev pub some_take_no_part : Example
some_take_no_part = opens (buy 100 1260 ∷ sell 100 1240 ∷ enters Buy 500 1300 All ∷ enters Sell 500 1200 (Least 10) ∷ suspended (sell 500 1200) ∷ []) 1240 1240 (trade 1 2 100 1240 ∷ [])

-- an all sell filled by two buys in one round
abbrev pub filled_by_two : Example
filled_by_two = trades (enters Sell 200 1250 All ∷ buy 100 1250 ∷ buy 150 1250 ∷ []) [] (trade 2 1 100 1250 ∷ trade 3 1 100 1250 ∷ []) 1

abbrev pub one_short : Example
one_short = trades (enters Sell 200 1250 All ∷ buy 100 1250 ∷ buy 99 1250 ∷ []) [] [] 0

-- the all buy's walk takes 60 and fails; in a round the all sell trades 100
abbrev pub walk_fails : Example
walk_fails = trades (sell 60 1250 ∷ enters Sell 100 1250 All ∷ enters Buy 100 1250 All ∷ []) [] (trade 3 2 100 1250 ∷ []) 1

-- a least sell trades 120, is plain, and one round trades 60
abbrev pub turned_plain : Example
turned_plain = trades (enters Sell 300 1250 (Least 100) ∷ buy 60 1250 ∷ buy 120 1250 ∷ []) (trade 3 1 120 1250 ∷ []) (trade 2 1 60 1250 ∷ []) 1

-- of two all sells at one price the earlier is sold
abbrev pub earlier_all_order : Example
earlier_all_order = trades (enters Sell 100 1250 All ∷ enters Sell 100 1250 All ∷ buy 100 1250 ∷ []) (trade 3 1 100 1250 ∷ []) [] 0

-- a trade is made at the waiting order's price
abbrev pub waiting_price : Example
waiting_price = trades (sell 100 1240 ∷ buy 100 1250 ∷ []) (trade 2 1 100 1240 ∷ []) [] 0

-- plain before special at one price
abbrev pub plain_first : Example
plain_first = trades (enters Sell 50 1250 (Least 10) ∷ sell 50 1250 ∷ buy 50 1250 ∷ []) (trade 3 2 50 1250 ∷ []) [] 0

abbrev pub table : List Example
table =
    most_matched
    ∷ higher_price
    ∷ nearer_price
    ∷ no_price
    ∷ least_left_over
    ∷ some_take_no_part
    ∷ filled_by_two
    ∷ one_short
    ∷ walk_fails
    ∷ turned_plain
    ∷ earlier_all_order
    ∷ waiting_price
    ∷ plain_first
    ∷ answers 1255 400 Plain 9
    ∷ answers 1000010 400 Plain 9
    ∷ answers 1250 400 (Least 401) 11
    ∷ answers 10 400 Plain 0
    ∷ answers 1250 400 (Least 400) 0
    ∷ []

abbrev pub ExamplesHold : Type 0
ExamplesHold = all_hold table ≡ true
