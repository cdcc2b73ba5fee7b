-- What a worked example says, as a test that computes. Assumes nothing.
use Rattle.std.specs.Prelude.{ℕ, ◌+◌, Bool, true, false, cond, ◌&&◌, List, [], ◌∷◌, map, length, ◌==◌}
use Rattle.std.specs.Option.{unwrap_or}
use Rattle.orders.specs.declared.order.Trade.{Trade}
use Rattle.orders.specs.declared.order.Side.{Side}
use Rattle.orders.specs.declared.order.Side.TheVariants.{Buy, Sell}
use Rattle.orders.specs.declared.order.Term.{Term}
use Rattle.orders.specs.declared.order.Term.TheVariants.{Plain}
use Rattle.orders.specs.Book.{Book, after}
use Rattle.orders.specs.Orders.{breaks_price, breaks_quantity, breaks_least}
use Rattle.matching.specs.Attempt.{attempt_of}
use Rattle.matching.specs.Rounds.{Rounds, all_rounds}
use Rattle.opening.specs.Opening.{opening_price, opening_trades}

-- an entry: side, quantity, limit and term
pub record Line : Type 0 where
  pub side : Side
  pub quantity : ℕ
  pub price : ℕ
  pub term : Term
  pub working : Bool

abbrev pub enters : Side → ℕ → ℕ → Term → Line
enters s q p t = record { side = s; quantity = q; price = p; term = t; working = true }

abbrev pub buy : ℕ → ℕ → Line
buy q p = enters Buy q p Plain

abbrev pub sell : ℕ → ℕ → Line
sell q p = enters Sell q p Plain

abbrev pub suspended : Line → Line
suspended l = record { side = l.side; quantity = l.quantity; price = l.price; term = l.term; working = false }

-- the entries as orders of issue 1, numbered and stamped from n up, each of an account of its own
abbrev pub entered : ℕ → List Line → Book
entered n [] = []
entered n (l ∷ ls) =
    record { number = n; account = n; issue = 1; side = l.side; price = l.price; left = l.quantity; term = l.term; stamp = n; working = l.working } ∷ entered (n + 1) ls

-- an opening: the entries, the previous close, the opening price (0: none) and the trades
-- trading: the entries, of which the last makes its attempt, the trades of that, then the trades of the rounds and how many rounds there are
-- bounds: price, quantity and term of an entry, and the number of its refusal (0: none)
pub data Example : Type 0 where
  opens : List Line → ℕ → ℕ → List (List ℕ) → Example
  trades : List Line → List (List ℕ) → List (List ℕ) → ℕ → Example
  answers : ℕ → ℕ → Term → ℕ → Example

-- a trade as buy number, sell number, quantity, price
abbrev pub numbers : Trade → List ℕ
numbers t = t.buy ∷ t.sell ∷ t.quantity ∷ t.price ∷ []

abbrev pub same : List ℕ → List ℕ → Bool
same [] [] = true
same [] (y ∷ ys) = false
same (x ∷ xs) [] = false
same (x ∷ xs) (y ∷ ys) = x == y && same xs ys

abbrev pub all_same : List (List ℕ) → List (List ℕ) → Bool
all_same [] [] = true
all_same [] (y ∷ ys) = false
all_same (x ∷ xs) [] = false
all_same (x ∷ xs) (y ∷ ys) = same x y && all_same xs ys

-- the refusal of price, quantity and term
abbrev pub refused_by : ℕ → ℕ → Term → ℕ
refused_by p q t = cond (breaks_price p) 9 (cond (breaks_quantity q) 10 (cond (breaks_least t q) 11 0))

abbrev pub trading : Book → List Trade → List (List ℕ) → List (List ℕ) → ℕ → Bool
trading b own first later n =
    let r : Rounds = all_rounds 1 (after own b) in
    all_same (map numbers own) first && (all_same (map numbers r.trades) later && r.count == n)

abbrev pub holds : Example → Bool
holds (opens ls close p ts) = unwrap_or (opening_price 1 close (entered 1 ls)) 0 == p && all_same (map numbers (opening_trades 1 close (entered 1 ls))) ts
holds (trades ls first later n) = trading (entered 1 ls) (attempt_of (length ls) (entered 1 ls)) first later n
holds (answers p q t k) = refused_by p q t == k

abbrev pub all_hold : List Example → Bool
all_hold [] = true
all_hold (x ∷ xs) = holds x && all_hold xs
