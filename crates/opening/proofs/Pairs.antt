-- Buys and sells that pair in rank order.
use Rattle.std.proofs.Common.{◌≡◌, ℕ, zero, suc, ◌+◌, ◌-◌, ◌≤◌, min, List, [], ◌∷◌, length, sum_by, refl, ap, arith}
use Rattle.std.proofs.lemmas.List.Sums.{sum_by-cons}
use Rattle.std.proofs.lemmas.Bool.Decides.{nat_tests}
use Rattle.orders.specs.declared.order.Order.{Order}
use Rattle.orders.specs.declared.order.Trade.{Trade}
use Rattle.orders.specs.declared.order.Side.TheVariants.{Buy, Sell}
use Rattle.orders.specs.Book.{Book, lowered, if_left}
use Rattle.opening.specs.Opening.{taking_part, pairing, paired, trades_at, matched_at}

-- one of the two ends
pub ends : (x y : Order) (bs ss : List Order) → length (if_left (lowered (min x.left y.left) x) bs) + length (if_left (lowered (min x.left y.left) y) ss) ≤ length bs + suc (length ss)
ends x y bs ss =
    grind (arith, nat_tests)

-- so any k of both lengths at least gives the same trades
pub paired_enough : (p k m : ℕ) (bs ss : List Order) → length bs + length ss ≤ k → length bs + length ss ≤ m → paired k p bs ss ≡ paired m p bs ss
paired_enough p zero zero bs ss h j = refl
paired_enough p zero (suc m) [] ss h j = refl
paired_enough p zero (suc m) (x ∷ bs) ss h j = absurd (omega arith)
paired_enough p (suc k) zero [] ss h j = refl
paired_enough p (suc k) zero (x ∷ bs) ss h j = absurd (omega arith)
paired_enough p (suc k) (suc m) [] ss h j = refl
paired_enough p (suc k) (suc m) (x ∷ bs) [] h j = refl
paired_enough p (suc k) (suc m) (x ∷ bs) (y ∷ ss) h j =
    let q = min x.left y.left in
    let e = ends x y bs ss in
    ap (λ l. pairing p x y ∷ l) (paired_enough p k m (if_left (lowered q x) bs) (if_left (lowered q y) ss) (omega arith) (omega arith))

pub no_buys : (k p : ℕ) (ss : List Order) → paired k p [] ss ≡ []
no_buys zero p ss = refl
no_buys (suc k) p ss = refl

pub no_sells : (k p : ℕ) (bs : List Order) → paired k p bs [] ≡ []
no_sells zero p bs = refl
no_sells (suc k) p [] = refl
no_sells (suc k) p (x ∷ bs) = refl

-- ---- the trades add up to the lesser of both sums
sum_if_left : (q : ℕ) (o : Order) (os : List Order) → sum_by (λ o. o.left) (if_left (lowered q o) os) ≡ (o.left - q) + sum_by (λ o. o.left) os
sum_if_left q o os =
    let c = sum_by-cons (λ o. o.left) (lowered q o) os in
    grind (arith, nat_tests)

paired_sum : (k p : ℕ) (bs ss : List Order) → length bs + length ss ≤ k → sum_by (λ t. t.quantity) (paired k p bs ss) ≡ min (sum_by (λ o. o.left) bs) (sum_by (λ o. o.left) ss)
paired_sum zero p [] ss h = omega arith
paired_sum zero p (x ∷ bs) ss h = absurd (omega arith)
paired_sum (suc k) p [] ss h = omega arith
paired_sum (suc k) p (x ∷ bs) [] h = omega arith
paired_sum (suc k) p (x ∷ bs) (y ∷ ss) h =
    let q = min x.left y.left in
    let e = ends x y bs ss in
    let rest = paired_sum k p (if_left (lowered q x) bs) (if_left (lowered q y) ss) (omega arith) in
    omega (arith, sum_by-cons {X = Order}, sum_by-cons {X = Trade}, sum_if_left)

pub trades_sum : (i p : ℕ) (b : Book) → sum_by (λ t. t.quantity) (trades_at i p b) ≡ matched_at i b p
trades_sum i p b = paired_sum _ p (taking_part i p Buy b) (taking_part i p Sell b) (omega arith)
