-- What trades do to the book.
use Rattle.std.proofs.Common.{◌≡◌, ℕ, suc, ◌+◌, ◌-◌, ◌<◌, ◌≤◌, eqb, List, [], ◌∷◌, ◌++◌, length, Some, refl, ◌∙◌, arith}
use Rattle.std.proofs.lemmas.Bool.{cond_both, eqb-false}
use Rattle.std.proofs.lemmas.Bool.Decides.{nat_tests}
use Rattle.std.specs.List.{AllByRecursion as EveryOne}
use Rattle.orders.specs.declared.order.Order.{Order}
use Rattle.orders.specs.declared.order.Trade.{Trade}
use Rattle.orders.specs.Orders.{Valid}
use Rattle.orders.specs.Book.{Book, stamp_of, find, reduced, lowered, if_left, after, after_trade}
use Rattle.orders.specs.Laws.{Ascending, Distinct, Sound, Fair, AllFair, TradesOrderly}
use Rattle.orders.proofs.Validity.{valid_lowered}

-- ---- one order trades
find_if_left : (m : ℕ) (o : Order) (os : Book) → (o.number ≡ m → ⊥) → find m (if_left o os) ≡ find m os
find_if_left m o os h = grind (arith, nat_tests)

pub find_other : (m n q : ℕ) (b : Book) → (m ≡ n → ⊥) → find m (reduced n q b) ≡ find m b
find_other m n q [] h = refl
find_other m n q (o ∷ os) h = let ih = find_other m n q os h in grind (arith, nat_tests, find_if_left)

pub find_lowered : (n q : ℕ) (o : Order) (b : Book) → find n b ≡ Some o → q < o.left → find n (reduced n q b) ≡ Some (lowered q o)
find_lowered n q o [] e h = cc
find_lowered n q o (x ∷ os) e h = let ih = find_lowered n q o os in grind (arith, nat_tests)

pub length_reduced : (n q : ℕ) (b : Book) → length (reduced n q b) ≤ length b
length_reduced n q [] = omega arith
length_reduced n q (o ∷ os) = let ih = length_reduced n q os in grind (arith, nat_tests)

-- a trade of all that an order has left ends it
pub length_ended : (n q : ℕ) (o : Order) (b : Book) → find n b ≡ Some o → o.left ≤ q → suc (length (reduced n q b)) ≤ length b
length_ended n q o [] e h = grind arith
length_ended n q o (x ∷ os) e h = let ih = length_ended n q o os in grind (arith, nat_tests)

-- ---- fair trades
-- a buy is no sell
pub two_orders : (t : Trade) (b : Book) → Fair t b → t.buy ≡ t.sell → ⊥
two_orders t b f e = grind arith

-- each ends an order
pub fair_ends : (t : Trade) (b : Book) → Fair t b → suc (length (after_trade t b)) ≤ length b
fair_ends t b f =
    let ne = two_orders t b f in
    let sold : Book = reduced t.sell t.quantity b in
    let still : find t.buy sold ≡ Some f.buy = find_other t.buy t.sell t.quantity b ne ∙ f.buy_live in
    let b1 = length_ended t.buy t.quantity f.buy sold still in
    let b2 = length_reduced t.buy t.quantity sold in
    let s1 = length_ended t.sell t.quantity f.sell b f.sell_live in
    let s2 = length_reduced t.sell t.quantity b in
    grind arith

-- so there are at most as many trades as orders have ended
pub count_trades : (ts : List Trade) (b : Book) → AllFair ts b → length ts + length (after ts b) ≤ length b
count_trades [] b h = omega arith
count_trades (t ∷ ts) b h =
    let one = fair_ends t b h.0 in
    let rest = count_trades ts (after_trade t b) h.1 in
    omega arith

pub after_append : (ts us : List Trade) (b : Book) → after (ts ++ us) b ≡ after us (after ts b)
after_append [] us b = refl
after_append (t ∷ ts) us b = after_append ts us (after_trade t b)

pub fair_append : (ts us : List Trade) (b : Book) → AllFair ts b → AllFair us (after ts b) → AllFair (ts ++ us) b
fair_append [] us b h k = k
fair_append (t ∷ ts) us b h k = (h.0, fair_append ts us (after_trade t b) h.1 k)

-- ---- trades keep the book sound
-- what holds of each order, and of it once lowered, holds of each after the trade
pub all_reduced : (P : Order → Type 0) (n q : ℕ) (b : Book) → ((o : Order) → (q < o.left) → P o → P (lowered q o)) → EveryOne P b → EveryOne P (reduced n q b)
all_reduced P n q [] low h = tt
all_reduced P n q (o ∷ os) low h =
    cond_both (eqb o.number n) (if_left (lowered q o) os) (o ∷ reduced n q os) (EveryOne P)
    (λ _. cond_both (eqb (o.left - q) 0) os (lowered q o ∷ os) (EveryOne P) (λ _. h.1) (λ e. (low o (omega (arith, eqb-false (o.left - q) 0 e)) h.0, h.1)))
    (λ _. (h.0, all_reduced P n q os low h.1))

ascending_reduced : (n q : ℕ) (b : Book) → Ascending b → Ascending (reduced n q b)
ascending_reduced n q [] h = tt
ascending_reduced n q (o ∷ os) h =
    cond_both (eqb o.number n) (if_left (lowered q o) os) (o ∷ reduced n q os) Ascending
    (λ _. cond_both (eqb (o.left - q) 0) os (lowered q o ∷ os) Ascending (λ _. h.1) (λ _. h))
    (λ _. (all_reduced (λ x. o.number < x.number) n q os (λ x _ p. p) h.0, ascending_reduced n q os h.1))

stamps_reduced : (n q : ℕ) (b : Book) → Distinct stamp_of b → Distinct stamp_of (reduced n q b)
stamps_reduced n q [] h = tt
stamps_reduced n q (o ∷ os) h =
    cond_both (eqb o.number n) (if_left (lowered q o) os) (o ∷ reduced n q os) (Distinct stamp_of)
    (λ _. cond_both (eqb (o.left - q) 0) os (lowered q o ∷ os) (Distinct stamp_of) (λ _. h.1) (λ _. h))
    (λ _. (all_reduced (λ x. x.stamp ≡ o.stamp → ⊥) n q os (λ x _ p. p) h.0, stamps_reduced n q os h.1))

pub sound_reduced : (n q : ℕ) (b : Book) → Sound b → Sound (reduced n q b)
sound_reduced n q b s =
    record { ascending = ascending_reduced n q b s.ascending; valid = all_reduced Valid n q b (λ o lt v. valid_lowered q o lt v) s.valid; stamps = stamps_reduced n q b s.stamps }

pub sound_after : (ts : List Trade) (b : Book) → Sound b → Sound (after ts b)
sound_after [] b s = s
sound_after (t ∷ ts) b s =
    sound_after ts (after_trade t b) (sound_reduced t.buy t.quantity (reduced t.sell t.quantity b) (sound_reduced t.sell t.quantity b s))

pub trades_orderly : TradesOrderly
trades_orderly ts b s f = record { sound = sound_after ts b s; few = count_trades ts b f }
