-- What a walk takes, turn by turn.
use Rattle.std.proofs.Common.{◌≡◌, ℕ, suc, ◌+◌, ◌-◌, ◌<◌, ◌≤◌, min, max, true, false, not, eqb, ◌⊎◌, List, [], ◌∷◌, length, get_or, drop, fold, is_some, Some, None, Option, sym, refl, ap, ◌∙◌, inr, arith}
use Rattle.std.proofs.lemmas.Bool.{cond_both}
use Rattle.std.proofs.lemmas.Bool.Decides.{nat_tests}
use Rattle.std.proofs.lemmas.List.{at_drop_more}
use Rattle.std.proofs.ByRecursion.{all_kept_by}
use Rattle.std.specs.List.{AllByRecursion as EveryOne}
use Rattle.orders.specs.declared.order.Order.{Order}
use Rattle.orders.specs.declared.order.Term.{Term}
use Rattle.orders.specs.declared.order.Term.TheVariants.{Plain, All, Least}
use Rattle.orders.specs.Book.{without}
use Rattle.orders.specs.Lists.{none_some, length_kept}
use Rattle.matching.specs.Walk.{gives, Part, part, taken, walk, amount, first_giving, least_parts, parts}
use Rattle.matching.specs.Attempt.{trades_of}
use Rattle.matching.specs.Rounds.{any_trade}

-- ---- what a waiting order gives
-- nothing, or the lesser of what is wanted and what it has left
pub gives_lesser : (t : Term) (left w : ℕ) → (gives t left w ≡ 0) ⊎ (gives t left w ≡ min w left)
gives_lesser Plain left w = inr refl
gives_lesser All left w = grind (arith, nat_tests)
gives_lesser (Least m) left w = grind (arith, nat_tests)

gives_none : (t : Term) (left : ℕ) → gives t left 0 ≡ 0
gives_none t left = grind (arith, gives_lesser t left 0)

pub walk_none : (os : List Order) → walk 0 os ≡ []
walk_none [] = refl
walk_none (o ∷ os) = let g = gives_none o.term o.left in let ih = walk_none os in grind arith

-- ---- a turn of the walk
pub next_order : (os : List Order) (n : ℕ) (o : Order) → (n < length os) × (o ≡ get_or os n o) → drop n os ≡ o ∷ drop (n + 1) os
next_order os n o h = at_drop_more (λ l. l) os n o h.0 ∙ ap (λ x. x ∷ drop (n + 1) os) (sym h.1)

pub walk_taken : (w q : ℕ) (o : Order) (os : List Order) → q ≡ gives o.term o.left w → 0 < q → walk w (o ∷ os) ≡ part o q ∷ walk (w - q) os
walk_taken w q o os is some = grind (arith, nat_tests)

pub walk_passed : (w q : ℕ) (o : Order) (os : List Order) → q ≡ gives o.term o.left w → q ≤ 0 → walk w (o ∷ os) ≡ walk w os
walk_passed w q o os is none = let z : w - q ≡ w = omega (arith, none) in grind (arith, nat_tests)

-- ---- the amount
amount_taken : (o : Order) (q : ℕ) (ps : List Part) → amount (taken o q ps) ≡ q + amount ps
amount_taken o q ps = grind (arith, nat_tests)

pub amount_turn : (w q : ℕ) (x : Order) (os : List Order) → q ≡ gives x.term x.left w → amount (walk w (x ∷ os)) ≡ q + amount (walk (w - q) os)
amount_turn w q x os is = rw is (amount_taken x (gives x.term x.left w) (walk (w - gives x.term x.left w) os))

-- what is left of w after the walk is the rest
pub unfilled_amount : (w : ℕ) (os : List Order) → amount (walk w os) + fold (λ v o. v - gives o.term o.left v) w os ≡ w
unfilled_amount w [] = omega arith
unfilled_amount w (o ∷ os) =
    let q = gives o.term o.left w in
    omega (arith, amount_turn w q o os refl, gives_lesser o.term o.left w, unfilled_amount (w - q) os)

pub fill_end : (a w w₀ : ℕ) → a + w ≡ w₀ → eqb w 0 ≡ eqb a w₀
fill_end a w w₀ e = grind (arith, nat_tests)

-- ---- the first that gives m
-- what is found is one of the list and gives enough
pub giving_all : (P : Order → Type 0) (m w : ℕ) (os : List Order) → EveryOne P os → (o : Order) → first_giving m w os ≡ Some o → P o × (max m 1 ≤ gives o.term o.left w)
giving_all P m w [] ps o e = none_some o e
giving_all P m w (x ∷ os) ps o e = let ih = giving_all P m w os ps.1 o in let here = ps.0 in grind (arith, nat_tests)

pub giving_shorter : (m w : ℕ) (os : List Order) (o : Order) → first_giving m w os ≡ Some o → suc (length (without o.number os)) ≤ length os
giving_shorter m w [] o e = none_some o e
giving_shorter m w (x ∷ os) o e =
    let keep = λ (y : Order). not (eqb y.number o.number) in
    let ih = giving_shorter m w os o in
    let few = length_kept keep os in
    grind (arith, nat_tests)

-- a least order's parts
pub least_made : (a : Order) (cs : List Order) (m q : ℕ) (o : Order) → a.term ≡ Least m → Some o ≡ first_giving m a.left cs → q ≡ gives o.term o.left a.left
    → parts a.term a.left cs ≡ part o q ∷ walk (a.left - q) (without o.number cs)
least_made a cs m q o t e is = rw (t, ← e, is) refl

-- ---- whether there is a trade
walk_trades : (a : Order) (w : ℕ) (os : List Order) → is_some (first_giving 1 w os) ≡ any_trade (trades_of a (walk w os))
walk_trades a w [] = refl
walk_trades a w (x ∷ os) = let ih = walk_trades a w os in grind (arith, nat_tests)

pub plain_trades : (a : Order) (cs : List Order) → a.term ≡ Plain → is_some (first_giving 1 a.left cs) ≡ any_trade (trades_of a (parts a.term a.left cs))
plain_trades a cs t = walk_trades a a.left cs ∙ sym (ap (λ z. any_trade (trades_of a (parts z a.left cs))) t)

some_parts : (a : Order) (ps : List Part) → 0 < amount ps → any_trade (trades_of a ps) ≡ true
some_parts a [] h = absurd (omega arith)
some_parts a (p ∷ ps) h = refl

pub all_trades : (a : Order) (cs : List Order) → a.term ≡ All → 0 < a.left → eqb (amount (walk a.left cs)) a.left ≡ any_trade (trades_of a (parts a.term a.left cs))
all_trades a cs t some = grind (arith, nat_tests, some_parts)

pub none_left : (a : Order) (cs : List Order) → a.term ≡ All → a.left ≤ 0 → false ≡ any_trade (trades_of a (parts a.term a.left cs))
none_left a cs t h = grind (arith, nat_tests, walk_none)

-- ---- each part comes from one of the orders walked
module _ (P : Order → Type 0) where
  walk_all : (w : ℕ) (os : List Order) → EveryOne P os → EveryOne (λ p. P p.from) (walk w os)
  walk_all w [] h = tt
  walk_all w (o ∷ os) h =
      let q = gives o.term o.left w in
      let rest = walk_all (w - q) os h.1 in
      cond_both (eqb q 0) (walk (w - q) os) (part o q ∷ walk (w - q) os) (EveryOne (λ p. P p.from)) (λ _. rest) (λ _. (h.0, rest))

  least_all : (m w : ℕ) (os : List Order) → EveryOne P os → (found : Option Order) → first_giving m w os ≡ found → EveryOne (λ p. P p.from) (least_parts w found os)
  least_all m w os h None e = tt
  least_all m w os h (Some o) e =
      ((giving_all P m w os h o e).0, walk_all (w - gives o.term o.left w) (without o.number os) (all_kept_by (λ x. not (eqb x.number o.number)) P os h))

  pub parts_all : (t : Term) (w : ℕ) (os : List Order) → EveryOne P os → EveryOne (λ p. P p.from) (parts t w os)
  parts_all Plain w os h = walk_all w os h
  parts_all All w os h = cond_both (eqb (amount (walk w os)) w) (walk w os) [] (EveryOne (λ p. P p.from)) (λ _. walk_all w os h) (λ _. tt)
  parts_all (Least m) w os h = least_all m w os h (first_giving m w os) refl
