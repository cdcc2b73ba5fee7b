-- What looking through rows finds. Assumes nothing.
use Rattle.std.proofs.Common.{Less, Equal, Greater, Ordering, Result, ◌≡◌, ℕ, zero, suc, ◌+◌, ◌<◌, ◌≤◌, Bool, true, false, List, [], ◌∷◌, length, get_or, set, None, Ok, Err, Option, unwrap_or, sym, refl, ap, ◌∙◌, ⊎_elim, arith}
use Rattle.std.specs.List.{AllAdjacentBelow, IsAllAdjacentAnswer}
use Rattle.std.specs.List.Sorted.{IsSearchInRange, IsBinarySearchResult}
use Rattle.std.specs.Option.{MatchOption}
use Rattle.std.specs.Result.{result_ok}
use Rattle.std.specs.Ordering.{nat_cmp, ordering_then, ordering_index}
use Rattle.std.proofs.lemmas.Bool.Decides.{nat_tests}
use Rattle.std.proofs.lemmas.List.Sorted.{IsNonDecreasingBy-from_default}
use Rattle.std.proofs.lemmas.Bool.{and_left, cond-true, le-leb, cases_lt, and_parts, and_from, and_right}
use Rattle.register.specs.declared.holding.Row.{Row}
use Rattle.register.specs.Places.{no_row, Placed}
use Rattle.register.specs.Rules.{limit, lawful, total_of, names, precedes, ascending, issues, figured, balance_of}
use Rattle.rows.specs.Checks.{total_if_within, meant, acceptable}
use Rattle.register.proofs.Places.{Lex, lex_head, balance_none, total_le}
use Rattle.register.proofs.Sets.{lawful_set}

-- ---- neighbours

-- what a test of each two neighbours answers
pub neighbours : (xs : List Row) (b : Bool) → IsAllAdjacentAnswer (λ x y t. t ≡ precedes x y) xs b → b ≡ ascending xs
neighbours xs true h = sym (each xs h)
  where
    each : (xs : List Row) → AllAdjacentBelow (λ x y. true ≡ precedes x y) xs (length xs) → ascending xs ≡ true
    each [] f = refl
    each (x ∷ []) f = refl
    each (x ∷ (y ∷ ys)) f = and_from _ _ (sym (f 0 no_row (omega arith))) (each (y ∷ ys) (λ k d l. let e : suc k + 1 ≡ suc (k + 1) = omega arith in rw e at (f (suc k) d (omega arith))))
neighbours xs false (k, l, h) = sym (one xs k l h)
  where
    one : (xs : List Row) (k : ℕ) → k + 1 < length xs → ((d : Row) → false ≡ precedes (get_or xs k d) (get_or xs (k + 1) d)) → ascending xs ≡ false
    one [] k l f = absurd (omega arith)
    one (x ∷ []) k l f = absurd (omega arith)
    one (x ∷ (y ∷ ys)) zero l f = and_left _ _ (sym (f no_row))
    one (x ∷ (y ∷ ys)) (suc k) l f = and_right (precedes x y) _ (one (y ∷ ys) k (omega arith) (λ d. let e : suc k + 1 ≡ suc (k + 1) = omega arith in rw e at (f d)))

-- ---- places by search

pub lex_at : (xs : List Row) (j k : ℕ) → ascending xs ≡ true → j < k → k < length xs → Lex (get_or xs j no_row) (get_or xs k no_row)
lex_at [] j k h l m = absurd (omega arith)
lex_at (x ∷ xs) zero zero h l m = absurd (omega arith)
lex_at (x ∷ xs) zero (suc k) h l m = lex_head x xs k h (omega arith)
lex_at (x ∷ xs) (suc j) zero h l m = absurd (omega arith)
lex_at (x ∷ xs) (suc j) (suc k) h l m = lex_at xs j k (and_parts _ _ h).1 (omega arith) (omega arith)

-- where a row stands to the pair (a, i)
abbrev pub to_pair : ℕ → ℕ → Row → Ordering
to_pair a i r = ordering_then (nat_cmp r.account a) (nat_cmp r.issue i)

named_if_equal : (a i : ℕ) (r : Row) → to_pair a i r ≡ Equal → names a i r ≡ true
named_if_equal a i r e = grind (arith, nat_tests)

unnamed_if_less : (a i : ℕ) (r : Row) → to_pair a i r ≡ Less → names a i r ≡ false
unnamed_if_less a i r e = grind (arith, nat_tests)

unnamed_if_greater : (a i : ℕ) (r : Row) → to_pair a i r ≡ Greater → names a i r ≡ false
unnamed_if_greater a i r e = grind (arith, nat_tests)

rises : (a i : ℕ) (r s : Row) → Lex r s → ordering_index (to_pair a i r) ≤ ordering_index (to_pair a i s)
rises a i r s l = grind (arith, nat_tests)

pub searched : (xs : List Row) (a i : ℕ) → ascending xs ≡ true → (r : Result ℕ ℕ) → IsSearchInRange r (length xs) → IsBinarySearchResult (to_pair a i) xs r → MatchOption (result_ok r) (balance_of a i xs ≡ None) (λ k. Placed a i xs k)
searched xs a i h (Ok k) l e = record { within = l; here = named_if_equal a i (get_or xs k no_row) (e no_row) }
searched xs a i h (Err at) l parted =
    let p = parted (IsNonDecreasingBy-from_default (λ r. ordering_index (to_pair a i r)) xs no_row (λ j k m n.
    ⊎_elim
    (λ (l : j < k). rises a i (get_or xs j no_row) (get_or xs k no_row) (lex_at xs j k h l n))
    (λ (l : k ≤ j). let e : j ≡ k = omega arith in omega (arith, ap (λ n. ordering_index (to_pair a i (get_or xs n no_row))) e))
    (cases_lt j k))) in
    balance_none a i xs (λ k m. ⊎_elim (λ (b : k < at). unnamed_if_less a i (get_or xs k no_row) (p.0 k no_row (omega arith) b)) (λ (b : at ≤ k). unnamed_if_greater a i (get_or xs k no_row) (p.1 k no_row b m)) (cases_lt k at))

-- ---- a register over rows: b is its flag

pub none_lawful : lawful [] ≡ true
unfolding lawful issues
none_lawful = refl

pub store_lawful : (b : Bool) (rs : List Row) (k f h : ℕ) → lawful (meant b rs) ≡ true → k < length (meant b rs) → total_of (get_or (meant b rs) k no_row).issue (meant b rs) + (f + h) ≤ limit + ((get_or (meant b rs) k no_row).free + (get_or (meant b rs) k no_row).held) → lawful (meant b (set rs k (figured (get_or rs k no_row) f h))) ≡ true
store_lawful true rs k f h law l room = lawful_set rs k f h law l room
store_lawful false rs k f h law l room = absurd (omega arith)

pub sum_is : (rs : List Row) (i t : ℕ) (o : Option ℕ) → lawful rs ≡ true → o ≡ total_if_within i rs → t ≡ unwrap_or o 0 → t ≡ total_of i rs
sum_is rs i t o law e v = v ∙ ap (λ x. unwrap_or x 0) (e ∙ cond-true _ _ _ (le-leb _ _ (total_le i rs law)))

pub new_meant : (rs : List Row) (b : Bool) → b ≡ acceptable rs → lawful (meant b rs) ≡ true
new_meant rs true e = (and_parts _ _ (sym e)).1
new_meant rs false e = none_lawful
