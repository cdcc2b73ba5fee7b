-- New figures at a place keep the rules. Assumes nothing.
use Rattle.std.proofs.Common.{◌≡◌, ℕ, zero, suc, ◌+◌, ◌<◌, ◌≤◌, Bool, true, ◌&&◌, leb, List, [], ◌∷◌, length, get_or, set, refl, ap, ◌∙◌, ⊎_elim, add-one, arith}
use Rattle.std.specs.List.{range_with_len, list_all}
use Rattle.std.proofs.lemmas.List.Sums.{sum_by-set}
use Rattle.std.proofs.lemmas.Bool.{and_from, le-leb, cases_eq}
use Rattle.register.specs.declared.holding.Row.{Row}
use Rattle.register.specs.Places.{no_row}
use Rattle.register.specs.Rules.{limit, lawful, total_of, shares, precedes, ascending, in_range, issues, capped, figured}
use Rattle.register.proofs.Places.{shares_named, shares_other, lawful_ascending, lawful_ranged, total_le}

-- each issue's total is within the limit
all_from : (p : ℕ → Bool) (a n : ℕ) → ((i : ℕ) → a ≤ i → i < a + n → p i ≡ true) → list_all p (range_with_len a n) ≡ true
all_from p a zero f = refl
all_from p a (suc n) f = and_from _ _ (f a (omega arith) (omega arith)) (all_from p (a + 1) n (λ i l m. f i (omega arith) (omega arith)))

pub capped_from : (rs : List Row) → ((i : ℕ) → i < 16 → total_of (i + 1) rs ≤ limit) → capped rs ≡ true
unfolding issues
capped_from rs f = all_from (λ i. leb (total_of i rs) limit) 1 16 (λ i l m. le-leb _ _ (at i l m))
  where
    at : (i : ℕ) → 1 ≤ i → i < 17 → total_of i rs ≤ limit
    at zero l m = absurd (omega arith)
    at (suc i) l m = rw (← add-one) (f i (omega arith))

ascending_set : (xs : List Row) (k f h : ℕ) → ascending (set xs k (figured (get_or xs k no_row) f h)) ≡ ascending xs
ascending_set [] k f h = refl
ascending_set (x ∷ []) zero f h = refl
ascending_set (x ∷ []) (suc k) f h = refl
ascending_set (x ∷ (y ∷ ys)) zero f h = refl
ascending_set (x ∷ (y ∷ ys)) (suc zero) f h = ap (λ b. precedes x y && b) (ascending_set (y ∷ ys) zero f h)
ascending_set (x ∷ (y ∷ ys)) (suc (suc k)) f h = ap (λ b. precedes x y && b) (ascending_set (y ∷ ys) (suc k) f h)

ranged_set : (xs : List Row) (k f h : ℕ) → list_all in_range (set xs k (figured (get_or xs k no_row) f h)) ≡ list_all in_range xs
ranged_set [] k f h = refl
ranged_set (x ∷ xs) zero f h = refl
ranged_set (x ∷ xs) (suc k) f h = ap (λ b. in_range x && b) (ranged_set xs k f h)

pub lawful_set : (xs : List Row) (k f h : ℕ) → lawful xs ≡ true → k < length xs → total_of (get_or xs k no_row).issue xs + (f + h) ≤ limit + ((get_or xs k no_row).free + (get_or xs k no_row).held) → lawful (set xs k (figured (get_or xs k no_row) f h)) ≡ true
unfolding lawful
lawful_set xs k f h w l room =
    and_from _ _
    (and_from _ _ (ascending_set xs k f h ∙ lawful_ascending xs w) (ranged_set xs k f h ∙ lawful_ranged xs w))
    (capped_from (set xs k (figured (get_or xs k no_row) f h)) (λ i m.
    let r = get_or xs k no_row in
    let u = sum_by-set (shares (i + 1)) xs k (figured r f h) no_row l in
    let t = total_le (i + 1) xs w in
    ⊎_elim
    (λ (e : r.issue ≡ i + 1).
    let a = shares_named (i + 1) r e in
    let b = shares_named (i + 1) (figured r f h) e in
    let c = ap (λ n. total_of n xs) e in
    omega arith)
    (λ (n : r.issue ≡ i + 1 → ⊥).
    let a = shares_other (i + 1) r n in
    let b = shares_other (i + 1) (figured r f h) n in
    omega arith)
    (cases_eq r.issue (i + 1))))
