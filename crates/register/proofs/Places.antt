-- What lawful rows give: each pair has one place, and the totals are within their limit. Assumes nothing.
use Rattle.std.proofs.Common.{◌≡◌, ℕ, zero, suc, ◌+◌, ◌<◌, ◌≤◌, Bool, true, false, leb, ◌⊎◌, List, [], ◌∷◌, length, get_or, set, Some, None, Option, sym, refl, ap, ◌∙◌, inl, inr, ⊎_elim, arith}
use Rattle.std.specs.List.{range_with_len, list_all}
use Rattle.std.specs.Option.{MatchOption}
use Rattle.std.proofs.lemmas.Bool.{and_parts, or_cases, eqb-true, ltb-true, leb-true, cond-true, cond-false, cases_Bool, ne_eqb, cases_lt, eq-eqb}
use Rattle.std.proofs.lemmas.Option.{MatchOption-at_some}
use Rattle.std.proofs.lemmas.List.Sums.{sum_by-cons, sum_by-set, get_or-le-sum_by}
use Rattle.register.specs.declared.holding.Row.{Row}
use Rattle.register.specs.Places.{no_row, Placed}
use Rattle.register.specs.Rules.{limit, lawful, names, balance_of, total_of, shares, precedes, ascending, in_range, issues, capped, change, Moved, if_open, figured}

-- ---- the parts of the rule

pub lawful_ascending : (rs : List Row) → lawful rs ≡ true → ascending rs ≡ true
unfolding lawful
lawful_ascending rs h = (and_parts _ _ (and_parts _ _ h).0).0

pub lawful_ranged : (rs : List Row) → lawful rs ≡ true → list_all in_range rs ≡ true
unfolding lawful
lawful_ranged rs h = (and_parts _ _ (and_parts _ _ h).0).1

pub lawful_capped : (rs : List Row) → lawful rs ≡ true → capped rs ≡ true
unfolding lawful
lawful_capped rs h = (and_parts _ _ h).1

-- ---- one place for each pair

abbrev pub Lex : Row → Row → Type 0
Lex r s = (r.account < s.account) ⊎ ((r.account ≡ s.account) × (r.issue < s.issue))

pub lex_from_precedes : (r s : Row) → precedes r s ≡ true → Lex r s
lex_from_precedes r s h = ⊎_elim
    (λ l. inl (ltb-true _ _ l))
    (λ b. let p = and_parts _ _ b in inr (eqb-true _ _ p.0, ltb-true _ _ p.1))
    (or_cases _ _ h)

pub lex_trans : (r s t : Row) → Lex r s → Lex s t → Lex r t
lex_trans r s t (inl a) (inl b) = inl (omega arith)
lex_trans r s t (inl a) (inr b) = inl (omega arith)
lex_trans r s t (inr a) (inl b) = inl (omega arith)
lex_trans r s t (inr a) (inr b) = inr (omega arith, omega arith)

pub lex_head : (r : Row) (rs : List Row) (k : ℕ) → ascending (r ∷ rs) ≡ true → k < length rs → Lex r (get_or rs k no_row)
lex_head r [] k h l = absurd (omega arith)
lex_head r (s ∷ ss) zero h l = lex_from_precedes r s (and_parts _ _ h).0
lex_head r (s ∷ ss) (suc k) h l =
    lex_trans r s (get_or ss k no_row) (lex_from_precedes r s (and_parts _ _ h).0) (lex_head s ss k (and_parts _ _ h).1 (omega arith))

pub named : (a i : ℕ) (r : Row) → names a i r ≡ true → (r.account ≡ a) × (r.issue ≡ i)
named a i r h = let p = and_parts _ _ h in (eqb-true _ _ p.0, eqb-true _ _ p.1)

pub one_name : (a i : ℕ) (r s : Row) → Lex r s → names a i r ≡ true → names a i s ≡ true → ⊥
one_name a i r s (inl l) p q = let x = named a i r p in let y = named a i s q in omega arith
one_name a i r s (inr l) p q = let x = named a i r p in let y = named a i s q in omega arith

-- a row before that of the pair is another's
pub unnamed_before : (a i : ℕ) (r s : Row) → Lex r s → names a i s ≡ true → names a i r ≡ false
unnamed_before a i r s l q = ⊎_elim (λ p. absurd (one_name a i r s l p q)) (λ p. p) (cases_Bool (names a i r))

pub unnamed_after : (a i : ℕ) (r s : Row) → Lex r s → names a i r ≡ true → names a i s ≡ false
unnamed_after a i r s l q = ⊎_elim (λ p. absurd (one_name a i r s l q p)) (λ p. p) (cases_Bool (names a i s))

pub balance_at : (a i : ℕ) (rs : List Row) (k : ℕ) → ascending rs ≡ true → k < length rs → names a i (get_or rs k no_row) ≡ true → balance_of a i rs ≡ Some ((get_or rs k no_row).free, (get_or rs k no_row).held)
balance_at a i [] k h l n = absurd (omega arith)
balance_at a i (r ∷ rs) zero h l n = cond-true _ _ _ n
balance_at a i (r ∷ rs) (suc k) h l n =
    let m : k < length rs = omega arith in
    cond-false _ _ _ (unnamed_before a i r (get_or rs k no_row) (lex_head r rs k h m) n) ∙ balance_at a i rs k (and_parts _ _ h).1 m n

pub balance_none : (a i : ℕ) (rs : List Row) → ((k : ℕ) → k < length rs → names a i (get_or rs k no_row) ≡ false) → balance_of a i rs ≡ None
balance_none a i [] f = refl
balance_none a i (r ∷ rs) f = cond-false _ _ _ (f 0 (omega arith)) ∙ balance_none a i rs (λ k l. f (suc k) (omega arith))

pub change_none : (a i : ℕ) (g : Row → Row) (rs : List Row) → ((k : ℕ) → k < length rs → names a i (get_or rs k no_row) ≡ false) → change a i g rs ≡ rs
change_none a i g [] f = refl
change_none a i g (r ∷ rs) f = let h = cond-false _ (g r) r (f 0 (omega arith)) in let t = change_none a i g rs (λ k l. f (suc k) (omega arith)) in cc

pub change_at : (a i : ℕ) (g : Row → Row) (rs : List Row) (k : ℕ) → ascending rs ≡ true → k < length rs → names a i (get_or rs k no_row) ≡ true → change a i g rs ≡ set rs k (g (get_or rs k no_row))
change_at a i g [] k h l n = absurd (omega arith)
change_at a i g (r ∷ rs) zero h l n =
    let e = cond-true _ (g r) r n in
    let t = change_none a i g rs (λ k m. unnamed_after a i r (get_or rs k no_row) (lex_head r rs k h m) n) in cc
change_at a i g (r ∷ rs) (suc k) h l n =
    let m : k < length rs = omega arith in
    let e = cond-false _ (g r) r (unnamed_before a i r (get_or rs k no_row) (lex_head r rs k h m) n) in
    let t = change_at a i g rs k (and_parts _ _ h).1 m n in cc

-- ---- totals

pub all_counting : (p : ℕ → Bool) (a n i : ℕ) → list_all p (range_with_len a n) ≡ true → a ≤ i → i < a + n → p i ≡ true
all_counting p a zero i h l m = absurd (omega arith)
all_counting p a (suc n) i h l m = ⊎_elim
    (λ (e : a ≡ i). ap p (sym e) ∙ (and_parts _ _ h).0)
    (λ (e : a < i). all_counting p (a + 1) n i (and_parts _ _ h).1 (omega arith) (omega arith))
    (first a i l)
  where
    first : (a i : ℕ) → a ≤ i → (a ≡ i) ⊎ (a < i)
    first a i l = ⊎_elim (λ m. inr m) (λ m. inl (omega arith)) (cases_lt a i)

pub shares_other : (i : ℕ) (r : Row) → (r.issue ≡ i → ⊥) → shares i r ≡ 0
shares_other i r n = cond-false _ _ _ (ne_eqb _ _ n)

pub shares_named : (i : ℕ) (r : Row) → r.issue ≡ i → shares i r ≡ r.free + r.held
shares_named i r e = cond-true _ _ _ (eq-eqb _ _ e)

pub total_unknown : (i : ℕ) (rs : List Row) → list_all in_range rs ≡ true → (i ≡ 0) ⊎ (16 < i) → total_of i rs ≡ 0
total_unknown i [] h u = refl
total_unknown i (r ∷ rs) h u =
    let p = and_parts _ _ (and_parts _ _ (and_parts _ _ h).0).1 in
    let lo : 1 ≤ r.issue = leb-true _ _ p.0 in
    let hi : r.issue ≤ 16 = leb-true _ _ p.1 in
    let s = shares_other i r (λ e. ⊎_elim (λ (z : i ≡ 0). omega arith) (λ (z : 16 < i). omega arith) u) in
    let t = total_unknown i rs (and_parts _ _ h).1 u in
    let c = sum_by-cons (shares i) r rs in
    omega arith

pub total_le : (i : ℕ) (rs : List Row) → lawful rs ≡ true → total_of i rs ≤ limit
unfolding issues
total_le i rs h = ⊎_elim
    (λ (z : i < 1). let t = total_unknown i rs (lawful_ranged rs h) (inl (omega arith)) in omega arith)
    (λ (z : 1 ≤ i). ⊎_elim
    (λ (y : i < 17). leb-true _ _ (all_counting (λ j. leb (total_of j rs) limit) 1 16 i (lawful_capped rs h) z y))
    (λ (y : 17 ≤ i). let t = total_unknown i rs (lawful_ranged rs h) (inr (omega arith)) in omega arith)
    (cases_lt i 17))
    (cases_lt i 1)

-- ---- a pair's place

pub placed_open : (a i : ℕ) (rs : List Row) (k : ℕ) → lawful rs ≡ true → Placed a i rs k → (m : ℕ → ℕ → Moved) → if_open (balance_of a i rs) m ≡ m (get_or rs k no_row).free (get_or rs k no_row).held
placed_open a i rs k w p m = ap (λ o. if_open o m) (balance_at a i rs k (lawful_ascending rs w) p.within p.here)

pub placed_change : (a i : ℕ) (rs : List Row) (k : ℕ) → lawful rs ≡ true → Placed a i rs k → (g : Row → Row) → change a i g rs ≡ set rs k (g (get_or rs k no_row))
placed_change a i rs k w p g = change_at a i g rs k (lawful_ascending rs w) p.within p.here

-- the pair's shares are part of its issue's total
pub placed_le : (a i : ℕ) (rs : List Row) (k : ℕ) → lawful rs ≡ true → Placed a i rs k → ((get_or rs k no_row).issue ≡ i) × ((get_or rs k no_row).free + (get_or rs k no_row).held ≤ total_of i rs) × (total_of i rs ≤ limit)
placed_le a i rs k w p =
    let e = (named a i (get_or rs k no_row) p.here).1 in
    let s = shares_named i (get_or rs k no_row) e in
    let l = get_or-le-sum_by (shares i) rs k no_row p.within in
    (e, omega arith, total_le i rs w)

-- new figures at the place
pub placed_total : (a i : ℕ) (rs : List Row) (k : ℕ) → lawful rs ≡ true → Placed a i rs k → (free held : ℕ) → total_of i (set rs k (figured (get_or rs k no_row) free held)) + ((get_or rs k no_row).free + (get_or rs k no_row).held) ≡ total_of i rs + (free + held)
placed_total a i rs k w p free held =
    let r = get_or rs k no_row in
    let e = (named a i r p.here).1 in
    let s = shares_named i r e in
    let t = shares_named i (figured r free held) e in
    let u = sum_by-set (shares i) rs k (figured r free held) no_row p.within in
    omega arith

pub placed_balance : (a i : ℕ) (rs : List Row) (k : ℕ) → lawful rs ≡ true → Placed a i rs k → balance_of a i rs ≡ Some ((get_or rs k no_row).free, (get_or rs k no_row).held)
placed_balance a i rs k w p = balance_at a i rs k (lawful_ascending rs w) p.within p.here

-- ---- what was read at a pair's place

-- k is the place of the pair (a, i) among rows that keep the rules, and x has its shares
pub record Read (a i : ℕ) (rs : List Row) (k : ℕ) (x : ℕ × ℕ) : Type 0 where
  pub law : lawful rs ≡ true
  pub place : Placed a i rs k
  pub is : x ≡ ((get_or rs k no_row).free, (get_or rs k no_row).held)

-- by what `find` and `figures` ensure
pub placed : (a i : ℕ) (rs : List Row) (o : Option ℕ) (k : ℕ) → MatchOption o (balance_of a i rs ≡ None) (λ j. Placed a i rs j) → o ≡ Some k → Placed a i rs k
placed a i rs o k m e = MatchOption-at_some (balance_of a i rs ≡ None) (λ j. Placed a i rs j) k e m

pub read_at : (a i : ℕ) (rs : List Row) (o : Option ℕ) (k : ℕ) (x : ℕ × ℕ) → lawful rs ≡ true → MatchOption o (balance_of a i rs ≡ None) (λ j. Placed a i rs j) → o ≡ Some k → x ≡ ((get_or rs k no_row).free, (get_or rs k no_row).held) → Read a i rs k x
read_at a i rs o k x w m e f = record { law = w; place = placed a i rs o k m e; is = f }

module _ {a i : ℕ} {rs : List Row} {k : ℕ} {x : ℕ × ℕ} (r : Read a i rs k x) where
  pub read_balance : balance_of a i rs ≡ Some x
  read_balance = placed_balance a i rs k r.law r.place ∙ ap Some (sym r.is)

  pub read_le : (x.0 + x.1 ≤ total_of i rs) × (total_of i rs ≤ limit)
  read_le =
      let l = placed_le a i rs k r.law r.place in
      let f : x.0 ≡ (get_or rs k no_row).free = ap (λ y. y.0) r.is in
      let h : x.1 ≡ (get_or rs k no_row).held = ap (λ y. y.1) r.is in
      (omega arith, l.2)

  -- what `write` requires of new shares, n together
  pub read_fits : (n : ℕ) → total_of i rs + n ≤ limit + (x.0 + x.1) → total_of (get_or rs k no_row).issue rs + n ≤ limit + ((get_or rs k no_row).free + (get_or rs k no_row).held)
  read_fits n l =
      let m = placed_le a i rs k r.law r.place in
      let s = ap (λ j. total_of j rs) m.0 in
      let f : x.0 ≡ (get_or rs k no_row).free = ap (λ y. y.0) r.is in
      let h : x.1 ≡ (get_or rs k no_row).held = ap (λ y. y.1) r.is in
      omega arith

-- ---- for users: a balance is part of its issue's total

pub balance_le : (a i : ℕ) (rs : List Row) (p : ℕ × ℕ) → balance_of a i rs ≡ Some p → p.0 + p.1 ≤ total_of i rs
balance_le a i [] p e = let z : ◌≡◌ {A = ℕ} 0 1 = cc in absurd (omega arith)
balance_le a i (r ∷ rs) p e =
    let c = sum_by-cons (shares i) r rs in
    ⊎_elim
    (λ (t : names a i r ≡ true).
    let s = shares_named i r (named a i r t).1 in
    let f : Some p ≡ Some (r.free, r.held) = sym e ∙ cond-true _ _ _ t in
    let g : p ≡ (r.free, r.held) = cc in
    let x : p.0 ≡ r.free = ap (λ y. y.0) g in
    let y : p.1 ≡ r.held = ap (λ y. y.1) g in
    omega arith)
    (λ (t : names a i r ≡ false).
    let h = balance_le a i rs p (sym (cond-false (names a i r) (Some (r.free, r.held)) (balance_of a i rs) t) ∙ e) in
    omega arith)
    (cases_Bool (names a i r))
