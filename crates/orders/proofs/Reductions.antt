-- One order of a list trades: those that pass a test, and the rank order, after it.
use Rattle.std.proofs.Common.{◌≡◌, ℕ, ◌-◌, Bool, true, false, cond, not, eqb, List, [], ◌∷◌, Some, filter, sym, refl, ap, ◌∙◌, inl, inr}
use Rattle.std.proofs.lemmas.Bool.{cond_both, cond-true, cond-false, cases_Bool, cases_eq, eq-eqb, ne_eqb, eqb-false, not-true, not_from_true, not_from_false}
use Rattle.std.proofs.ByRecursion.{All-weaker, kept_by_passes}
use Rattle.std.specs.List.{AllByRecursion as EveryOne}
use Rattle.orders.specs.declared.order.Order.{Order}
use Rattle.orders.specs.declared.order.Term.{Term}
use Rattle.orders.specs.Rank.{first_by, put, in_rank, ahead}
use Rattle.orders.specs.Book.{Book, number_of, changed, without, loosened, lowered, if_left, reduced}
use Rattle.orders.specs.Laws.{Distinct}
use Rattle.orders.specs.Lists.{in_all}
use Rattle.orders.specs.Firsts.{first_tops}
use Rattle.orders.specs.Ranks.{ahead_ranks}
use Rattle.orders.specs.Ranking.{one_of, all_in_rank, in_turn}
use Rattle.orders.proofs.Changes.{Missing, changed_missing, without_missing}

-- ---- those that pass, where the order that trades does not
pub kept_other : (p : Order → Bool) (n q : ℕ) (b : Book) → EveryOne (λ o. o.number ≡ n → (p o ≡ false) × (p (lowered q o) ≡ false)) b → filter p (reduced n q b) ≡ filter p b
kept_other p n q [] h = refl
kept_other p n q (o ∷ os) h =
    elim (cases_eq o.number n) [
      | inl e ↦
          let f = h.0 e in
          ap (filter p) (cond-true (eqb o.number n) (if_left (lowered q o) os) (o ∷ reduced n q os) (eq-eqb _ _ e))
          ∙ cond_both (eqb (o.left - q) 0) os (lowered q o ∷ os) (λ l. filter p l ≡ filter p os) (λ _. refl)
          (λ _. cond-false (p (lowered q o)) (lowered q o ∷ filter p os) (filter p os) f.1)
          ∙ sym (cond-false (p o) (o ∷ filter p os) (filter p os) f.0)
      | inr d ↦
          ap (filter p) (cond-false (eqb o.number n) (if_left (lowered q o) os) (o ∷ reduced n q os) (ne_eqb _ _ d))
          ∙ ap (λ l. cond (p o) (o ∷ l) l) (kept_other p n q os h.1)
    ]

-- ---- and where it does, before and after
pub kept_own : (p : Order → Bool) (n q : ℕ) (b : Book) → EveryOne (λ o. o.number ≡ n → (p o ≡ true) × (p (lowered q o) ≡ true)) b → filter p (reduced n q b) ≡ reduced n q (filter p b)
kept_own p n q [] h = refl
kept_own p n q (o ∷ os) h =
    let k = filter p os in
    elim (cases_eq o.number n) [
      | inl e ↦
          let f = h.0 e in
          ap (filter p) (cond-true (eqb o.number n) (if_left (lowered q o) os) (o ∷ reduced n q os) (eq-eqb _ _ e))
          ∙ cond_both (eqb (o.left - q) 0) os (lowered q o ∷ os) (λ l. filter p l ≡ if_left (lowered q o) k)
          (λ z. sym (cond-true (eqb (o.left - q) 0) k (lowered q o ∷ k) z))
          (λ z. cond-true (p (lowered q o)) (lowered q o ∷ k) k f.1 ∙ sym (cond-false (eqb (o.left - q) 0) k (lowered q o ∷ k) z))
          ∙ sym (cond-true (eqb o.number n) (if_left (lowered q o) k) (o ∷ reduced n q k) (eq-eqb _ _ e))
          ∙ sym (ap (reduced n q) (cond-true (p o) (o ∷ k) k f.0))
      | inr d ↦
          ap (filter p) (cond-false (eqb o.number n) (if_left (lowered q o) os) (o ∷ reduced n q os) (ne_eqb _ _ d))
          ∙ ap (λ l. cond (p o) (o ∷ l) l) (kept_own p n q os h.1)
          ∙ cond_both (p o) (o ∷ k) k (λ l. cond (p o) (o ∷ reduced n q k) (reduced n q k) ≡ reduced n q l)
          (λ t. cond-true (p o) (o ∷ reduced n q k) (reduced n q k) t ∙ sym (cond-false (eqb o.number n) (if_left (lowered q o) k) (o ∷ reduced n q k) (ne_eqb _ _ d)))
          (λ t. cond-false (p o) (o ∷ reduced n q k) (reduced n q k) t)
    ]

-- ---- a trade that leaves something is a change; one that leaves nothing is the end
some_left : (n q : ℕ) (b : Book) → Distinct number_of b → EveryOne (λ o. o.number ≡ n → eqb (o.left - q) 0 ≡ false) b → reduced n q b ≡ changed n (lowered q) b
some_left n q [] d h = refl
some_left n q (o ∷ os) d h =
    elim (cases_eq o.number n) [
      | inl e ↦
          cond-true (eqb o.number n) (if_left (lowered q o) os) (o ∷ reduced n q os) (eq-eqb _ _ e)
          ∙ cond-false (eqb (o.left - q) 0) os (lowered q o ∷ os) (h.0 e)
          ∙ ap (λ l. lowered q o ∷ l) (sym (changed_missing n (lowered q) os (rest e)))
          ∙ ap (λ y. y ∷ changed n (lowered q) os) (sym (cond-true (eqb o.number n) (lowered q o) o (eq-eqb _ _ e)))
      | inr k ↦
          cond-false (eqb o.number n) (if_left (lowered q o) os) (o ∷ reduced n q os) (ne_eqb _ _ k)
          ∙ ap (λ l. o ∷ l) (some_left n q os d.1 h.1)
          ∙ ap (λ y. y ∷ changed n (lowered q) os) (sym (cond-false (eqb o.number n) (lowered q o) o (ne_eqb _ _ k)))
    ]
  where
    rest : o.number ≡ n → Missing n os
    rest e = All-weaker (λ x. x.number ≡ o.number → ⊥) (λ x. x.number ≡ n → ⊥) (λ x ne k. ne (k ∙ sym e)) os d.0

none_left : (n q : ℕ) (b : Book) → Distinct number_of b → EveryOne (λ o. o.number ≡ n → eqb (o.left - q) 0 ≡ true) b → reduced n q b ≡ without n b
none_left n q [] d h = refl
none_left n q (o ∷ os) d h =
    let keep = λ (y : Order). not (eqb y.number n) in
    elim (cases_eq o.number n) [
      | inl e ↦
          cond-true (eqb o.number n) (if_left (lowered q o) os) (o ∷ reduced n q os) (eq-eqb _ _ e)
          ∙ cond-true (eqb (o.left - q) 0) os (lowered q o ∷ os) (h.0 e)
          ∙ sym (without_missing n os (All-weaker (λ x. x.number ≡ o.number → ⊥) (λ x. x.number ≡ n → ⊥) (λ x ne k. ne (k ∙ sym e)) os d.0))
          ∙ sym (cond-false (keep o) (o ∷ filter keep os) (filter keep os) (not_from_true _ (eq-eqb _ _ e)))
      | inr k ↦
          cond-false (eqb o.number n) (if_left (lowered q o) os) (o ∷ reduced n q os) (ne_eqb _ _ k)
          ∙ ap (λ l. o ∷ l) (none_left n q os d.1 h.1)
          ∙ sym (cond-true (keep o) (o ∷ filter keep os) (filter keep os) (not_from_false _ (ne_eqb _ _ k)))
    ]

-- ---- an order that keeps its term when it trades keeps its rank
abbrev pub KeepsTerm : Order → Type 0
KeepsTerm o = loosened o.term ≡ o.term

ahead_lowered : (q : ℕ) (x y : Order) → KeepsTerm x → (ahead (lowered q x) y ≡ ahead x y) × (ahead y (lowered q x) ≡ ahead y x)
ahead_lowered q x y e = (ap (λ t. ahead (with_term t) y) e, ap (λ t. ahead y (with_term t)) e)
  where
    with_term : Term → Order
    with_term t = record { number = x.number; account = x.account; issue = x.issue; side = x.side; price = x.price; left = x.left - q; term = t; stamp = x.stamp; working = x.working }

abbrev one_changed : ℕ → ℕ → Order → Order
one_changed n q o = cond (eqb o.number n) (lowered q o) o

ahead_changed : (n q : ℕ) (x y : Order) → KeepsTerm x → KeepsTerm y → ahead (one_changed n q x) (one_changed n q y) ≡ ahead x y
ahead_changed n q x y e f =
    cond_both (eqb x.number n) (lowered q x) x (λ z. ahead z (one_changed n q y) ≡ ahead x y) (λ _. (ahead_lowered q x (one_changed n q y) e).0 ∙ left) (λ _. left)
  where
    left : ahead x (one_changed n q y) ≡ ahead x y
    left = cond_both (eqb y.number n) (lowered q y) y (λ z. ahead x z ≡ ahead x y) (λ _. (ahead_lowered q y x f).1) (λ _. refl)

put_changed : (n q : ℕ) (x : Order) (ys : List Order) → KeepsTerm x → EveryOne KeepsTerm ys → put ahead (one_changed n q x) (changed n (lowered q) ys) ≡ changed n (lowered q) (put ahead x ys)
put_changed n q x [] e h = refl
put_changed n q x (y ∷ ys) e h =
    let f = one_changed n q in
    let c = changed n (lowered q) in
    ap (λ t. cond t (f y ∷ put ahead (f x) (c ys)) (f x ∷ f y ∷ c ys)) (ahead_changed n q y x h.0 e)
    ∙ ap (λ l. cond (ahead y x) (f y ∷ l) (f x ∷ f y ∷ c ys)) (put_changed n q x ys e h.1)
    ∙ split (ahead y x)
  where
    split : (t : Bool) → cond t (one_changed n q y ∷ changed n (lowered q) (put ahead x ys)) (one_changed n q x ∷ one_changed n q y ∷ changed n (lowered q) ys) ≡ changed n (lowered q) (cond t (y ∷ put ahead x ys) (x ∷ y ∷ ys))
    split true = refl
    split false = refl

rank_changed : (n q : ℕ) (xs : List Order) → EveryOne KeepsTerm xs → in_rank ahead (changed n (lowered q) xs) ≡ changed n (lowered q) (in_rank ahead xs)
rank_changed n q [] h = refl
rank_changed n q (x ∷ xs) h =
    ap (put ahead (one_changed n q x)) (rank_changed n q xs h.1) ∙ put_changed n q x (in_rank ahead xs) h.0 (all_in_rank ahead KeepsTerm xs h.1)

-- ---- the rank order after the first of it has traded: that first with less left, if it has any, and then the others
pub onwards : (xs : List Order) → Distinct number_of xs → EveryOne KeepsTerm xs → (q : ℕ) (w : Order) → first_by ahead xs ≡ Some w →
    in_rank ahead (reduced w.number q xs) ≡ if_left (lowered q w) (in_rank ahead (without w.number xs))
onwards xs d terms q w e =
    elim (cases_Bool (eqb (w.left - q) 0)) [
      | inl z ↦ ap (in_rank ahead) (none_left n q xs d (All-weaker Like (λ o. o.number ≡ n → eqb (o.left - q) 0 ≡ true) (λ o h k. h k ∙ z) xs own)) ∙ sym (cond-true (eqb (w.left - q) 0) rest (lowered q w ∷ rest) z)
      | inr z ↦
          ap (in_rank ahead) (some_left n q xs d (All-weaker Like (λ o. o.number ≡ n → eqb (o.left - q) 0 ≡ false) (λ o h k. h k ∙ z) xs own))
          ∙ rank_changed n q xs terms
          ∙ ap (changed n (lowered q)) (in_turn ahead_ranks number_of xs d w e)
          ∙ ap (λ y. y ∷ changed n (lowered q) rest) (cond-true (eqb w.number n) (lowered q w) w (eq-eqb _ _ refl))
          ∙ ap (λ l. lowered q w ∷ l) (changed_missing n (lowered q) rest (all_in_rank ahead (λ o. o.number ≡ n → ⊥) (without n xs) others))
          ∙ sym (cond-false (eqb (w.left - q) 0) rest (lowered q w ∷ rest) z)
    ]
  where
    n : ℕ
    n = w.number

    rest : List Order
    rest = in_rank ahead (without n xs)

    Like : Order → Type 0
    Like o = o.number ≡ n → eqb (o.left - q) 0 ≡ eqb (w.left - q) 0

    own : EveryOne Like xs
    own = in_all Like xs (λ o i k. ap (λ (z : Order). eqb (z.left - q) 0) (one_of number_of xs d o w i (first_tops ahead_ranks xs w e).0 k))

    others : Missing n (without n xs)
    others = All-weaker (λ o. not (eqb o.number n) ≡ true) (λ o. o.number ≡ n → ⊥) (λ o t. eqb-false _ _ (not-true _ t)) (without n xs) (kept_by_passes (λ o. not (eqb o.number n)) xs)
