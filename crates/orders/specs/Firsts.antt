-- The first by rank, and the steps of the search for it.
use Rattle.std.specs.Prelude.{◌≡◌, ℕ, ◌+◌, ◌<◌, Bool, true, false, cond, List, [], ◌∷◌, Some, None, fold, Option, refl}
use Rattle.std.proofs.Common.{sym, ◌∙◌, ap, subst, inl, inr, arith}
use Rattle.std.proofs.lemmas.Bool.{cond-true, cond-false, cases_eq, cases_Bool, both_ways}
use Rattle.std.specs.Option.{option_map}
use Rattle.std.specs.Cmp.{IsStrictWeakOrder}
use Rattle.orders.specs.Rank.{front, first_by}
use Rattle.orders.specs.Search.{In, Leads, First, chosen}
use Rattle.orders.specs.Lists.{none_some, some_none}

first_some : {X A : Type 0} (before : X → X → Bool) (x : X) (xs : List X) → fold (front before) (Some x) xs ≡ None → A
first_some before x [] e = some_none x e
first_some before x (y ∷ ys) e = first_some before (cond (before y x) y x) ys e

pub first_none : {X : Type 0} (before : X → X → Bool) (xs : List X) → first_by before xs ≡ None → xs ≡ []
first_none before [] e = refl
first_none before (x ∷ xs) e = first_some before x xs e

module _ {X : Type 0} {before : X → X → Bool} (o : IsStrictWeakOrder before) where
  pub irreflexive : (x : X) → before x x ≡ false
  irreflexive x = elim (cases_Bool (before x x)) [ inl e ↦ o.one_way x x e | inr e ↦ e ]

  pub transitive : (x y z : X) → before x y ≡ true → before y z ≡ true → before x z ≡ true
  transitive x y z h k = elim (cases_Bool (before x z)) [ inl t ↦ t | inr f ↦ absurd (both_ways (before x y) (o.chain x z y f (o.one_way y z k)) h) ]

  -- ---- a search by places: one place more
  leads_skip : (at : ℕ → Option X) (n b : ℕ) (x : X) → at n ≡ None → Leads before at n b x → Leads before at (n + 1) b x
  leads_skip at n b x e l = (
    omega (arith, l.0),
    l.1,
    λ k y h f. elim (cases_eq k n) [
      | inl q ↦ none_some y (sym e ∙ subst (λ j. at j ≡ Some y) q f)
      | inr q ↦ l.2 k y (omega arith) f
    ],
  )

  pub first_skip : (at : ℕ → Option X) (n : ℕ) (best : Option (ℕ × X)) → at n ≡ None → First before at n best → First before at (n + 1) best
  first_skip at n None e l = λ k h. elim (cases_eq k n) [ inl q ↦ rw q e | inr q ↦ l k (omega arith) ]
  first_skip at n (Some b) e l = leads_skip at n b.0 b.1 e l

  pub first_choose : (at : ℕ → Option X) (n : ℕ) (x : X) (best : Option (ℕ × X)) → at n ≡ Some x → First before at n best → First before at (n + 1) (chosen before best n x)
  first_choose at n x None e l = (
    omega arith,
    e,
    λ k y h f. elim (cases_eq k n) [
      | inl q ↦ let g : at n ≡ Some y = rw q at f in let z : x ≡ y = cc in rw (← z) (irreflexive x)
      | inr q ↦ none_some y (sym (l k (omega arith)) ∙ f)
    ],
  )
  first_choose at n x (Some b) e l =
      elim (cases_Bool (before x b.1)) [
        | inl t ↦ rw (cond-true (before x b.1) (Some (n, x)) (Some b) t) (
          omega arith,
          e,
          λ k y h f. elim (cases_eq k n) [
            | inl q ↦ let g : at n ≡ Some y = rw q at f in let z : x ≡ y = cc in rw (← z) (irreflexive x)
            | inr q ↦ o.chain y b.1 x (l.2 k y (omega arith) f) (o.one_way x b.1 t)
          ],
        )
        | inr t ↦ rw (cond-false (before x b.1) (Some (n, x)) (Some b) t) (
          omega (arith, l.0),
          l.1,
          λ k y h f. elim (cases_eq k n) [
            | inl q ↦ let g : at n ≡ Some y = rw q at f in let z : x ≡ y = cc in rw (← z) t
            | inr q ↦ l.2 k y (omega arith) f
          ],
        )
      ]

  -- ---- the first of a list is one of it, and none of it comes before that
  from_left : (x : X) (ys : List X) (w : X) → fold (front before) (Some x) ys ≡ Some w → In w (x ∷ ys) × ((y : X) → In y (x ∷ ys) → before y w ≡ false)
  from_left x [] w e =
      let same : x ≡ w = cc in
      (inl same, λ y i. elim i [ inl f ↦ rw (← f, ← same) (irreflexive x) | inr j ↦ absurd j ])
  from_left x (y ∷ ys) w e =
      let v = cond (before y x) y x in
      let ih = from_left v ys w e in
      let vw : before v w ≡ false = ih.1 v (inl refl) in
      elim (cases_Bool (before y x)) [
        | inl h ↦
            let is : v ≡ y = cond-true (before y x) y x h in
            let yw : before y w ≡ false = sym (ap (λ z. before z w) is) ∙ vw in (
              elim ih.0 [ inl f ↦ inr (inl (sym is ∙ f)) | inr j ↦ inr (inr j) ],
              λ z i. elim i [ inl f ↦ rw (← f) (o.chain x y w (o.one_way y x h) yw) | inr j ↦ elim j [ inl f ↦ rw (← f) yw | inr k ↦ ih.1 z (inr k) ] ],
            )
        | inr h ↦
            let is : v ≡ x = cond-false (before y x) y x h in
            let xw : before x w ≡ false = sym (ap (λ z. before z w) is) ∙ vw in (
              elim ih.0 [ inl f ↦ inl (sym is ∙ f) | inr j ↦ inr (inr j) ],
              λ z i. elim i [ inl f ↦ rw (← f) xw | inr j ↦ elim j [ inl f ↦ rw (← f) (o.chain y x w h xw) | inr k ↦ ih.1 z (inr k) ] ],
            )
      ]

  pub first_tops : (xs : List X) (w : X) → first_by before xs ≡ Some w → In w xs × ((y : X) → In y xs → before y w ≡ false)
  first_tops [] w e = none_some w e
  first_tops (x ∷ xs) w e = from_left x xs w e

  -- ---- where ties are equal, a search by places finds the first by rank of any list of the same entries
  pub searched : (at : ℕ → Option X) (n : ℕ) (xs : List X) (best : Option (ℕ × X)) →
      ((k : ℕ) (x : X) → k < n → at k ≡ Some x → In x xs) → ((x : X) → In x xs → (k : ℕ) × (k < n) × (at k ≡ Some x)) →
      ((x y : X) → In x xs → In y xs → before x y ≡ false → before y x ≡ false → x ≡ y) → First before at n best → option_map (λ b. b.1) best ≡ first_by before xs
  searched at n xs best to from tie f = go best (first_by before xs) refl f
    where
      go : (best : Option (ℕ × X)) (r : Option X) → first_by before xs ≡ r → First before at n best → option_map (λ b. b.1) best ≡ first_by before xs
      go None None e f = sym e
      go None (Some w) e f = let k = from w (first_tops xs w e).0 in none_some w (sym (f k.0 k.1) ∙ k.2)
      go (Some b) None e f = absurd (subst (λ l. In b.1 l) (first_none before xs e) (to b.0 b.1 f.0 f.1))
      go (Some b) (Some w) e f =
          let t = first_tops xs w e in
          let i = to b.0 b.1 f.0 f.1 in
          let k = from w t.0 in
          ap Some (tie b.1 w i t.0 (t.1 b.1 i) (f.2 k.0 w k.1 k.2)) ∙ sym e

  -- ---- lists of the same entries have one first
  pub same_first : (xs ys : List X) → ((x : X) → In x xs → In x ys) → ((x : X) → In x ys → In x xs) →
      ((x y : X) → In x xs → In y xs → before x y ≡ false → before y x ≡ false → x ≡ y) → first_by before xs ≡ first_by before ys
  same_first xs ys to from tie = go (first_by before xs) (first_by before ys) refl refl
    where
      go : (r s : Option X) → first_by before xs ≡ r → first_by before ys ≡ s → r ≡ s
      go None None e f = refl
      go None (Some w) e f = absurd (subst (In w) (first_none before xs e) (from w (first_tops ys w f).0))
      go (Some v) None e f = absurd (subst (In v) (first_none before ys f) (to v (first_tops xs v e).0))
      go (Some v) (Some w) e f =
          let a = first_tops xs v e in
          let b = first_tops ys w f in
          let i = from w b.0 in
          ap Some (tie v w a.0 i (b.1 v (to v a.0)) (a.1 w i))
