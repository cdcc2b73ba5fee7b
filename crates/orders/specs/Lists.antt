-- Members of a list, and those that pass a test.
use Rattle.std.specs.Prelude.{◌≡◌, ℕ, ◌≤◌, Bool, true, false, cond, ◌&&◌, ◌⊎◌, List, [], ◌∷◌, ◌++◌, length, Some, None, filter, Option, refl}
use Rattle.std.proofs.Common.{sym, ◌∙◌, ap, subst, inl, inr, arith}
use Rattle.std.proofs.lemmas.Bool.{cond-true, cond-false, cond_both, cases_Bool, both_ways}
use Rattle.std.proofs.lemmas.List.Sums.{length-filter, count_by-le-length}
use Rattle.std.specs.List.{AllByRecursion as EveryOne}
use Rattle.orders.specs.Search.{In, passing}

pub none_some : {X A : Type 0} (x : X) → None ≡ Some x → A
none_some x e = absurd (let z : ◌≡◌ {A = ℕ} 0 1 = cc in omega arith)

pub some_none : {X A : Type 0} (x : X) → Some x ≡ None → A
some_none x e = none_some x (sym e)

-- a fact about a choice, by the test
pub cond_either : {A Q : Type 0} (t : Bool) (x y : A) (P : A → Type 0) → P (cond t x y) → (t ≡ true → P x → Q) → (t ≡ false → P y → Q) → Q
cond_either true x y P h f g = f refl h
cond_either false x y P h f g = g refl h

-- ---- facts of each entry
pub all_in : {X : Type 0} (P : X → Type 0) (xs : List X) → EveryOne P xs → (x : X) → In x xs → P x
all_in P [] h x i = absurd i
all_in P (y ∷ ys) h x i = elim i [ inl e ↦ subst P e h.0 | inr j ↦ all_in P ys h.1 x j ]

pub in_all : {X : Type 0} (P : X → Type 0) (xs : List X) → ((x : X) → In x xs → P x) → EveryOne P xs
in_all P [] h = tt
in_all P (y ∷ ys) h = (h y (inl refl), in_all P ys (λ x i. h x (inr i)))

pub all_both : {X : Type 0} {P Q R : X → Type 0} → ((x : X) → P x → Q x → R x) → (xs : List X) → EveryOne P xs → EveryOne Q xs → EveryOne R xs
all_both f [] h k = tt
all_both f (x ∷ xs) h k = (f x h.0 k.0, all_both f xs h.1 k.1)

pub in_push : {X : Type 0} (x y : X) (xs : List X) → In x (xs ++ (y ∷ [])) → In x xs ⊎ (y ≡ x)
in_push x y [] i = elim i [ inl e ↦ inr e | inr j ↦ absurd j ]
in_push x y (z ∷ zs) i = elim i [ inl e ↦ inl (inl e) | inr j ↦ elim (in_push x y zs j) [ inl k ↦ inl (inr k) | inr e ↦ inr e ] ]

-- ---- those that pass a test
module _ {X : Type 0} where
  pub in_kept : (p : X → Bool) (xs : List X) (x : X) → In x (filter p xs) → In x xs × (p x ≡ true)
  in_kept p [] x i = absurd i
  in_kept p (y ∷ ys) x i =
      cond_either (p y) (y ∷ filter p ys) (filter p ys) (In x) i
      (λ t j. elim j [ inl e ↦ (inl e, subst (λ z. p z ≡ true) e t) | inr k ↦ let r = in_kept p ys x k in (inr r.0, r.1) ])
      (λ _ k. let r = in_kept p ys x k in (inr r.0, r.1))

  pub kept_in : (p : X → Bool) (xs : List X) (x : X) → In x xs → p x ≡ true → In x (filter p xs)
  kept_in p [] x i t = i
  kept_in p (y ∷ ys) x i t =
      cond_both (p y) (y ∷ filter p ys) (filter p ys) (In x)
      (λ _. elim i [ inl e ↦ inl e | inr j ↦ inr (kept_in p ys x j t) ])
      (λ f. elim i [ inl e ↦ absurd (both_ways (p x) (subst (λ z. p z ≡ false) e f) t) | inr j ↦ kept_in p ys x j t ])

  pub kept_all : (p : X → Bool) (xs : List X) → EveryOne (λ x. p x ≡ true) xs → filter p xs ≡ xs
  kept_all p [] h = refl
  kept_all p (x ∷ xs) h = cond-true (p x) (x ∷ filter p xs) (filter p xs) h.0 ∙ ap (λ l. x ∷ l) (kept_all p xs h.1)

  -- tests that agree on the list keep the same
  pub kept_alike : (p q : X → Bool) (xs : List X) → ((x : X) → In x xs → p x ≡ q x) → filter p xs ≡ filter q xs
  kept_alike p q [] u = refl
  kept_alike p q (x ∷ xs) u =
      ap (λ l. cond (p x) (x ∷ l) l) (kept_alike p q xs (λ y i. u y (inr i))) ∙ ap (λ t. cond t (x ∷ filter q xs) (filter q xs)) (u x (inl refl))

  -- two tests are one
  pub kept_kept : (p q : X → Bool) (xs : List X) → filter q (filter p xs) ≡ filter (λ x. p x && q x) xs
  kept_kept p q [] = refl
  kept_kept p q (x ∷ xs) =
      let both = filter (λ x. p x && q x) xs in
      let ih : filter q (filter p xs) ≡ both = kept_kept p q xs in
      elim (cases_Bool (p x)) [
        | inl h ↦
            ap (filter q) (cond-true (p x) (x ∷ filter p xs) (filter p xs) h) ∙ ap (λ l. cond (q x) (x ∷ l) l) ih
            ∙ ap (λ b. cond (b && q x) (x ∷ both) both) (sym h)
        | inr h ↦
            ap (filter q) (cond-false (p x) (x ∷ filter p xs) (filter p xs) h) ∙ ih ∙ ap (λ b. cond (b && q x) (x ∷ both) both) (sym h)
      ]

  pub length_kept : (p : X → Bool) (xs : List X) → length (filter p xs) ≤ length xs
  length_kept p xs = omega (arith, length-filter p xs, count_by-le-length p xs)

  pub passing_some : (p : X → Bool) (s : Option X) (x : X) → passing p s ≡ Some x → (s ≡ Some x) × (p x ≡ true)
  passing_some p None x e = none_some x e
  passing_some p (Some y) x e =
      cond_either (p y) (Some y) None (λ r. r ≡ Some x) e
      (λ t f. let same : y ≡ x = cc in (ap Some same, subst (λ z. p z ≡ true) same t))
      (λ _ f. none_some x f)
