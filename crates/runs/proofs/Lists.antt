-- Books with an order more, and with an order changed in its place. Assumes nothing.
use Rattle.std.proofs.Common.{◌≡◌, ℕ, ◌+◌, ◌<◌, Bool, true, false, cond, eqb, ◌⊎◌, [], ◌∷◌, ◌++◌, Some, sym, refl, ap, ◌∙◌, subst, inl, inr, arith, append-nil}
use Rattle.std.proofs.lemmas.Bool.{cond_both, eqb-true, ne_eqb}
use Rattle.std.proofs.lemmas.Bool.Decides.{nat_tests}
use Rattle.std.proofs.lemmas.List.Elements.{filter-append}
use Rattle.std.proofs.ByRecursion.{All-weaker, All-append}
use Rattle.std.specs.List.{AllByRecursion as EveryOne}
use Rattle.orders.specs.declared.order.Order.{Order}
use Rattle.orders.specs.Orders.{Valid}
use Rattle.orders.specs.Book.{Book, number_of, stamp_of, find, changed}
use Rattle.orders.specs.Laws.{Ascending, Distinct, Sound}
use Rattle.orders.specs.Lists.{none_some, in_all}
use Rattle.orders.proofs.Changes.{changed_missing, found_all, found_only, distinct_ascending}
use Rattle.matching.specs.Laws.{of_issue}
use Rattle.rules.specs.Shares.{backing}
use Rattle.runs.proofs.Pairs.{behind}

-- ---- an order more
pub backing_append : (a i : ℕ) (b : Book) (o : Order) → backing a i (b ++ (o ∷ [])) ≡ backing a i b + behind (Some o) a i
backing_append a i [] o = omega arith
backing_append a i (x ∷ os) o = omega (arith, backing_append a i os o)

ascending_append : (b : Book) (o : Order) → Ascending b → EveryOne (λ x. x.number < o.number) b → Ascending (b ++ (o ∷ []))
ascending_append [] o h k = (tt, tt)
ascending_append (x ∷ os) o h k = (All-append (λ y. x.number < y.number) os (o ∷ []) h.0 (k.0, tt), ascending_append os o h.1 k.1)

stamps_append : (b : Book) (o : Order) → Distinct stamp_of b → EveryOne (λ x. x.stamp < o.stamp) b → Distinct stamp_of (b ++ (o ∷ []))
stamps_append [] o h k = (tt, tt)
stamps_append (x ∷ os) o h k = (All-append (λ y. y.stamp ≡ x.stamp → ⊥) os (o ∷ []) h.0 ((λ e. omega (arith, k.0)), tt), stamps_append os o h.1 k.1)

pub sound_append : (b : Book) (o : Order) → Sound b → Valid o → EveryOne (λ x. x.number < o.number) b → EveryOne (λ x. x.stamp < o.stamp) b → Sound (b ++ (o ∷ []))
sound_append b o h v n s =
    record { ascending = ascending_append b o h.ascending n; valid = All-append Valid b (o ∷ []) h.valid (v, tt); stamps = stamps_append b o h.stamps s }

pub issue_append : (j : ℕ) (b : Book) (o : Order) → (o.issue ≡ j → ⊥) → of_issue j (b ++ (o ∷ [])) ≡ of_issue j b
issue_append j b o ne = filter-append (λ x. eqb x.issue j) b (o ∷ []) ∙ (rw (ne_eqb o.issue j ne) (append-nil (of_issue j b)))

-- ---- an order changed
-- a change that keeps whose order it is
pub record Keeps (f : Order → Order) : Type 0 where
  pub number : (o : Order) → (f o).number ≡ o.number
  pub account : (o : Order) → (f o).account ≡ o.account
  pub issue : (o : Order) → (f o).issue ≡ o.issue
  pub side : (o : Order) → (f o).side ≡ o.side
  pub valid : (o : Order) → Valid o → Valid (f o)

pub only_one : (n : ℕ) (b : Book) (o : Order) → Ascending b → find n b ≡ Some o → EveryOne (λ x. x.number ≡ n → x.issue ≡ o.issue) b
only_one n b o h e =
    in_all (λ x. x.number ≡ n → x.issue ≡ o.issue) b (λ x i k. ap (λ (y : Order). y.issue) (found_only n b o (distinct_ascending b h) e x i k))

module _ (n : ℕ) (f : Order → Order) (kp : Keeps f) where
  pub all_changed : (P : Order → Type 0) → ((o : Order) → P o → P (f o)) → (b : Book) → EveryOne P b → EveryOne P (changed n f b)
  all_changed P low [] h = tt
  all_changed P low (o ∷ os) h = (cond_both (eqb o.number n) (f o) o P (λ _. low o h.0) (λ _. h.0), all_changed P low os h.1)

  number_changed : (o : Order) → (cond (eqb o.number n) (f o) o).number ≡ o.number
  number_changed o = cond_both (eqb o.number n) (f o) o (λ x. x.number ≡ o.number) (λ _. kp.number o) (λ _. refl)

  ascending_changed : (b : Book) → Ascending b → Ascending (changed n f b)
  ascending_changed [] h = tt
  ascending_changed (o ∷ os) h =
      (rw (number_changed o) (all_changed (λ x. o.number < x.number) (λ x k. rw (kp.number x) k) os h.0), ascending_changed os h.1)

  pub issue_changed : (i j : ℕ) → (i ≡ j → ⊥) → (b : Book) → EveryOne (λ o. o.number ≡ n → o.issue ≡ i) b → of_issue j (changed n f b) ≡ of_issue j b
  issue_changed i j ne [] h = refl
  issue_changed i j ne (o ∷ os) h = let ih = issue_changed i j ne os h.1 in let here = h.0 in let k = kp.issue o in grind (arith, nat_tests)

  others_missing : (x : Order) (os : Book) → EveryOne (λ y. y.number ≡ x.number → ⊥) os → x.number ≡ n → changed n f os ≡ os
  others_missing x os d same = changed_missing n f os (All-weaker (λ y. y.number ≡ x.number → ⊥) (λ y. y.number ≡ n → ⊥) (λ y ne e2. ne (e2 ∙ sym same)) os d)

  -- the one order of that number is changed
  pub one_changed : (P : Order → Type 0) (b : Book) (o : Order) → Distinct number_of b → find n b ≡ Some o → P (f o) → EveryOne P b → EveryOne P (changed n f b)
  one_changed P [] o d e p h = tt
  one_changed P (x ∷ os) o d e p h = go (eqb x.number n) refl e (one_changed P os o d.1)
    where
      go : (t : Bool) → eqb x.number n ≡ t → cond t (Some x) (find n os) ≡ Some o → (find n os ≡ Some o → P (f o) → EveryOne P os → EveryOne P (changed n f os)) → P (cond t (f x) x) × EveryOne P (changed n f os)
      go true t k ih =
          let one : x ≡ o = cc in
          (subst (λ y. P (f y)) (sym one) p, rw (others_missing x os d.0 (eqb-true x.number n t)) h.1)
      go false t k ih = (h.0, ih k p h.1)

  -- its stamp is its own still: as it was, or later than all
  abbrev Own : Order → Book → Type 0
  Own o b = ((f o).stamp ≡ o.stamp) ⊎ EveryOne (λ x. x.stamp < (f o).stamp) b

  stamps_changed : (b : Book) (o : Order) → Distinct number_of b → find n b ≡ Some o → Own o b → Distinct stamp_of b → Distinct stamp_of (changed n f b)
  stamps_changed [] o d e new h = tt
  stamps_changed (x ∷ os) o d e new h = go (eqb x.number n) refl e (stamps_changed os o d.1)
    where
      fresh : find n os ≡ Some o → Own o (x ∷ os) → (f o).stamp ≡ x.stamp → ⊥
      fresh k (inl same) e2 = found_all (λ z. z.stamp ≡ x.stamp → ⊥) n os o h.0 k (sym same ∙ e2)
      fresh k (inr more) e2 = omega (arith, more.0)

      less : Own o (x ∷ os) → Own o os
      less (inl same) = inl same
      less (inr more) = inr more.1

      own : x ≡ o → Own o (x ∷ os) → EveryOne (λ y. y.stamp ≡ (f o).stamp → ⊥) os
      own one (inl same) = All-weaker (λ y. y.stamp ≡ x.stamp → ⊥) (λ y. y.stamp ≡ (f o).stamp → ⊥) (λ y ne e2. ne (e2 ∙ same ∙ ap (λ (z : Order). z.stamp) (sym one))) os h.0
      own one (inr more) = All-weaker (λ y. y.stamp < (f o).stamp) (λ y. y.stamp ≡ (f o).stamp → ⊥) (λ y lt e2. omega arith) os more.1

      go : (t : Bool) → eqb x.number n ≡ t → cond t (Some x) (find n os) ≡ Some o → (find n os ≡ Some o → Own o os → Distinct stamp_of os → Distinct stamp_of (changed n f os)) → Distinct stamp_of (cond t (f x) x ∷ changed n f os)
      go true t k ih =
          let one : x ≡ o = cc in
          rw (others_missing x os d.0 (eqb-true x.number n t)) (subst (λ y. EveryOne (λ z. z.stamp ≡ (f y).stamp → ⊥) os) (sym one) (own one new), h.1)
      go false t k ih = (one_changed (λ y. y.stamp ≡ x.stamp → ⊥) os o d.1 k (fresh k new) h.0, ih k (less new) h.1)

  pub sound_changed : (b : Book) (o : Order) → Sound b → find n b ≡ Some o → Own o b → Sound (changed n f b)
  sound_changed b o h e new =
      record { ascending = ascending_changed b h.ascending; valid = all_changed Valid kp.valid b h.valid; stamps = stamps_changed b o (distinct_ascending b h.ascending) e new h.stamps }

  pub backing_changed : (a i : ℕ) (b : Book) (o : Order) → Distinct number_of b → find n b ≡ Some o → backing a i (changed n f b) + behind (Some o) a i ≡ backing a i b + behind (Some (f o)) a i
  backing_changed a i [] o d e = none_some o e
  backing_changed a i (x ∷ os) o d e = go (eqb x.number n) refl e (backing_changed a i os o d.1)
    where
      go : (t : Bool) → eqb x.number n ≡ t → cond t (Some x) (find n os) ≡ Some o → (find n os ≡ Some o → backing a i (changed n f os) + behind (Some o) a i ≡ backing a i os + behind (Some (f o)) a i) →
          (behind (Some (cond t (f x) x)) a i + backing a i (changed n f os)) + behind (Some o) a i ≡ (behind (Some x) a i + backing a i os) + behind (Some (f o)) a i
      go true t k ih =
          let one : x ≡ o = cc in
          rw (others_missing x os d.0 (eqb-true x.number n t), one) (omega arith)
      go false t k ih = omega (arith, ih k)

  pub names_changed : (b : Book) (o : Order) → Ascending b → find n b ≡ Some o → EveryOne (λ x. x.number ≡ n → x.issue ≡ o.issue) (changed n f b)
  names_changed b o h e =
      all_changed (λ y. y.number ≡ n → y.issue ≡ o.issue) (λ y k num. kp.issue y ∙ k (sym (kp.number y) ∙ num)) b (only_one n b o h e)
