-- One order of a book found, changed or ended.
use Rattle.std.proofs.Common.{◌≡◌, ℕ, suc, ◌<◌, ◌≤◌, true, cond, not, eqb, ◌⊎◌, [], ◌∷◌, length, Some, None, sym, refl, ap, ◌∙◌, subst, inl, inr, arith}
use Rattle.std.proofs.lemmas.Bool.{cond-true, cond-false, cond_both, eq-eqb, ne_eqb, eqb-true, eqb-false, not_from_false}
use Rattle.std.proofs.ByRecursion.{All-weaker}
use Rattle.std.specs.List.{AllByRecursion as EveryOne}
use Rattle.orders.specs.declared.order.Order.{Order}
use Rattle.orders.specs.Search.{In}
use Rattle.orders.specs.Book.{Book, number_of, find, changed, replaced, without, reduced, lowered, if_left}
use Rattle.orders.specs.Laws.{Ascending, Distinct}
use Rattle.orders.specs.Lists.{none_some, some_none, cond_either, all_in, in_all, kept_all, length_kept}

-- ---- no order of the book has the number n
abbrev pub Missing : ℕ → Book → Type 0
Missing n b = EveryOne (λ o. o.number ≡ n → ⊥) b

pub missing_find : (n : ℕ) (b : Book) → Missing n b → find n b ≡ None
missing_find n [] h = refl
missing_find n (o ∷ os) h = cond-false (eqb o.number n) (Some o) (find n os) (ne_eqb _ _ h.0) ∙ missing_find n os h.1

pub find_missing : (n : ℕ) (b : Book) → find n b ≡ None → Missing n b
find_missing n [] e = tt
find_missing n (o ∷ os) e =
    cond_either (eqb o.number n) (Some o) (find n os) (λ r. r ≡ None) e (λ _ f. some_none o f) (λ t f. (eqb-false _ _ t, find_missing n os f))

pub changed_missing : (n : ℕ) (f : Order → Order) (b : Book) → Missing n b → changed n f b ≡ b
changed_missing n f [] h = refl
changed_missing n f (o ∷ os) h =
    ap (λ x. x ∷ changed n f os) (cond-false (eqb o.number n) (f o) o (ne_eqb _ _ h.0)) ∙ ap (λ l. o ∷ l) (changed_missing n f os h.1)

pub without_missing : (n : ℕ) (b : Book) → Missing n b → without n b ≡ b
without_missing n b h =
    kept_all (λ o. not (eqb o.number n)) b (All-weaker (λ o. o.number ≡ n → ⊥) (λ o. not (eqb o.number n) ≡ true) (λ o ne. not_from_false _ (ne_eqb _ _ ne)) b h)

pub reduced_missing : (n q : ℕ) (b : Book) → Missing n b → reduced n q b ≡ b
reduced_missing n q [] h = refl
reduced_missing n q (o ∷ os) h =
    cond-false (eqb o.number n) (if_left (lowered q o) os) (o ∷ reduced n q os) (ne_eqb _ _ h.0) ∙ ap (λ l. o ∷ l) (reduced_missing n q os h.1)

pub changed_none : (n : ℕ) (f : Order → Order) (b : Book) → find n b ≡ None → changed n f b ≡ b
changed_none n f b e = changed_missing n f b (find_missing n b e)

pub without_none : (n : ℕ) (b : Book) → find n b ≡ None → without n b ≡ b
without_none n b e = without_missing n b (find_missing n b e)

pub reduced_none : (n q : ℕ) (b : Book) → find n b ≡ None → reduced n q b ≡ b
reduced_none n q b e = reduced_missing n q b (find_missing n b e)

-- ---- the order of the number n
-- what holds of each order holds of the one found
pub found_all : (P : Order → Type 0) (n : ℕ) (b : Book) (o : Order) → EveryOne P b → find n b ≡ Some o → P o
found_all P n [] o h e = none_some o e
found_all P n (x ∷ os) o h e =
    cond_either (eqb x.number n) (Some x) (find n os) (λ r. r ≡ Some o) e
    (λ _ f. let same : x ≡ o = cc in subst P same h.0) (λ _ f. found_all P n os o h.1 f)

pub found_number : (n : ℕ) (b : Book) (o : Order) → find n b ≡ Some o → o.number ≡ n
found_number n [] o e = none_some o e
found_number n (x ∷ os) o e =
    cond_either (eqb x.number n) (Some x) (find n os) (λ r. r ≡ Some o) e
    (λ t f. let same : x ≡ o = cc in ap number_of (sym same) ∙ eqb-true _ _ t) (λ _ f. found_number n os o f)

pub found_in : (n : ℕ) (b : Book) (o : Order) → find n b ≡ Some o → In o b
found_in n b o e = found_all (λ x. In x b) n b o (in_all (λ x. In x b) b (λ x i. i)) e

pub in_found : (b : Book) → Distinct number_of b → (o : Order) → In o b → find o.number b ≡ Some o
in_found [] d o i = absurd i
in_found (x ∷ os) d o i =
    elim i [
      | inl e ↦ cond-true (eqb x.number o.number) (Some x) (find o.number os) (eq-eqb _ _ (ap number_of e)) ∙ ap Some e
      | inr j ↦
          cond-false (eqb x.number o.number) (Some x) (find o.number os) (ne_eqb _ _ (λ e. all_in (λ y. y.number ≡ x.number → ⊥) os d.0 o j (sym e)))
          ∙ in_found os d.1 o j
    ]

-- the order found is the only one of its number
pub found_only : (n : ℕ) (b : Book) (o : Order) → Distinct number_of b → find n b ≡ Some o → (x : Order) → In x b → x.number ≡ n → x ≡ o
found_only n b o d e x i k = let f = in_found b d x i in let g = ap (λ m. find m b) k in cc

pub distinct_ascending : (b : Book) → Ascending b → Distinct number_of b
distinct_ascending [] a = tt
distinct_ascending (o ∷ os) a = (All-weaker (λ x. o.number < x.number) (λ x. x.number ≡ o.number → ⊥) (λ x l e. omega arith) os a.0, distinct_ascending os a.1)

pub all_found : (b : Book) → Ascending b → EveryOne (λ o. find o.number b ≡ Some o) b
all_found b a = in_all (λ o. find o.number b ≡ Some o) b (in_found b (distinct_ascending b a))

-- ---- changes
pub changed_alike : (n : ℕ) (f g : Order → Order) (b : Book) → ((x : Order) → In x b → x.number ≡ n → f x ≡ g x) → changed n f b ≡ changed n g b
changed_alike n f g [] u = refl
changed_alike n f g (o ∷ os) u =
    ap (λ x. x ∷ changed n f os) (cond_both (eqb o.number n) (f o) o (λ x. x ≡ cond (eqb o.number n) (g o) o)
    (λ t. u o (inl refl) (eqb-true _ _ t) ∙ sym (cond-true (eqb o.number n) (g o) o t)) (λ t. sym (cond-false (eqb o.number n) (g o) o t)))
    ∙ ap (λ l. cond (eqb o.number n) (g o) o ∷ l) (changed_alike n f g os (λ x i. u x (inr i)))

-- the order found, written anew
pub replaced_changed : (f : Order → Order) (n : ℕ) (o : Order) (b : Book) → Distinct number_of b → find n b ≡ Some o → (f o).number ≡ o.number → replaced (f o) b ≡ changed n f b
replaced_changed f n o b d e k =
    ap (λ m. changed m (λ _. f o) b) (k ∙ found_number n b o e) ∙ changed_alike n (λ _. f o) f b (λ x i s. ap f (sym (found_only n b o d e x i s)))

pub length_changed : (n : ℕ) (f : Order → Order) (b : Book) → length (changed n f b) ≡ length b
length_changed n f [] = refl
length_changed n f (o ∷ os) = ap suc (length_changed n f os)

pub length_without : (n : ℕ) (b : Book) → length (without n b) ≤ length b
length_without n b = length_kept (λ o. not (eqb o.number n)) b

-- an order of the changed book is one that stood, or a changed one
pub in_changed : (n : ℕ) (f : Order → Order) (b : Book) (x : Order) → In x (changed n f b) → In x b ⊎ ((o : Order) × In o b × (f o ≡ x))
in_changed n f [] x i = absurd i
in_changed n f (o ∷ os) x i =
    elim i [
      | inl e ↦ cond_either (eqb o.number n) (f o) o (λ y. y ≡ x) e (λ _ k. inr (o, inl refl, k)) (λ _ k. inl (inl k))
      | inr j ↦ elim (in_changed n f os x j) [ inl k ↦ inl (inr k) | inr r ↦ inr (r.0, inr r.1, r.2) ]
    ]

-- an order of the book after a trade is one that stood, or a lowered one
pub in_reduced : (n q : ℕ) (b : Book) (x : Order) → In x (reduced n q b) → In x b ⊎ ((o : Order) × In o b × (lowered q o ≡ x))
in_reduced n q [] x i = absurd i
in_reduced n q (o ∷ os) x i =
    cond_either (eqb o.number n) (if_left (lowered q o) os) (o ∷ reduced n q os) (In x) i
    (λ _ j. cond_either (eqb (lowered q o).left 0) os (lowered q o ∷ os) (In x) j
    (λ _ k. inl (inr k)) (λ _ k. elim k [ inl e ↦ inr (o, inl refl, e) | inr m ↦ inl (inr m) ]))
    (λ _ j. elim j [ inl e ↦ inl (inl e) | inr k ↦ elim (in_reduced n q os x k) [ inl m ↦ inl (inr m) | inr r ↦ inr (r.0, inr r.1, r.2) ] ])
