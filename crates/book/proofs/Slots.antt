-- The book of the places.
use Rattle.std.proofs.Common.{◌≡◌, ℕ, zero, suc, ◌+◌, ◌-◌, ◌<◌, ◌≤◌, Bool, true, false, cond, not, eqb, ltb, ◌≢◌, List, [], ◌∷◌, ◌++◌, length, get_or, set, replicate, is_some, Some, None, filter, Option, sym, refl, ap, ◌∙◌, subst, inl, inr, arith, MatchOption}
use Rattle.std.proofs.lemmas.List.{set-get_or, get_or-set_same, get_or-set_other, length-set}
use Rattle.std.proofs.ByRecursion.{All-weaker}
use Rattle.std.proofs.lemmas.Bool.{cond-true, cond-false, lt-ltb, le-ltb, ltb-false, eq-eqb, ne_eqb, cases_lt, cases_order, cases_eq, false≢true, true≢false, eqb-true, eqb-false, and_parts, and_from, not_from_true, not_from_false}
use Rattle.std.proofs.lemmas.List.Recursion.{is_count_by}
use Rattle.std.proofs.lemmas.List.Quantifiers.{position-Some}
use Rattle.std.proofs.lemmas.List.Sums.{fails_before_first}
use Rattle.std.specs.Option.{option_map}
use Rattle.std.specs.List.{AllByRecursion as EveryOne, position, position_or_len, count_by}
use Rattle.orders.specs.declared.order.Order.{Order}
use Rattle.orders.specs.Orders.{Valid, in_bounds}
use Rattle.orders.specs.Search.{In, First}
use Rattle.orders.specs.Book.{Book, number_of, stamp_of, find, changed, without, lowered, if_left, reduced}
use Rattle.book.specs.Places.{Slots, at, insert, insert_slot, book, Clash, Apart, Alone, Under, OwnStamp, bounded, all_bounded, holds, PlacesFree}
use Rattle.orders.specs.Laws.{Ascending, Distinct, Sound}
use Rattle.orders.specs.Lists.{none_some, some_none, all_in, in_all}
use Rattle.orders.specs.Ranking.{SortedBy, same_sorted}
use Rattle.orders.proofs.Changes.{Missing, changed_missing, without_missing, in_found, found_all}
use Rattle.orders.proofs.Validity.{bounds_valid, valid_bounds}

-- ---- one insertion
insert_here : (o p : Order) (ps : Book) → o.number < p.number → insert o (p ∷ ps) ≡ o ∷ (p ∷ ps)
insert_here o p ps h = cond-true _ _ _ (lt-ltb _ _ h)

insert_later : (o p : Order) (ps : Book) → p.number ≤ o.number → insert o (p ∷ ps) ≡ p ∷ insert o ps
insert_later o p ps h = cond-false _ _ _ (le-ltb _ _ h)

insert_first : (o : Order) (ps : Book) → EveryOne (λ p. o.number < p.number) ps → insert o ps ≡ o ∷ ps
insert_first o [] h = refl
insert_first o (p ∷ ps) h = insert_here o p ps h.0

insert_last : (o : Order) (ps : Book) → EveryOne (λ p. p.number < o.number) ps → insert o ps ≡ ps ++ (o ∷ [])
insert_last o [] h = refl
insert_last o (p ∷ ps) h = insert_later o p ps (omega (arith, h.0)) ∙ ap (λ l. p ∷ l) (insert_last o ps h.1)

-- ---- two insertions may change places
swap_nil : (a b : Order) → a.number < b.number → insert a (b ∷ []) ≡ insert b (a ∷ [])
swap_nil a b h = insert_here a b [] h ∙ sym (insert_later b a [] (omega arith))

swap_both : (a b p : Order) (ps : Book) → a.number < b.number → b.number < p.number → insert a (insert b (p ∷ ps)) ≡ insert b (insert a (p ∷ ps))
swap_both a b p ps ab bp =
    let e1 = insert_here b p ps bp in
    let e2 = insert_here a b (p ∷ ps) ab in
    let e3 = insert_here a p ps (omega arith) in
    let e4 = insert_later b a (p ∷ ps) (omega arith) in
    cc

swap_one : (a b p : Order) (ps : Book) → a.number < p.number → p.number ≤ b.number → insert a (insert b (p ∷ ps)) ≡ insert b (insert a (p ∷ ps))
swap_one a b p ps ap pb =
    let e1 = insert_later b p ps pb in
    let e2 = insert_here a p (insert b ps) ap in
    let e3 = insert_here a p ps ap in
    let e4 = insert_later b a (p ∷ ps) (omega arith) in
    cc

swap_none : (a b p : Order) (ps : Book) → p.number ≤ a.number → p.number ≤ b.number → insert a (insert b ps) ≡ insert b (insert a ps) → insert a (insert b (p ∷ ps)) ≡ insert b (insert a (p ∷ ps))
swap_none a b p ps pa pb ih =
    let e1 = insert_later b p ps pb in
    let e2 = insert_later a p (insert b ps) pa in
    let e3 = insert_later a p ps pa in
    let e4 = insert_later b p (insert a ps) pb in
    cc

insert_insert : (a b : Order) (ps : Book) → (a.number ≡ b.number → ⊥) → insert a (insert b ps) ≡ insert b (insert a ps)
insert_insert a b [] ne =
    elim (cases_order a.number b.number) [
      | inl e ↦ absurd (ne e)
      | inr (inl h) ↦ swap_nil a b h
      | inr (inr h) ↦ sym (swap_nil b a h)
    ]
insert_insert a b (p ∷ ps) ne =
    elim (cases_lt a.number p.number) [
      | inl ap ↦ elim (cases_lt b.number p.number) [
        | inl bp ↦ elim (cases_order a.number b.number) [
          | inl e ↦ absurd (ne e)
          | inr (inl h) ↦ swap_both a b p ps h bp
          | inr (inr h) ↦ sym (swap_both b a p ps h ap)
        ]
        | inr pb ↦ swap_one a b p ps ap pb
      ]
      | inr pa ↦ elim (cases_lt b.number p.number) [
        | inl bp ↦ sym (swap_one b a p ps bp pa)
        | inr pb ↦ swap_none a b p ps pa pb (insert_insert a b ps ne)
      ]
    ]

slots_swap : (s t : Option Order) (ps : Book) → (Clash number_of s t → ⊥) → insert_slot s (insert_slot t ps) ≡ insert_slot t (insert_slot s ps)
slots_swap None t ps ne = refl
slots_swap (Some a) None ps ne = refl
slots_swap (Some a) (Some b) ps ne = insert_insert a b ps ne

-- ---- what holds of each order, and who is in the book
all_insert : (P : Order → Type 0) (o : Order) (ps : Book) → P o → EveryOne P ps → EveryOne P (insert o ps)
all_insert P o [] h k = (h, tt)
all_insert P o (p ∷ ps) h k =
    elim (cases_lt o.number p.number) [
      | inl l ↦ rw (insert_here o p ps l) (h, k)
      | inr l ↦ rw (insert_later o p ps l) (k.0, all_insert P o ps h k.1)
    ]

in_insert : (o : Order) (ps : Book) → In o (insert o ps) × ((z : Order) → In z ps → In z (insert o ps))
in_insert o [] = (inl refl, λ z i. absurd i)
in_insert o (p ∷ ps) =
    elim (cases_lt o.number p.number) [
      | inl l ↦ rw (insert_here o p ps l) (inl refl, λ z i. inr i)
      | inr l ↦ let ih = in_insert o ps in rw (insert_later o p ps l) (inr ih.0, λ z i. elim i [ inl e ↦ inl e | inr j ↦ inr (ih.1 z j) ])
    ]

-- the order at a place is in the book
pub book_in : (ss : Slots) (i : ℕ) (o : Order) → at ss i ≡ Some o → In o (book ss)
book_in [] i o e = none_some o e
book_in (None ∷ ss) zero o e = none_some o e
book_in (Some p ∷ ss) zero o e = let same : p ≡ o = cc in subst (λ z. In z (insert p (book ss))) same (in_insert p (book ss)).0
book_in (None ∷ ss) (suc i) o e = book_in ss i o e
book_in (Some p ∷ ss) (suc i) o e = (in_insert p (book ss)).1 o (book_in ss i o e)

abbrev Standing : Slots → Order → Type 0
Standing ss o = (i : ℕ) × (i < length ss) × (at ss i ≡ Some o)

all_standing : (ss : Slots) → EveryOne (Standing ss) (book ss)
all_standing [] = tt
all_standing (None ∷ ss) = All-weaker (Standing ss) (Standing (None ∷ ss)) (λ o r. (suc r.0, omega (arith, r.1), r.2)) (book ss) (all_standing ss)
all_standing (Some p ∷ ss) =
    all_insert (Standing (Some p ∷ ss)) p (book ss) (0, omega arith, refl)
    (All-weaker (Standing ss) (Standing (Some p ∷ ss)) (λ o r. (suc r.0, omega (arith, r.1), r.2)) (book ss) (all_standing ss))

-- each order of the book has a place
pub in_book : (ss : Slots) (o : Order) → In o (book ss) → (i : ℕ) × (i < length ss) × (at ss i ≡ Some o)
in_book ss o i = all_in (Standing ss) (book ss) (all_standing ss) o i

-- ---- a write at one place
book_set : (ss : Slots) (i : ℕ) (s : Option Order) → i < length ss → Alone number_of ss i s → book (set ss i s) ≡ insert_slot s (book (set ss i None))
book_set [] i s h ne = absurd (omega arith)
book_set (t ∷ ss) zero s h ne = refl
book_set (t ∷ ss) (suc i) s h ne =
    ap (insert_slot t) (book_set ss i s (omega arith) (λ j d k. ne (suc j) (λ e. d (omega arith)) k))
    ∙ sym (slots_swap s t (book (set ss i None)) (λ k. ne 0 (λ e. omega arith) k))

-- no other place has the key of an order with the key of the one that it is written over
pub alone_like : (key : Order → ℕ) (ss : Slots) (i : ℕ) (p q : Order) → at ss i ≡ Some p → key p ≡ key q → Apart key ss → Alone key ss i (Some q)
alone_like key ss i p q e n a j d k = d (sym (a i j (subst (λ s. Clash key s (at ss j)) (sym e) (like (at ss j) k))))
  where
    like : (t : Option Order) → Clash key (Some q) t → Clash key (Some p) t
    like None k = k
    like (Some r) k = n ∙ k

-- nor that of an order whose key is above all others
pub alone_fresh : (key : Order → ℕ) (ss : Slots) (i : ℕ) (o : Order) → Under key (key o) (book ss) → Alone key ss i (Some o)
alone_fresh key ss i o u j d = off (at ss j) refl
  where
    off : (t : Option Order) → at ss j ≡ t → Clash key (Some o) t → ⊥
    off None e c = c
    off (Some p) e c = omega (arith, u p (book_in ss j p e))

-- nor that of an order whose stamp the orders of other numbers have not
pub alone_stamp : (ss : Slots) (i : ℕ) (p o : Order) → at ss i ≡ Some p → p.number ≡ o.number → Apart number_of ss → OwnStamp o (book ss) → Alone stamp_of ss i (Some o)
alone_stamp ss i p o e n a own j d = off (at ss j) refl
  where
    off : (t : Option Order) → at ss j ≡ t → Clash stamp_of (Some o) t → ⊥
    off None f c = c
    off (Some x) f c = d (a j i (rw (f, e) (own x (book_in ss j x f) (sym c) ∙ sym n)))

-- the order at i, and the book without it
book_take : (ss : Slots) (i : ℕ) (p : Order) → i < length ss → at ss i ≡ Some p → Apart number_of ss → book ss ≡ insert p (book (set ss i None))
book_take ss i p h e a =
    let same : set ss i (Some p) ≡ ss = rw e at (set-get_or ss i None) in
    sym (ap book same) ∙ book_set ss i (Some p) h (alone_like number_of ss i p p e refl a)

-- its number stands at no other place
missing_rest : (ss : Slots) (i : ℕ) (p : Order) → i < length ss → at ss i ≡ Some p → Apart number_of ss → Missing p.number (book (set ss i None))
missing_rest ss i p h e a = in_all (λ o. o.number ≡ p.number → ⊥) (book (set ss i None)) (λ o k same.
    let r = in_book (set ss i None) o k in
    let j = r.0 in
    elim (cases_eq j i) [
      | inl q ↦ none_some o (sym (get_or-set_same ss i None None h) ∙ subst (λ k. at (set ss i None) k ≡ Some o) q r.2)
      | inr d ↦
          let x : at ss j ≡ Some o = sym (get_or-set_other ss i j None None d) ∙ r.2 in
          d (a j i (rw (x, e) same))
    ])

-- ---- a free place filled with an order whose number is above all others: it stands last
pub book_filled : (ss : Slots) (i : ℕ) (o : Order) → i < length ss → at ss i ≡ None → Under number_of o.number (book ss) → book (set ss i (Some o)) ≡ book ss ++ (o ∷ [])
book_filled ss i o h e u =
    let same : set ss i None ≡ ss = rw e at (set-get_or ss i None) in
    book_set ss i (Some o) h (alone_fresh number_of ss i o u) ∙ ap (insert o) (ap book same) ∙ insert_last o (book ss) (in_all (λ p. p.number < o.number) (book ss) u)

-- ---- the order at a place written anew under its number: it is changed
changed_insert : (f : Order → Order) (p : Order) (ps : Book) → (f p).number ≡ p.number → Missing p.number ps → changed p.number f (insert p ps) ≡ insert (f p) ps
changed_insert f p [] e u = ap (λ x. x ∷ []) (cond-true (eqb p.number p.number) (f p) p (eq-eqb _ _ refl))
changed_insert f p (r ∷ ps) e u =
    elim (cases_lt p.number r.number) [
      | inl h ↦
          ap (changed p.number f) (insert_here p r ps h)
          ∙ ap (λ x. x ∷ changed p.number f (r ∷ ps)) (cond-true (eqb p.number p.number) (f p) p (eq-eqb _ _ refl))
          ∙ ap (λ l. f p ∷ l) (changed_missing p.number f (r ∷ ps) u) ∙ sym (insert_here (f p) r ps (omega arith))
      | inr h ↦
          ap (changed p.number f) (insert_later p r ps h)
          ∙ ap (λ x. x ∷ changed p.number f (insert p ps)) (cond-false (eqb r.number p.number) (f r) r (ne_eqb _ _ u.0))
          ∙ ap (λ l. r ∷ l) (changed_insert f p ps e u.1) ∙ sym (insert_later (f p) r ps (omega arith))
    ]

pub book_changed : (f : Order → Order) (ss : Slots) (i : ℕ) (p : Order) → i < length ss → at ss i ≡ Some p → (f p).number ≡ p.number → Apart number_of ss → book (set ss i (Some (f p))) ≡ changed p.number f (book ss)
book_changed f ss i p h e n a =
    book_set ss i (Some (f p)) h (alone_like number_of ss i p (f p) e (sym n) a)
    ∙ sym (ap (changed p.number f) (book_take ss i p h e a) ∙ changed_insert f p (book (set ss i None)) n (missing_rest ss i p h e a))

-- ---- a place freed: its order stands no more
without_insert : (p : Order) (ps : Book) → Missing p.number ps → without p.number (insert p ps) ≡ ps
without_insert p ps u = go ps u
  where
    keep : Order → Bool
    keep o = not (eqb o.number p.number)

    gone : (qs : Book) → without p.number (p ∷ qs) ≡ without p.number qs
    gone qs = cond-false (keep p) (p ∷ filter keep qs) (filter keep qs) (not_from_true _ (eq-eqb _ _ refl))

    go : (ps : Book) → Missing p.number ps → without p.number (insert p ps) ≡ ps
    go [] u = gone []
    go (r ∷ ps) u =
        elim (cases_lt p.number r.number) [
          | inl h ↦ ap (without p.number) (insert_here p r ps h) ∙ gone (r ∷ ps) ∙ without_missing p.number (r ∷ ps) u
          | inr h ↦
              ap (without p.number) (insert_later p r ps h)
              ∙ cond-true (keep r) (r ∷ filter keep (insert p ps)) (filter keep (insert p ps)) (not_from_false _ (ne_eqb _ _ u.0))
              ∙ ap (λ l. r ∷ l) (go ps u.1)
        ]

pub book_freed : (ss : Slots) (i : ℕ) (p : Order) → i < length ss → at ss i ≡ Some p → Apart number_of ss → book (set ss i None) ≡ without p.number (book ss)
book_freed ss i p h e a =
    sym (ap (without p.number) (book_take ss i p h e a) ∙ without_insert p (book (set ss i None)) (missing_rest ss i p h e a))

-- ---- the order at a place trades q: it ends, or stands with less left
reduced_insert : (q : ℕ) (p : Order) (ps : Book) → Missing p.number ps → reduced p.number q (insert p ps) ≡ cond (eqb (p.left - q) 0) ps (insert (lowered q p) ps)
reduced_insert q p ps u = go (eqb (p.left - q) 0) refl ps u
  where
    own : (qs : Book) → reduced p.number q (p ∷ qs) ≡ if_left (lowered q p) qs
    own qs = cond-true (eqb p.number p.number) (if_left (lowered q p) qs) (p ∷ reduced p.number q qs) (eq-eqb _ _ refl)

    past : (r : Order) (qs : Book) → (r.number ≡ p.number → ⊥) → reduced p.number q (r ∷ qs) ≡ r ∷ reduced p.number q qs
    past r qs ne = cond-false (eqb r.number p.number) (if_left (lowered q r) qs) (r ∷ reduced p.number q qs) (ne_eqb _ _ ne)

    front : (b : Bool) → eqb (p.left - q) 0 ≡ b → (qs : Book) → reduced p.number q (p ∷ qs) ≡ cond b qs (lowered q p ∷ qs)
    front b z qs = own qs ∙ ap (λ c. cond c qs (lowered q p ∷ qs)) z

    go : (b : Bool) → eqb (p.left - q) 0 ≡ b → (qs : Book) → Missing p.number qs → reduced p.number q (insert p qs) ≡ cond b qs (insert (lowered q p) qs)
    go b z [] u = front b z []
    go true z (r ∷ qs) u =
        elim (cases_lt p.number r.number) [
          | inl h ↦ ap (reduced p.number q) (insert_here p r qs h) ∙ front true z (r ∷ qs)
          | inr h ↦ ap (reduced p.number q) (insert_later p r qs h) ∙ past r (insert p qs) u.0 ∙ ap (λ l. r ∷ l) (go true z qs u.1)
        ]
    go false z (r ∷ qs) u =
        elim (cases_lt p.number r.number) [
          | inl h ↦ ap (reduced p.number q) (insert_here p r qs h) ∙ front false z (r ∷ qs) ∙ sym (insert_here (lowered q p) r qs h)
          | inr h ↦ ap (reduced p.number q) (insert_later p r qs h) ∙ past r (insert p qs) u.0 ∙ ap (λ l. r ∷ l) (go false z qs u.1) ∙ sym (insert_later (lowered q p) r qs h)
        ]

book_reduced : (ss : Slots) (i q : ℕ) (p : Order) → i < length ss → at ss i ≡ Some p → Apart number_of ss → reduced p.number q (book ss) ≡ cond (eqb (p.left - q) 0) (book (set ss i None)) (insert (lowered q p) (book (set ss i None)))
book_reduced ss i q p h e a = ap (reduced p.number q) (book_take ss i p h e a) ∙ reduced_insert q p (book (set ss i None)) (missing_rest ss i p h e a)

pub book_ended : (ss : Slots) (i q : ℕ) (p : Order) → i < length ss → at ss i ≡ Some p → Apart number_of ss → p.left ≤ q → book (set ss i None) ≡ reduced p.number q (book ss)
book_ended ss i q p h e a le = sym (book_reduced ss i q p h e a ∙ cond-true (eqb (p.left - q) 0) _ _ (eq-eqb _ _ (omega arith)))

pub book_lowered : (ss : Slots) (i q : ℕ) (p : Order) → i < length ss → at ss i ≡ Some p → Apart number_of ss → q < p.left → book (set ss i (Some (lowered q p))) ≡ reduced p.number q (book ss)
book_lowered ss i q p h e a lt =
    book_set ss i (Some (lowered q p)) h (alone_like number_of ss i p (lowered q p) e refl a)
    ∙ sym (book_reduced ss i q p h e a ∙ cond-false (eqb (p.left - q) 0) _ _ (ne_eqb _ _ (λ z. omega arith)))

-- ---- what the places keep to, after a write
clash_sym : (key : Order → ℕ) (s t : Option Order) → Clash key s t → Clash key t s
clash_sym key None t c = absurd c
clash_sym key (Some o) None c = absurd c
clash_sym key (Some o) (Some p) c = sym c

clash_at : (key : Order → ℕ) {s t u v : Option Order} → s ≡ t → u ≡ v → Clash key s u → Clash key t v
clash_at key p q c = rw (← p, ← q) c

pub apart_set : (key : Order → ℕ) (ss : Slots) (i : ℕ) (s : Option Order) → i < length ss → Apart key ss → Alone key ss i s → Apart key (set ss i s)
apart_set key ss i s h a off j k c =
    elim (cases_eq j i) [
      | inl e ↦ elim (cases_eq k i) [
        | inl f ↦ e ∙ sym f
        | inr f ↦ absurd (off k f (clash_at key (here j e) (there k f) c))
      ]
      | inr e ↦ elim (cases_eq k i) [
        | inl f ↦ absurd (off j e (clash_sym key (at ss j) s (clash_at key (there j e) (here k f) c)))
        | inr f ↦ a j k (clash_at key (there j e) (there k f) c)
      ]
    ]
  where
    here : (j : ℕ) → j ≡ i → at (set ss i s) j ≡ s
    here j e = ap (at (set ss i s)) e ∙ get_or-set_same ss i s None h

    there : (j : ℕ) → j ≢ i → at (set ss i s) j ≡ at ss j
    there j f = get_or-set_other ss i j s None f

pub bounded_set : (ss : Slots) (i : ℕ) (s : Option Order) → all_bounded ss ≡ true → bounded s ≡ true → all_bounded (set ss i s) ≡ true
bounded_set [] i s h k = h
bounded_set (t ∷ ss) zero s h k = and_from _ _ k (and_parts (bounded t) (all_bounded ss) h).1
bounded_set (t ∷ ss) (suc i) s h k = let p = and_parts (bounded t) (all_bounded ss) h in and_from _ _ p.0 (bounded_set ss i s p.1 k)

pub bounded_at : (ss : Slots) (i : ℕ) (o : Order) → all_bounded ss ≡ true → at ss i ≡ Some o → in_bounds o ≡ true
bounded_at [] i o h e = none_some o e
bounded_at (t ∷ ss) zero o h e = sym (ap bounded e) ∙ (and_parts (bounded t) (all_bounded ss) h).0
bounded_at (t ∷ ss) (suc i) o h e = bounded_at ss i o (and_parts (bounded t) (all_bounded ss) h).1 e

pub less_left : (s : Option Order) (o : Order) (q : ℕ) → s ≡ Some o → MatchOption s ⊥ (λ x. q < x.left) → q < o.left
less_left None o q e h = absurd h
less_left (Some p) o q e h = let same : p ≡ o = cc in subst (λ x. q < x.left) same h

-- ---- no orders
all_free : (n i : ℕ) → at (replicate n None) i ≡ None
all_free zero i = refl
all_free (suc n) zero = refl
all_free (suc n) (suc i) = all_free n i

pub empty_apart : (key : Order → ℕ) (n : ℕ) → Apart key (replicate n None)
empty_apart key n i j h = absurd (rw (all_free n i) at h)

-- ---- the search by number
pub holds_some : (n : ℕ) (s : Option Order) → holds n s ≡ true → (o : Order) × (s ≡ Some o) × (o.number ≡ n)
holds_some n None h = absurd (false≢true h)
holds_some n (Some o) h = (o, refl, eqb-true _ _ h)

-- where no slot passes a test, each fails it
none_passes : {X : Type 0} (p : X → Bool) (xs : List X) (d : X) → position p xs ≡ None → (k : ℕ) → k < length xs → p (get_or xs k d) ≡ false
none_passes p xs d e k h =
    elim (cases_lt (position_or_len p xs) (length xs)) [
      | inl l ↦ some_none _ (sym (cond-true _ (Some (position_or_len p xs)) None (lt-ltb _ _ l)) ∙ e)
      | inr l ↦ fails_before_first p xs k d (omega arith)
    ]

pub missing_book : (ss : Slots) (n : ℕ) → position (holds n) ss ≡ None → Missing n (book ss)
missing_book ss n e = in_all (λ o. o.number ≡ n → ⊥) (book ss) (λ o i q. let r = in_book ss o i in eqb-false _ _ (rw r.2 at (none_passes (holds n) ss None e r.0 r.1)) q)

-- the order at the place that the search by number gives
pub held_at : (ss : Slots) (n i : ℕ) → position (holds n) ss ≡ Some i → (o : Order) × (i < length ss) × (at ss i ≡ Some o) × (o.number ≡ n)
held_at ss n i e = let f = position-Some (holds n) ss i None e in let r = holds_some n (at ss i) f.1 in (r.0, f.0, r.1, r.2)

pub free_at : (ss : Slots) (i : ℕ) → position (λ s. not (is_some s)) ss ≡ Some i → (i < length ss) × (at ss i ≡ None)
free_at ss i e = let f = position-Some (λ s. not (is_some s)) ss i None e in (f.0, empty (at ss i) (f.1))
  where
    empty : (s : Option Order) → not (is_some s) ≡ true → s ≡ None
    empty None h = refl
    empty (Some o) h = absurd (false≢true h)

-- ---- how many there are
length_insert : (o : Order) (ps : Book) → length (insert o ps) ≡ suc (length ps)
length_insert o [] = refl
length_insert o (p ∷ ps) =
    elim (cases_lt o.number p.number) [
      | inl h ↦ ap length (insert_here o p ps h)
      | inr h ↦ ap length (insert_later o p ps h) ∙ ap suc (length_insert o ps)
    ]

pub length_slot : (s : Option Order) (ps : Book) → length (insert_slot s ps) ≤ suc (length ps)
length_slot None ps = omega arith
length_slot (Some o) ps = omega (arith, length_insert o ps)

pub book_short : (ss : Slots) → length (book ss) ≤ length ss
book_short [] = omega arith
book_short (s ∷ ss) = omega (arith, length_slot s (book ss), book_short ss)

pub book_length : (ss : Slots) → length (book ss) ≡ count_by is_some ss
book_length = is_count_by (λ ss. length (book ss)) is_some refl step
  where
    step : (s : Option Order) (ss : Slots) → length (book (s ∷ ss)) ≡ cond (is_some s) (1 + length (book ss)) (length (book ss))
    step None ss = refl
    step (Some o) ss = omega (arith, length_insert o (book ss))

pub book_full : (ss : Slots) → position (λ s. not (is_some s)) ss ≡ None → length (book ss) ≡ length ss
book_full ss e = go ss (none_passes (λ s. not (is_some s)) ss None e)
  where
    go : (ss : Slots) → ((k : ℕ) → k < length ss → not (is_some (at ss k)) ≡ false) → length (book ss) ≡ length ss
    go [] u = refl
    go (None ∷ ss) u = absurd (true≢false (u 0 (omega arith)))
    go (Some o ∷ ss) u = length_insert o (book ss) ∙ ap suc (go ss (λ k h. u (suc k) (omega arith)))

-- ---- the order of the lowest number
none_in : {X : Type 0} (xs : List X) → ((x : X) → In x xs → ⊥) → xs ≡ []
none_in [] u = refl
none_in (x ∷ xs) u = absurd (u x (inl refl))

pub lowest_none : (ss : Slots) (n : ℕ) → length ss ≡ n → First ltb (λ k. option_map number_of (at ss k)) n None → book ss ≡ []
lowest_none ss n l f = none_in (book ss) (λ o i. let r = in_book ss o i in some_none o.number (sym (ap (option_map number_of) r.2) ∙ f r.0 (omega (arith, r.1))))

pub lowest_some : (ss : Slots) (n i m : ℕ) (o : Order) → length ss ≡ n → Apart number_of ss → First ltb (λ k. option_map number_of (at ss k)) n (Some (i, m)) → at ss i ≡ Some o → book ss ≡ o ∷ book (set ss i None)
lowest_some ss n i m o l a f e =
    let h : i < length ss = omega (arith, f.0) in
    let rest = book (set ss i None) in
    let is : Some o.number ≡ Some m = sym (ap (option_map number_of) e) ∙ f.1 in
    let lowest : o.number ≡ m = cc in
    let other = missing_rest ss i o h e a in
    book_take ss i o h e a
    ∙ insert_first o rest (in_all (λ p. o.number < p.number) rest (λ p j.
    let r = in_book (set ss i None) p j in
    let ne = all_in (λ z. z.number ≡ o.number → ⊥) rest other p j in
    elim (cases_eq r.0 i) [
      | inl q ↦ none_some p (sym (get_or-set_same ss i None None h) ∙ subst (λ k. at (set ss i None) k ≡ Some p) q r.2)
      | inr d ↦
          let x : at ss r.0 ≡ Some p = sym (get_or-set_other ss i r.0 None None d) ∙ r.2 in
          let no_less = ltb-false p.number m (f.2 r.0 p.number (omega (arith, r.1, length-set ss i None)) (ap (option_map number_of) x)) in
          elim (cases_eq p.number o.number) [ inl q ↦ absurd (ne q) | inr _ ↦ omega arith ]
    ]))

-- ---- the book of the places is sound
ascending_insert : (o : Order) (ps : Book) → Missing o.number ps → Ascending ps → Ascending (insert o ps)
ascending_insert o [] u a = (tt, tt)
ascending_insert o (p ∷ ps) u a =
    elim (cases_order o.number p.number) [
      | inl e ↦ absurd (u.0 (sym e))
      | inr (inl l) ↦ rw (insert_here o p ps l) ((l, All-weaker (λ x. p.number < x.number) (λ x. o.number < x.number) (λ x k. omega arith) ps a.0), a)
      | inr (inr l) ↦ rw (insert_later o p ps (omega arith)) (all_insert (λ x. p.number < x.number) o ps l a.0, ascending_insert o ps u.1 a.1)
    ]

distinct_insert : (key : Order → ℕ) (o : Order) (ps : Book) → EveryOne (λ x. key x ≡ key o → ⊥) ps → Distinct key ps → Distinct key (insert o ps)
distinct_insert key o [] u d = (tt, tt)
distinct_insert key o (p ∷ ps) u d =
    elim (cases_lt o.number p.number) [
      | inl l ↦ rw (insert_here o p ps l) (u, d)
      | inr l ↦ rw (insert_later o p ps l) (all_insert (λ x. key x ≡ key p → ⊥) o ps (λ e. u.0 (sym e)) d.0, distinct_insert key o ps u.1 d.1)
    ]

apart_tail : (key : Order → ℕ) (s : Option Order) (ss : Slots) → Apart key (s ∷ ss) → Apart key ss
apart_tail key s ss a i j c = omega (arith, a (suc i) (suc j) c)

-- the key of the first slot stands in no other
key_apart : (key : Order → ℕ) (o : Order) (ss : Slots) → Apart key (Some o ∷ ss) → EveryOne (λ x. key x ≡ key o → ⊥) (book ss)
key_apart key o ss a = in_all (λ x. key x ≡ key o → ⊥) (book ss) (λ x i e. let r = in_book ss x i in omega (arith, a 0 (suc r.0) (rw r.2 (sym e))))

pub book_ascends : (ss : Slots) → Apart number_of ss → Ascending (book ss)
book_ascends [] a = tt
book_ascends (None ∷ ss) a = book_ascends ss (apart_tail number_of None ss a)
book_ascends (Some o ∷ ss) a = ascending_insert o (book ss) (key_apart number_of o ss a) (book_ascends ss (apart_tail number_of (Some o) ss a))

pub book_distinct : (key : Order → ℕ) (ss : Slots) → Apart key ss → Distinct key (book ss)
book_distinct key [] a = tt
book_distinct key (None ∷ ss) a = book_distinct key ss (apart_tail key None ss a)
book_distinct key (Some o ∷ ss) a = distinct_insert key o (book ss) (key_apart key o ss a) (book_distinct key ss (apart_tail key (Some o) ss a))

pub book_valid : (ss : Slots) → all_bounded ss ≡ true → EveryOne Valid (book ss)
book_valid ss h = in_all Valid (book ss) (λ o i. let r = in_book ss o i in bounds_valid o (bounded_at ss r.0 o h r.2))

pub book_sound : (ss : Slots) → Apart number_of ss → Apart stamp_of ss → all_bounded ss ≡ true → Sound (book ss)
book_sound ss a s h = record { ascending = book_ascends ss a; valid = book_valid ss h; stamps = book_distinct stamp_of ss s }

-- the order at a place is the one found under its number
pub find_at : (ss : Slots) (i : ℕ) (o : Order) → at ss i ≡ Some o → Apart number_of ss → find o.number (book ss) ≡ Some o
find_at ss i o e a = in_found (book ss) (book_distinct number_of ss a) o (book_in ss i o e)

pub found_bounds : (ss : Slots) (n : ℕ) (o : Order) → all_bounded ss ≡ true → find n (book ss) ≡ Some o → in_bounds o ≡ true
found_bounds ss n o h e = valid_bounds o (found_all Valid n (book ss) o (book_valid ss h) e)

-- ---- places that hold the same orders stand for one book
ascending_sorted : (b : Book) → Ascending b → SortedBy (λ x y. x.number < y.number) b
ascending_sorted [] a = tt
ascending_sorted (o ∷ os) a = (a.0, ascending_sorted os a.1)

pub same_book : (b c : Book) → Ascending b → Ascending c → ((o : Order) → In o b → In o c) → ((o : Order) → In o c → In o b) → b ≡ c
same_book b c ab ac to from = same_sorted (λ x y. x.number < y.number) (λ x y h k. omega arith) b c (ascending_sorted b ab) (ascending_sorted c ac) to from

pub places_free : PlacesFree
places_free ss ts a b to from =
    same_book (book ss) (book ts) (book_ascends ss a) (book_ascends ts b)
    (λ o i. let r = in_book ss o i in let k = to r.0 o r.2 in book_in ts k.0 o k.1)
    (λ o i. let r = in_book ts o i in let k = from r.0 o r.2 in book_in ss k.0 o k.1)
