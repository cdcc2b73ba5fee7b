-- The rank of candidates, and the search over the places for the first of them.
use Rattle.std.specs.Prelude.{◌≡◌, ℕ, Bool, true, false, List, [], ◌∷◌, map, Some, None, filter, Option, nat_lt, refl}
use Rattle.std.proofs.Common.{ap, subst, ◌∙◌, inl, inr, arith}
use Prim.Native.Nat.{compare}
use Rattle.std.proofs.lemmas.Bool.{cond-true}
use Rattle.std.proofs.lemmas.Bool.Decides.{nat_tests}
use Rattle.std.specs.Option.{option_map}
use Rattle.std.specs.Cmp.{IsStrictWeakOrder}
use Rattle.orders.specs.declared.order.Order.{Order}
use Rattle.book.specs.declared.table.Table.{Table}
use Rattle.orders.specs.Rank.{first_by, lex}
use Rattle.orders.specs.Search.{In, First}
use Rattle.orders.specs.Book.{Book}
use Rattle.book.specs.Table.{book_of, at_place}
use Rattle.orders.specs.Lists.{none_some, in_kept, kept_in}
use Rattle.orders.specs.Firsts.{searched}
use Rattle.book.proofs.Tables.{place_in, in_place}
use Rattle.opening.specs.declared.candidate.Candidate.{Candidate}
use Rattle.opening.specs.Opening.{figures, wins, plain_of, candidates, limit_of}

-- ---- a comparison of numbers, and then another test
lex_chain : (a b c : ℕ) (s t u : Bool) → lex (compare a b) s ≡ false → lex (compare b c) t ≡ false → (s ≡ false → t ≡ false → u ≡ false) → lex (compare a c) u ≡ false
lex_chain a b c s t u h k m = grind (arith, nat_tests)

last_chain : (a b c : ℕ) → nat_lt b a ≡ false → nat_lt c b ≡ false → nat_lt c a ≡ false
last_chain a b c h k = grind (arith, nat_tests)

pub wins_ranks : IsStrictWeakOrder wins
wins_ranks = record {
  one_way = λ x y h. grind (arith, nat_tests);
  chain = λ x y z h k.
      lex_chain z.matched y.matched x.matched _ _ _ k h (λ k h.
      lex_chain x.surplus y.surplus z.surplus _ _ _ h k (λ h k.
      lex_chain x.away y.away z.away _ _ _ h k (λ h k. last_chain x.price y.price z.price h k)));
}

-- candidates that tie are one
pub wins_tie : (x y : Candidate) → wins x y ≡ false → wins y x ≡ false → x ≡ y
wins_tie x y h k =
    let p : x.price ≡ y.price = grind (arith, nat_tests) in
    let m : x.matched ≡ y.matched = grind (arith, nat_tests) in
    let s : x.surplus ≡ y.surplus = grind (arith, nat_tests) in
    let a : x.away ≡ y.away = grind (arith, nat_tests) in
    let same : ◌≡◌ {A = Candidate} (record { price = x.price; matched = x.matched; surplus = x.surplus; away = x.away }) (record { price = y.price; matched = y.matched; surplus = y.surplus; away = y.away }) = cc in
    same

-- ---- the candidates are the limits of the plain orders
in_map : {X Y : Type 0} (f : X → Y) (xs : List X) (x : X) → In x xs → In (f x) (map f xs)
in_map f [] x i = i
in_map f (y ∷ ys) x i = grind (arith, in_map f ys x)

map_in : {X Y : Type 0} (f : X → Y) (xs : List X) (y : Y) → In y (map f xs) → (x : X) × (In x xs) × (f x ≡ y)
map_in f [] y i = absurd i
map_in f (z ∷ zs) y i = elim i [ inl e ↦ (z, inl refl, e) | inr j ↦ let r = map_in f zs y j in (r.0, inr r.1, r.2) ]

pub order_candidate : (i close : ℕ) (b : Book) (o : Order) → In o b → plain_of i o ≡ true → In (figures i b close o.price) (candidates i close b)
order_candidate i close b o h t = in_map (λ o. figures i b close o.price) (filter (plain_of i) b) o (kept_in (plain_of i) b o h t)

pub candidate_order : (i close : ℕ) (b : Book) (c : Candidate) → In c (candidates i close b) → (o : Order) × (In o b) × (plain_of i o ≡ true) × (figures i b close o.price ≡ c)
candidate_order i close b c m =
    let r = map_in (λ o. figures i b close o.price) (filter (plain_of i) b) c m in
    let k = in_kept (plain_of i) b r.0 r.1 in
    (r.0, k.0, k.1, r.2)

-- ---- and a search over the places finds the first
limit_some : (i close : ℕ) (b : Book) (r : Option Order) (c : Candidate) → limit_of i close b r ≡ Some c → (o : Order) × (r ≡ Some o) × (plain_of i o ≡ true) × (figures i b close o.price ≡ c)
limit_some i close b None c e = none_some c e
limit_some i close b (Some o) c e = (o, refl, grind arith, grind arith)

pub best_candidate : (i close : ℕ) (t : Table) (best : Option (ℕ × Candidate)) → First wins (λ k. limit_of i close (book_of t) (at_place t k)) 256 best →
    option_map (λ b. b.1) best ≡ first_by wins (candidates i close (book_of t))
best_candidate i close t best f =
    let b = book_of t in
    searched wins_ranks (λ k. limit_of i close b (at_place t k)) 256 (candidates i close b) best
    (λ k c l e.
    let r = limit_some i close b (at_place t k) c e in
    subst (λ x. In x (candidates i close b)) r.3 (order_candidate i close b r.0 (place_in t k r.0 r.1) r.2))
    (λ c m.
    let r = candidate_order i close b c m in
    let s = in_place t r.0 r.1 in
    (s.0, s.1, ap (limit_of i close b) s.2 ∙ cond-true (plain_of i r.0) (Some (figures i b close r.0.price)) None r.2 ∙ ap Some r.3))
    (λ x y _ _ h k. wins_tie x y h k)
    f
