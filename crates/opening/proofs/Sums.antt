-- Sums over the book and over the places of the table.
use Rattle.std.proofs.Common.{◌≡◌, ℕ, ◌+◌, ◌≤◌, Bool, cond, List, [], ◌∷◌, map, Some, None, sum, sum_by, filter, Option, sym, refl, ap, ◌∙◌, arith}
use Rattle.std.specs.List.{range_with_len}
use Rattle.std.proofs.lemmas.List.{length-map, get_or-map}
use Rattle.std.proofs.lemmas.List.FromFn.{fill_by_all}
use Rattle.std.proofs.lemmas.Bool.{cond-true, cond-false}
use Rattle.std.proofs.lemmas.List.Sums.{sum_by-cons, sum-map}
use Rattle.orders.specs.declared.order.Order.{Order}
use Rattle.orders.specs.declared.order.Side.{Side}
use Rattle.book.specs.declared.table.Table.{Table}
use Rattle.orders.specs.Orders.{Valid}
use Rattle.orders.specs.Rank.{put, in_rank, ahead}
use Rattle.orders.specs.Book.{Book}
use Rattle.book.specs.Places.{Slots, insert, book}
use Rattle.book.specs.Table.{book_of, at_place}
use Rattle.orders.specs.Lists.{all_in}
use Rattle.book.proofs.Tables.{sound_table, place_in}
use Rattle.opening.specs.Opening.{takes_part, quantity_at, share}
use Rattle.opening.specs.Laws.{QuantitiesSaid}
use Rattle.opening.proofs.Parts.{says_part, no_part}

sum_put : {X : Type 0} (f : X → ℕ) (before : X → X → Bool) (x : X) (ys : List X) → sum_by f (put before x ys) ≡ f x + sum_by f ys
sum_put f before x [] = sum_by-cons f x []
sum_put f before x (y ∷ ys) =
    let a = sum_by-cons f y (put before x ys) in
    let b = sum_by-cons f y ys in
    let c = sum_put f before x ys in
    let d = sum_by-cons f x (y ∷ ys) in
    grind arith

sum_in_rank : {X : Type 0} (f : X → ℕ) (before : X → X → Bool) (xs : List X) → sum_by f (in_rank before xs) ≡ sum_by f xs
sum_in_rank f before [] = refl
sum_in_rank f before (x ∷ xs) = grind (arith, sum_by-cons, sum_put, sum_in_rank f before xs)

sum_kept : {X : Type 0} (f : X → ℕ) (p : X → Bool) (xs : List X) → sum_by f (filter p xs) ≡ sum_by (λ x. cond (p x) (f x) 0) xs
sum_kept f p [] = refl
sum_kept f p (x ∷ xs) =
    let a = sum_by-cons f x (filter p xs) in
    let b = sum_by-cons (λ x. cond (p x) (f x) 0) x xs in
    let c = sum_kept f p xs in
    grind arith

-- what an order has left, if it takes part
abbrev part : ℕ → ℕ → Side → Order → ℕ
part i p s o = cond (takes_part i p s o) o.left 0

quantity_sum : (i p : ℕ) (s : Side) (b : Book) → quantity_at i p s b ≡ sum_by (part i p s) b
quantity_sum i p s b = sum_in_rank (λ o. o.left) ahead (filter (takes_part i p s) b) ∙ sum_kept (λ o. o.left) (takes_part i p s) b

-- ---- B and S in words
pub quantities_said : QuantitiesSaid
quantities_said i p s = record {
  none = refl;
  more = λ o b h.
      let a = quantity_sum i p s (o ∷ b) in
      let c = sum_by-cons (part i p s) o b in
      let d = quantity_sum i p s b in
      let e = cond-true (takes_part i p s o) o.left 0 (says_part i p s o h) in
      omega arith;
  same = λ o b n.
      let a = quantity_sum i p s (o ∷ b) in
      let c = sum_by-cons (part i p s) o b in
      let d = quantity_sum i p s b in
      let e = cond-false (takes_part i p s o) o.left 0 (no_part i p s o n) in
      omega arith;
}

-- ---- the places give B and S
sum_insert : (f : Order → ℕ) (o : Order) (ps : List Order) → sum_by f (insert o ps) ≡ f o + sum_by f ps
sum_insert f o [] = sum_by-cons f o []
sum_insert f o (p ∷ ps) =
    let a = sum_by-cons f p (insert o ps) in
    let b = sum_by-cons f p ps in
    let c = sum_insert f o ps in
    let d = sum_by-cons f o (p ∷ ps) in
    grind arith

sum_book : (i p : ℕ) (s : Side) (ss : Slots) → sum_by (part i p s) (book ss) ≡ sum_by (share i p s) ss
sum_book i p s [] = refl
sum_book i p s (None ∷ ss) = grind (arith, sum_by-cons, sum_book i p s ss)
sum_book i p s (Some o ∷ ss) =
    let a = sum_by-cons (share i p s) (Some o) ss in
    let b = sum_insert (part i p s) o (book ss) in
    let c = sum_book i p s ss in
    omega arith

pub quantity_places : (i p : ℕ) (s : Side) (t : Table) → quantity_at i p s (book_of t) ≡ sum_by (λ k. share i p s (at_place t k)) (range_with_len 0 256)
quantity_places i p s t =
    let slots = t.places.slots in
    let f = share i p s in
    let shares : map f slots ≡ map (λ k. f (at_place t k)) (range_with_len 0 256) =
    fill_by_all (λ k. f (at_place t k)) (map f slots) 256 0 (length-map slots f ∙ t.places.long) (λ k h. let l = t.places.long in get_or-map f slots k None 0 (omega arith)) in
    quantity_sum i p s (book_of t) ∙ sum_book i p s slots ∙ sym (sum-map f slots) ∙ ap sum shares ∙ sum-map (λ k. f (at_place t k)) (range_with_len 0 256)

pub share_small : (i p : ℕ) (s : Side) (t : Table) (k : ℕ) → share i p s (at_place t k) ≤ 100000000
share_small i p s t k = go (at_place t k) refl
  where
    go : (r : Option Order) → at_place t k ≡ r → share i p s r ≤ 100000000
    go None e = omega arith
    go (Some o) e =
        let valid = all_in Valid (book_of t) (sound_table t).valid o (place_in t k o e) in
        grind arith
