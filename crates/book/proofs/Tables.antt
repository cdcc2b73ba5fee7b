-- The table's book is sound, the search over its places finds the first by rank of its book, and the row decides nothing.
use Rattle.std.proofs.Common.{◌≡◌, ℕ, ◌<◌, ◌≤◌, Bool, true, false, length, IfSome, Some, None, filter, Option, sym, ap, ◌∙◌, arith}
use Rattle.std.proofs.lemmas.Bool.{cond-true}
use Rattle.std.specs.Option.{option_map}
use Rattle.std.specs.Cmp.{IsStrictWeakOrder}
use Rattle.orders.specs.declared.order.Order.{Order}
use Rattle.book.specs.declared.table.Table.{Table}
use Rattle.orders.specs.Rank.{first_by}
use Rattle.orders.specs.Search.{In, First, passing}
use Rattle.orders.specs.Book.{number_of, stamp_of}
use Rattle.orders.specs.Laws.{Distinct}
use Rattle.book.specs.Table.{book_of, at_place, TablesSound, TablesAlike}
use Rattle.orders.specs.Lists.{in_kept, kept_in, passing_some}
use Rattle.orders.specs.Firsts.{searched}
use Rattle.orders.specs.Ranks.{Ties}
use Rattle.orders.specs.Ranking.{one_of}
use Rattle.book.proofs.Slots.{book_in, in_book, book_short, book_sound, book_distinct, places_free}

pub sound_table : TablesSound
sound_table t = book_sound t.places.slots t.places.numbers t.places.stamps t.places.valid

pub table_numbers : (t : Table) → Distinct number_of (book_of t)
table_numbers t = book_distinct number_of t.places.slots t.places.numbers

pub table_stamps : (t : Table) → Distinct stamp_of (book_of t)
table_stamps t = book_distinct stamp_of t.places.slots t.places.stamps

pub table_short : (t : Table) → length (book_of t) ≤ 256
table_short t = omega (arith, book_short t.places.slots, t.places.long)

-- ---- places and book
pub place_in : (t : Table) (i : ℕ) (o : Order) → at_place t i ≡ Some o → In o (book_of t)
place_in t i o e = book_in t.places.slots i o e

pub in_place : (t : Table) (o : Order) → In o (book_of t) → (i : ℕ) × (i < 256) × (at_place t i ≡ Some o)
in_place t o h = let r = in_book t.places.slots o h in (r.0, omega (arith, r.1, t.places.long), r.2)

-- orders of the book that tie by rank are one
pub table_ties : {before : Order → Order → Bool} → Ties before → (t : Table) (x y : Order) → In x (book_of t) → In y (book_of t) → before x y ≡ false → before y x ≡ false → x ≡ y
table_ties ties t x y i j h k = one_of stamp_of (book_of t) (table_stamps t) x y i j (ties x y h k)

-- ---- the first by rank among the places that pass is that of the book, wherever it lies
pub best_of_table : {before : Order → Order → Bool} → IsStrictWeakOrder before → Ties before → (t : Table) (p : Order → Bool) (at : ℕ → Option Order) (best : Option (ℕ × Order)) →
    ((k : ℕ) → k < 256 → at k ≡ passing p (at_place t k)) → First before at 256 best → option_map (λ b. b.1) best ≡ first_by before (filter p (book_of t))
best_of_table o ties t p at best is f =
    searched o at 256 (filter p (book_of t)) best
    (λ k x l e. let h = passing_some p (at_place t k) x (sym (is k l) ∙ e) in kept_in p (book_of t) x (place_in t k x h.0) h.1)
    (λ x i. let h = in_kept p (book_of t) x i in let r = in_place t x h.0 in (r.0, r.1, is r.0 r.1 ∙ ap (passing p) r.2 ∙ cond-true (p x) (Some x) None h.1))
    (λ x y i j. table_ties ties t x y (in_kept p (book_of t) x i).0 (in_kept p (book_of t) y j).0)
    f

-- and its place is known
pub place_of_best : (before : Order → Order → Bool) (t : Table) (p : Order → Bool) (best : Option (ℕ × Order)) → First before (λ k. passing p (at_place t k)) 256 best →
    IfSome best (λ b. (b.0 < 256) × (at_place t b.0 ≡ Some b.1) × (p b.1 ≡ true))
place_of_best before t p None f = tt
place_of_best before t p (Some b) f = let h = passing_some p (at_place t b.0) b.1 f.1 in (f.0, h.0, h.1)

pub tables_alike : TablesAlike
tables_alike t u to from = places_free t.places.slots u.places.slots t.places.numbers u.places.numbers to from
