-- The first ready order among the listed ones is that of the book.
use Rattle.std.proofs.Common.{◌≡◌, ℕ, zero, suc, ◌<◌, Bool, true, cond, ◌&&◌, List, [], ◌∷◌, length, Some, None, filter, Option, sym, refl, ap, ◌∙◌, subst, inl, inr, arith}
use Rattle.std.proofs.lemmas.Bool.Decides.{nat_tests}
use Rattle.std.proofs.lemmas.Bool.{cond-true, and_parts, and_from}
use Rattle.std.specs.Option.{option_map}
use Rattle.std.specs.List.{AllByRecursion as EveryOne}
use Rattle.orders.specs.declared.order.Order.{Order}
use Rattle.orders.specs.declared.order.Side.{Side}
use Rattle.orders.specs.declared.rank.Stamped.{Stamped}
use Rattle.book.specs.declared.table.Table.{Table}
use Rattle.orders.specs.Rank.{first_by, in_rank, ahead, earlier}
use Rattle.orders.specs.Search.{In, First}
use Rattle.orders.specs.Stamps.{stamped, unstamped}
use Rattle.book.specs.Table.{book_of, at_place}
use Rattle.orders.specs.Lists.{some_none, in_kept, kept_in, kept_kept, kept_alike, passing_some}
use Rattle.orders.specs.Firsts.{searched}
use Rattle.orders.specs.Ranks.{ahead_ranks, earlier_ranks, earlier_ties}
use Rattle.orders.specs.Ranking.{in_ranked, ranked_in}
use Rattle.book.proofs.Cursor.{first_that, first_that_ranked, first_unstamped}
use Rattle.book.proofs.Tables.{table_ties}
use Rattle.matching.specs.declared.listed.Listed.{Listed}
use Rattle.matching.specs.Rounds.{on_side, ready}
use Rattle.matching.specs.Listing.{working_of, orders_in, InPlace, order_at, Lists, ready_over, ready_on, ready_at, first_row}
use Rattle.matching.proofs.Listings.{attempt_listed}

-- ---- ready over the listed orders is ready on the book
pub ready_same : (t : Table) (i : ℕ) (rows : List Listed) → Lists t i rows → (o : Order) → ready_over i rows o ≡ ready i (book_of t) o
ready_same t i rows h o = let e = attempt_listed t o rows in grind (arith, nat_tests)

works : (i s w r : Bool) → ((i && (s && w)) && r) ≡ true → (i && w) ≡ true
works i s w r e =
    let p = and_parts (i && (s && w)) r e in
    let q = and_parts i (s && w) p.0 in
    and_from i w q.0 (and_parts s w q.1).1

pub ready_works : (i : ℕ) (b : List Order) (o : Order) → ready i b o ≡ true → working_of i o ≡ true
ready_works i b o e = grind arith

-- ---- the first row that passes
first_placed : (t : Table) (p : Order → Bool) (rows : List Listed) → EveryOne (InPlace t) rows → (k : ℕ) → Some k ≡ option_map (λ x. x.place) (first_row p rows) → (k < 256) × (at_place t k ≡ first_that p (orders_in rows))
first_placed t p [] h k e = some_none k e
first_placed t p (r ∷ rs) h k e = let ih = first_placed t p rs h.1 k in grind arith

first_absent : (p : Order → Bool) (rows : List Listed) → None ≡ option_map (λ x. x.place) (first_row p rows) → None ≡ first_that p (orders_in rows)
first_absent p [] e = refl
first_absent p (r ∷ rs) e = let ih = first_absent p rs in grind arith

swap_works : (w s r : Bool) → (r ≡ true → w ≡ true) → (w && (s && r)) ≡ (r && s)
swap_works w s r f = grind arith

module _ (t : Table) (i : ℕ) (s : Side) (rows : List Listed) (h : Lists t i rows) where
  on_book : first_that (ready_on i s rows) (orders_in rows) ≡ first_by ahead (filter (on_side s) (filter (ready i (book_of t)) (book_of t)))
  on_book =
      ap (first_that (ready_on i s rows)) h.ranked
      ∙ first_that_ranked ahead_ranks (ready_on i s rows) (filter (working_of i) (book_of t))
      ∙ ap (first_by ahead) (kept_kept (working_of i) (ready_on i s rows) (book_of t)
      ∙ kept_alike (λ x. working_of i x && ready_on i s rows x) (λ x. ready i (book_of t) x && on_side s x) (book_of t)
      (λ x _. ap (λ r. working_of i x && (on_side s x && r)) (ready_same t i rows h x) ∙ swap_works (working_of i x) (on_side s x) (ready i (book_of t) x) (ready_works i (book_of t) x))
      ∙ sym (kept_kept (ready i (book_of t)) (on_side s) (book_of t)))

  pub side_placed : (k : ℕ) → Some k ≡ option_map (λ x. x.place) (first_row (ready_on i s rows) rows) → (k < 256) × (at_place t k ≡ first_by ahead (filter (on_side s) (filter (ready i (book_of t)) (book_of t))))
  side_placed k e = let r = first_placed t (ready_on i s rows) rows h.placed k e in (r.0, r.1 ∙ on_book)

  pub side_absent : None ≡ option_map (λ x. x.place) (first_row (ready_on i s rows) rows) → None ≡ first_by ahead (filter (on_side s) (filter (ready i (book_of t)) (book_of t)))
  side_absent e = first_absent (ready_on i s rows) rows e ∙ on_book

-- ---- the lowest stamp
row_in : (rows : List Listed) (k : ℕ) → k < length rows → In (order_at rows k) (orders_in rows)
row_in [] k l = absurd (omega arith)
row_in (r ∷ rs) zero l = inl refl
row_in (r ∷ rs) (suc k) l = inr (row_in rs k (omega arith))

in_row : (rows : List Listed) (x : Order) → In x (orders_in rows) → (k : ℕ) × (k < length rows) × (order_at rows k ≡ x)
in_row [] x i = absurd i
in_row (r ∷ rs) x i = elim i [ inl e ↦ (0, omega arith, e) | inr j ↦ let h = in_row rs x j in (suc h.0, omega (arith, h.1), h.2) ]

unstamp : (best : Option (ℕ × Stamped)) → option_map (λ b. b.1.order) best ≡ option_map (λ b. b.1) (unstamped best)
unstamp best = grind arith

pub earliest_is : (t : Table) (i : ℕ) (rows : List Listed) → Lists t i rows → (best : Option (ℕ × Stamped)) → First (λ (x y : Stamped). earlier x.order y.order) (λ k. stamped (ready_at i rows k)) (length rows) best →
    option_map (λ b. b.1.order) best ≡ first_by earlier (filter (ready i (book_of t)) (book_of t))
earliest_is t i rows h best f =
    unstamp best ∙ searched earlier_ranks (ready_at i rows) (length rows) (filter (ready i b) b) (unstamped best)
    (λ k x l e.
    let r = passing_some (ready_over i rows) (Some (order_at rows k)) x e in
    let same : order_at rows k ≡ x = (let q = r.0 in cc) in
    let listed : In x (in_rank ahead (filter (working_of i) b)) = subst (In x) h.ranked (subst (λ y. In y (orders_in rows)) same (row_in rows k l)) in
    kept_in (ready i b) b x (in_kept (working_of i) b x (in_ranked ahead (filter (working_of i) b) x listed)).0 (sym (ready_same t i rows h x) ∙ r.1))
    (λ x j.
    let m = in_kept (ready i b) b x j in
    let listed : In x (orders_in rows) = subst (In x) (sym h.ranked) (ranked_in ahead (filter (working_of i) b) x (kept_in (working_of i) b x m.0 (ready_works i b x m.1))) in
    let r = in_row rows x listed in
    (r.0, r.1, ap (λ y. cond (ready_over i rows y) (Some y) None) r.2 ∙ cond-true (ready_over i rows x) (Some x) None (ready_same t i rows h x ∙ m.1)))
    (λ x y j k. table_ties earlier_ties t x y (in_kept (ready i b) b x j).0 (in_kept (ready i b) b y k).0)
    (first_unstamped (ready_at i rows) (length rows) best f)
  where
    b : List Order
    b = book_of t
