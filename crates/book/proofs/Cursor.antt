-- The first of a list that passes a test, in rank order or by stamp alone.
use Rattle.std.proofs.Common.{◌≡◌, ℕ, Bool, cond, List, [], ◌∷◌, Some, None, filter, Option, sym, refl, ap, ◌∙◌, inl, inr}
use Rattle.std.proofs.lemmas.Bool.{cond-true, cond-false, cases_Bool}
use Rattle.std.specs.Cmp.{IsStrictWeakOrder}
use Rattle.orders.specs.declared.order.Order.{Order}
use Rattle.orders.specs.declared.rank.Stamped.{Stamped}
use Rattle.orders.specs.Rank.{first_by, in_rank, earlier}
use Rattle.orders.specs.Search.{First}
use Rattle.orders.specs.Stamps.{stamped, unstamped}
use Rattle.orders.specs.Lists.{none_some, some_none}
use Rattle.orders.specs.Ranking.{head_of, kept_in_rank, head_first}

-- the first of the list that passes
abbrev pub first_that : {X : Type 0} → (X → Bool) → List X → Option X
first_that q [] = None
first_that q (x ∷ xs) = cond (q x) (Some x) (first_that q xs)

first_that_head : {X : Type 0} (q : X → Bool) (l : List X) → first_that q l ≡ head_of (filter q l)
first_that_head q [] = refl
first_that_head q (x ∷ xs) =
    elim (cases_Bool (q x)) [
      | inl h ↦ cond-true (q x) (Some x) (first_that q xs) h ∙ sym (ap head_of (cond-true (q x) (x ∷ filter q xs) (filter q xs) h))
      | inr h ↦ cond-false (q x) (Some x) (first_that q xs) h ∙ first_that_head q xs ∙ sym (ap head_of (cond-false (q x) (x ∷ filter q xs) (filter q xs) h))
    ]

-- the first in rank order that passes is the first by rank of those that pass
pub first_that_ranked : {X : Type 0} {before : X → X → Bool} (o : IsStrictWeakOrder before) (q : X → Bool) (xs : List X) → first_that q (in_rank before xs) ≡ first_by before (filter q xs)
first_that_ranked {before = before} o q xs = first_that_head q (in_rank before xs) ∙ ap head_of (kept_in_rank o q xs) ∙ head_first o (filter q xs)

-- ---- a search by stamp alone
stamped_none : (s : Option Order) → stamped s ≡ None → s ≡ None
stamped_none None e = refl
stamped_none (Some x) e = some_none _ e

stamped_some : (s : Option Order) (x : Stamped) → stamped s ≡ Some x → s ≡ Some x.order
stamped_some None x e = none_some x e
stamped_some (Some y) x e = let r : Stamped = record { order = y } in let same : r ≡ x = cc in ap (λ (z : Stamped). Some z.order) same

pub first_unstamped : (at : ℕ → Option Order) (n : ℕ) (best : Option (ℕ × Stamped)) → First (λ (x y : Stamped). earlier x.order y.order) (λ i. stamped (at i)) n best → First earlier at n (unstamped best)
first_unstamped at n None f = λ k h. stamped_none (at k) (f k h)
first_unstamped at n (Some b) f = (f.0, stamped_some (at b.0) b.1 f.1, λ k y h e. f.2 k (record { order = y }) h (ap stamped e))
