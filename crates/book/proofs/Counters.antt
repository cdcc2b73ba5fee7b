-- Numbers and stamps stay below the next to be given, and each order keeps a stamp of its own.
use Rattle.std.proofs.Common.{◌≡◌, ℕ, ◌+◌, ◌<◌, ◌≤◌, Bool, true, false, cond, [], ◌∷◌, ◌++◌, is_some, unwrap_or, IfSome, Some, None, Option, sym, refl, ap, ◌∙◌, subst, inl, inr, arith}
use Rattle.std.specs.Bool.{then_some}
use Rattle.orders.specs.declared.order.Order.{Order}
use Rattle.orders.specs.declared.order.Term.{Term}
use Rattle.orders.specs.Search.{In}
use Rattle.orders.specs.Book.{Book, number_of, stamp_of, find, changed, amended, without, first_then, lowered, reduced}
use Rattle.book.specs.Places.{Under, OwnStamp}
use Rattle.orders.specs.Laws.{Distinct}
use Rattle.orders.specs.Lists.{in_push, in_kept}
use Rattle.orders.specs.Ranking.{one_of}
use Rattle.orders.proofs.Changes.{in_changed, in_reduced, found_in}

pub under_is : (key : Order → ℕ) (m : ℕ) {b c : Book} → c ≡ b → Under key m b → Under key m c
under_is key m e u o i = u o (subst (In o) e i)

pub under_more : (key : Order → ℕ) (m n : ℕ) (b : Book) → m ≤ n → Under key m b → Under key n b
under_more key m n b h u o i = omega (arith, u o i)

pub under_push : (key : Order → ℕ) (m : ℕ) (b : Book) (p : Order) → Under key m b → key p < m → Under key m (b ++ (p ∷ []))
under_push key m b p u h o i = elim (in_push o p b i) [ inl j ↦ u o j | inr e ↦ subst (λ x. key x < m) e h ]

pub under_changed : (key : Order → ℕ) (m n : ℕ) (f : Order → Order) (b : Book) → Under key m b → ((o : Order) → key o < m → key (f o) < m) → Under key m (changed n f b)
under_changed key m n f b u k o i = elim (in_changed n f b o i) [ inl j ↦ u o j | inr r ↦ subst (λ x. key x < m) r.2 (k r.0 (u r.0 r.1)) ]

-- an amendment gives the next stamp, or none
pub under_amended : (s n q p : ℕ) (t : Term) (again : Bool) (b : Book) → Under stamp_of (s + 1) b → Under stamp_of (cond again (s + 1) s + 1) (changed n (amended q p t again (s + 1)) b)
under_amended s n q p t true b u = under_changed stamp_of (s + 1 + 1) n (amended q p t true (s + 1)) b (under_more stamp_of (s + 1) (s + 1 + 1) b (omega arith) u) (λ o h. omega arith)
under_amended s n q p t false b u = under_changed stamp_of (s + 1) n (amended q p t false (s + 1)) b u (λ o h. h)

pub under_without : (key : Order → ℕ) (m n : ℕ) (b : Book) → Under key m b → Under key m (without n b)
under_without key m n b u o i = u o (in_kept _ b o i).0

pub under_reduced : (key : Order → ℕ) (m n q : ℕ) (b : Book) → ((o : Order) → key (lowered q o) ≡ key o) → Under key m b → Under key m (reduced n q b)
under_reduced key m n q b same u o i =
    elim (in_reduced n q b o i) [ inl j ↦ u o j | inr r ↦ subst (λ x. key x < m) r.2 (omega (arith, same r.0, u r.0 r.1)) ]

pub under_rest : (key : Order → ℕ) (m : ℕ) (r : Option Order) (b : Book) → Under key m (first_then r b) → Under key m b
under_rest key m None b u o i = u o i
under_rest key m (Some p) b u o i = u o (inr i)

-- ---- a stamp of its own
pub own_same : (n : ℕ) (b : Book) (o p : Order) → Distinct stamp_of b → find n b ≡ Some o → p.stamp ≡ o.stamp → p.number ≡ o.number → OwnStamp p b
own_same n b o p d e s k x i f = ap number_of (one_of stamp_of b d x o i (found_in n b o e) (f ∙ s)) ∙ sym k

pub own_fresh : (b : Book) (p : Order) → Under stamp_of p.stamp b → OwnStamp p b
own_fresh b p u x i f = absurd (omega (arith, u x i))

pub own_either : (n : ℕ) (fresh : Option ℕ) (b : Book) (o p : Order) → Distinct stamp_of b → find n b ≡ Some o → IfSome fresh (λ k. Under stamp_of k b) → p.stamp ≡ unwrap_or fresh o.stamp → p.number ≡ o.number → OwnStamp p b
own_either n None b o p d e u s m = own_same n b o p d e s m
own_either n (Some k) b o p d e u s m = own_fresh b p (under_more stamp_of k p.stamp b (omega arith) u)

-- ---- the next stamp if a new one is asked for
pub fresh_under : (s : ℕ) (again : Bool) (b : Book) → Under stamp_of (s + 1) b → IfSome (then_some again (s + 1)) (λ k. Under stamp_of k b)
fresh_under s true b u = u
fresh_under s false b u = tt

pub fresh_amends : (s q p : ℕ) (t : Term) (again : Bool) → amended q p t (is_some (then_some again (s + 1))) (unwrap_or (then_some again (s + 1)) 0) ≡ amended q p t again (s + 1)
fresh_amends s q p t true = refl
fresh_amends s q p t false = refl

pub fresh_stamp : (s k : ℕ) (again : Bool) → unwrap_or (then_some again k) s ≡ cond again k s
fresh_stamp s k true = refl
fresh_stamp s k false = refl

pub stamp_or : (fresh : Option ℕ) (s : ℕ) → unwrap_or fresh s ≡ cond (is_some fresh) (unwrap_or fresh 0) s
stamp_or None s = refl
stamp_or (Some k) s = refl

-- the last stamp given, after an amendment
pub next_stamp : (s k : ℕ) (again : Bool) → k ≡ cond again (s + 1) s → (again ≡ true → s < 1000000) → s ≤ 1000000 → (s ≤ k) × (k ≤ 1000000)
next_stamp s k true e h l = (omega arith, omega (arith, h refl))
next_stamp s k false e h l = (omega arith, omega arith)
