-- What a round does depends on the orders of its issue alone, and its trades leave the other issues as they are.
use Rattle.std.proofs.Common.{◌≡◌, ℕ, Bool, ◌&&◌, eqb, List, [], ◌∷◌, Some, filter, sym, refl, ap, ◌∙◌, subst, arith}
use Rattle.std.proofs.lemmas.Bool.{eq-eqb}
use Rattle.std.proofs.lemmas.Bool.Decides.{nat_tests}
use Rattle.std.specs.List.{AllByRecursion as EveryOne}
use Rattle.orders.specs.declared.order.Order.{Order}
use Rattle.orders.specs.declared.order.Trade.{Trade}
use Rattle.orders.specs.declared.order.Side.{Side}
use Rattle.orders.specs.Orders.{opposed, within}
use Rattle.orders.specs.Rank.{in_rank, ahead}
use Rattle.orders.specs.Search.{In}
use Rattle.orders.specs.Book.{Book, find, if_left, reduced, after, after_trade}
use Rattle.orders.specs.Laws.{AllFair}
use Rattle.orders.specs.Lists.{in_kept, kept_in, kept_kept, kept_alike}
use Rattle.orders.proofs.Trades.{find_other, two_orders}
use Rattle.matching.specs.Walk.{faces, candidates, Part, parts}
use Rattle.matching.specs.Attempt.{trade_of, trades_of, attempt}
use Rattle.matching.specs.Laws.{QuietLocal, of_issue}

-- ---- an attempt sees the orders of its issue alone
own_issue : (i r l : Bool) → (i && ((i && r) && l)) ≡ ((i && r) && l)
own_issue i r l = grind arith

faces_local : (a : Order) (b : Book) → filter (faces a) (of_issue a.issue b) ≡ filter (faces a) b
faces_local a b =
    kept_kept (λ o. eqb o.issue a.issue) (faces a) b
    ∙ kept_alike (λ o. eqb o.issue a.issue && faces a o) (faces a) b (λ o _. own_issue (eqb o.issue a.issue) (opposed a.side o.side && o.working) (within a.side a.price o.price))

attempt_local : (j : ℕ) (b c : Book) → of_issue j b ≡ of_issue j c → (a : Order) → a.issue ≡ j → attempt a b ≡ attempt a c
attempt_local j b c same a e =
    let here : of_issue a.issue b ≡ of_issue a.issue c = subst (λ k. of_issue k b ≡ of_issue k c) (sym e) same in
    ap (λ os. trades_of a (parts a.term a.left (in_rank ahead os))) (sym (faces_local a b) ∙ ap (filter (faces a)) here ∙ faces_local a c)

-- a quiet issue stays quiet while its orders stay
pub quiet_local : QuietLocal
quiet_local j b c same q =
    record {
      no_cross = λ x y ix iy px py. q.no_cross x y (back x ix px.issue) (back y iy py.issue) px py;
      none_ready = λ o i e w k. sym (attempt_local j b c same o e) ∙ q.none_ready o (back o i e) e w k;
    }
  where
    back : (o : Order) → In o c → o.issue ≡ j → In o b
    back o i e = (in_kept (λ x. eqb x.issue j) b o (subst (In o) (sym same) (kept_in (λ x. eqb x.issue j) c o i (eq-eqb _ _ e)))).0

-- ---- trades in one issue leave the orders of another
issue_if_left : (j : ℕ) (o : Order) (os : Book) → (o.issue ≡ j → ⊥) → of_issue j (if_left o os) ≡ of_issue j os
issue_if_left j o os h = grind (arith, nat_tests)

issue_reduced : (j n q : ℕ) (o : Order) (b : Book) → find n b ≡ Some o → (o.issue ≡ j → ⊥) → of_issue j (reduced n q b) ≡ of_issue j b
issue_reduced j n q o [] e h = refl
issue_reduced j n q o (x ∷ os) e h = let ih = issue_reduced j n q o os in grind (arith, nat_tests, issue_if_left)

pub issue_after : (i j : ℕ) (ts : List Trade) (b : Book) → (i ≡ j → ⊥) → AllFair ts b → EveryOne (λ t. t.issue ≡ i) ts → of_issue j (after ts b) ≡ of_issue j b
issue_after i j [] b ne h is = refl
issue_after i j (t ∷ ts) b ne h is =
    let f = h.0 in
    let ih = issue_after i j ts (after_trade t b) ne h.1 is.1 in
    let still = find_other t.buy t.sell t.quantity b (two_orders t b f) in
    let buys = issue_reduced j t.buy t.quantity f.buy (reduced t.sell t.quantity b) in
    let sells = issue_reduced j t.sell t.quantity f.sell b in
    grind arith

-- ---- the trades of an attempt are of the active order's issue
issue_of : (s : Side) (a o : Order) (q : ℕ) → (trade_of s a o q).issue ≡ a.issue
issue_of s a o q = grind arith

made_issue : (i : ℕ) (a : Order) → a.issue ≡ i → (ps : List Part) → EveryOne (λ t. t.issue ≡ i) (trades_of a ps)
made_issue i a e [] = tt
made_issue i a e (p ∷ ps) = let ih = made_issue i a e ps in grind (arith, issue_of)

pub attempt_issue : (i : ℕ) (a : Order) (b : Book) → a.issue ≡ i → EveryOne (λ t. t.issue ≡ i) (attempt a b)
attempt_issue i a b e = made_issue i a e (parts a.term a.left (candidates a b))
