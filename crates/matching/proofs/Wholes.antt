-- All orders trade whole or not at all.
use Rattle.std.proofs.Common.{◌≡◌, ℕ, ◌+◌, ◌<◌, ◌≤◌, true, eqb, ◌⊎◌, List, [], ◌∷◌, Some, None, sym, refl, ◌∙◌, inl, inr, arith}
use Rattle.std.proofs.lemmas.Bool.Decides.{nat_tests}
use Rattle.std.proofs.lemmas.Bool.{cases_lt, cond_both, eqb-true}
use Rattle.orders.specs.declared.order.Order.{Order}
use Rattle.orders.specs.declared.order.Trade.{Trade}
use Rattle.orders.specs.declared.order.Side.{Side}
use Rattle.orders.specs.declared.order.Side.TheVariants.{Buy, Sell}
use Rattle.orders.specs.declared.order.Term.{Term}
use Rattle.orders.specs.declared.order.Term.TheVariants.{Plain, All, Least}
use Rattle.orders.specs.Orders.{Valid}
use Rattle.orders.specs.Book.{Book, number_of, find, loosened, lowered, reduced, after, after_trade}
use Rattle.orders.specs.Laws.{Distinct, Sound, Fair, AllFair}
use Rattle.orders.proofs.Changes.{missing_find, found_all, distinct_ascending}
use Rattle.orders.proofs.Trades.{find_other, find_lowered, two_orders, sound_reduced, sound_after}
use Rattle.matching.specs.Walk.{candidates, Part, walk, amount, parts}
use Rattle.matching.specs.Attempt.{trade_of, attempt}
use Rattle.matching.specs.Laws.{is_of, traded, AllOrNone}
use Rattle.matching.proofs.Fairness.{made, Walks, Trading, apart_of, find_third, walk_rule, parts_rule, walks_candidates}

-- ---- a trade of all that an order has left ends it
find_ended : (n q : ℕ) (o : Order) (b : Book) → Distinct number_of b → find n b ≡ Some o → o.left ≤ q → find n (reduced n q b) ≡ None
find_ended n q o [] d e le = refl
find_ended n q o (x ∷ os) d e le =
    let ih = find_ended n q o os d.1 in
    let rest = missing_find x.number os d.0 in
    grind (arith, nat_tests)

numbers : (b : Book) → Sound b → Distinct number_of b
numbers b h = distinct_ascending b h.ascending

loosened_all : (t : Term) → loosened t ≡ All → t ≡ All
loosened_all Plain e = cc
loosened_all All e = refl
loosened_all (Least m) e = cc

-- ---- an order has left what it had less its trades
-- one that is not live takes part in no trade
pub gone : (n : ℕ) (ts : List Trade) (b : Book) → AllFair ts b → find n b ≡ None → (traded n ts ≡ 0) × (find n (after ts b) ≡ None)
gone n [] b h e = (refl, e)
gone n (t ∷ ts) b h e =
    let f = h.0 in
    let s = find_other n t.sell t.quantity b in
    let y = find_other n t.buy t.quantity (reduced t.sell t.quantity b) in
    let ih = gone n ts (after_trade t b) h.1 in
    let buy = f.buy_live in
    let sell = f.sell_live in
    grind (arith, nat_tests)

-- one trade that it takes part in
one_trade : (t : Trade) (b : Book) → Sound b → (f : Fair t b) → (n : ℕ) (o : Order) → find n b ≡ Some o → is_of n t ≡ true →
    ((t.quantity < o.left) × (find n (after_trade t b) ≡ Some (lowered t.quantity o))) ⊎ ((t.quantity ≡ o.left) × (find n (after_trade t b) ≡ None))
one_trade t b h f n o e y =
    let ne = two_orders t b f in
    let q = t.quantity in
    let sold = reduced t.sell q b in
    let other_buy = find_other t.buy t.sell q b ne in
    let other_sell = find_other t.sell t.buy q sold in
    let ended_buy = find_ended t.buy q o sold (numbers sold (sound_reduced t.sell q b h)) in
    let ended_sell = find_ended t.sell q o b (numbers b h) in
    let lowered_buy = find_lowered t.buy q o sold in
    let lowered_sell = find_lowered t.sell q o b in
    grind (arith, nat_tests)

-- it has traded all and ended, or is live with the rest; an all order stays one
abbrev pub EndedOrLive : ℕ → Order → List Trade → Book → Type 0
EndedOrLive n o ts c = ((traded n ts ≡ o.left) × (find n c ≡ None)) ⊎ ((p : Order) × (find n c ≡ Some p) × (p.left + traded n ts ≡ o.left) × (o.term ≡ All → p.term ≡ All))

pub ended_or_live : (ts : List Trade) (b : Book) → Sound b → AllFair ts b → (n : ℕ) (o : Order) → find n b ≡ Some o → EndedOrLive n o ts (after ts b)
ended_or_live [] b h f n o e = inr (o, e, omega arith, λ k. k)
ended_or_live (t ∷ ts) b h f n o e =
    let next = after_trade t b in
    let sold = reduced t.sell t.quantity b in
    let s = sound_reduced t.buy t.quantity sold (sound_reduced t.sell t.quantity b h) in
    let one = one_trade t b h f.0 n o e in
    let low = ended_or_live ts next s f.1 n (lowered t.quantity o) in
    let same = ended_or_live ts next s f.1 n o in
    let ended = gone n ts next f.1 in
    let other_buy = find_other n t.buy t.quantity sold in
    let other_sell = find_other n t.sell t.quantity b in
    let loose = loosened_all o.term in
    grind (arith, nat_tests)

-- the same, without what becomes of an order that has traded all
abbrev Accounted : ℕ → Order → List Trade → Book → Type 0
Accounted n o ts c = (traded n ts ≡ o.left) ⊎ ((p : Order) × (find n c ≡ Some p) × (p.left + traded n ts ≡ o.left) × (o.term ≡ All → p.term ≡ All))

accounted : (ts : List Trade) (b : Book) → Sound b → AllFair ts b → (n : ℕ) (o : Order) → find n b ≡ Some o → Accounted n o ts (after ts b)
accounted ts b h f n o e = grind (arith, ended_or_live)

-- ---- an all order that is live in c stands in b as it is
abbrev pub Whole : Book → Book → Type 0
Whole b c = (n : ℕ) (o : Order) → find n c ≡ Some o → o.term ≡ All → find n b ≡ Some o

pub whole_trades : (ts : List Trade) (b : Book) → Sound b → AllFair ts b → Whole b (after ts b) → AllOrNone b ts
whole_trades ts b h f w n o e all = let r = accounted ts b h f n o e in grind arith

-- of the order n that trades q, an all order is left only if it had traded nothing
reduced_whole : (n q : ℕ) (o : Order) (b : Book) → Distinct number_of b → find n b ≡ Some o → (o.term ≡ All → o.left ≤ q) → (p : Order) → find n (reduced n q b) ≡ Some p → p.term ≡ All → ⊥
reduced_whole n q o b d e whole p k a =
    elim (cases_lt q o.left) [
      | inr le ↦ let z = find_ended n q o b d e le in grind arith
      | inl lt ↦ let z = find_lowered n q o b e lt in let y = loosened_all o.term in grind arith
    ]

-- ---- along a walk: all orders but the active one are whole, and the active one has left what it had less its trades
abbrev total : List Trade → ℕ
total [] = 0
total (t ∷ ts) = t.quantity + total ts

abbrev Others : Book → ℕ → Book → Type 0
Others b k c = (n : ℕ) (o : Order) → (n ≡ k → ⊥) → find n c ≡ Some o → o.term ≡ All → find n b ≡ Some o

record Ends (b₀ : Book) (a : Order) (b : Book) (ts : List Trade) : Type 0 where
  others : Others b₀ a.number b → Others b₀ a.number (after ts b)
  active : (o : Order) → find a.number (after ts b) ≡ Some o → o.term ≡ All → (a.term ≡ All) × (o.left + total ts ≡ a.left)

quantity_of : (s : Side) (a c : Order) (q : ℕ) → (trade_of s a c q).quantity ≡ q
quantity_of s a c q = grind arith

away : (s : Side) (a c : Order) (b : Book) (q : ℕ) → Trading s a c b q → c.number ≡ a.number → ⊥
away s a c b q t x = apart_of s a c b q t (sym x)

waiting_whole : (s : Side) (a c : Order) (b : Book) (q : ℕ) → Trading s a c b q → (o : Order) → find c.number (after_trade (trade_of s a c q) b) ≡ Some o → o.term ≡ All → ⊥
waiting_whole Buy a c b q t o e all =
    let same = find_other c.number a.number q (reduced c.number q b) (away Buy a c b q t) in
    reduced_whole c.number q c b (numbers b t.sound) t.waiting.live t.whole o (rw (← same) e) all
waiting_whole Sell a c b q t o e all =
    reduced_whole c.number q c (reduced a.number q b) (numbers (reduced a.number q b) (sound_reduced a.number q b t.sound))
    (find_other c.number a.number q b (away Sell a c b q t) ∙ t.waiting.live) t.whole o e all

others_trade : (b₀ : Book) (s : Side) (a c : Order) (b : Book) (q : ℕ) → Trading s a c b q → Others b₀ a.number b → Others b₀ a.number (after_trade (trade_of s a c q) b)
others_trade b₀ s a c b q t h n o na e all =
    let waiting = waiting_whole s a c b q t o in
    let third = find_third s a c b q n na in
    grind arith

active_ended : (s : Side) (a c : Order) (b : Book) (q : ℕ) → Trading s a c b q → a.left ≤ q → find a.number (after_trade (trade_of s a c q) b) ≡ None
active_ended Buy a c b q t le = grind (arith, find_ended, find_other, apart_of, numbers, sound_reduced)
active_ended Sell a c b q t le = grind (arith, find_ended, find_other, apart_of, numbers)

ends_nil : (b₀ : Book) (a : Order) (b : Book) → find a.number b ≡ Some a → Ends b₀ a b []
ends_nil b₀ a b l = record { others = λ h. h; active = λ o e all. grind arith }

ends_last : (b₀ : Book) (s : Side) (a c : Order) (b : Book) (q : ℕ) → Trading s a c b q → a.left ≤ q → Ends b₀ a b (trade_of s a c q ∷ [])
ends_last b₀ s a c b q t le = record { others = others_trade b₀ s a c b q t; active = λ o e all. grind (arith, active_ended) }

ends_more : (b₀ : Book) (s : Side) (a c : Order) (b : Book) (q : ℕ) (ts : List Trade) → Trading s a c b q → q < a.left → Ends b₀ (lowered q a) (after_trade (trade_of s a c q) b) ts → Ends b₀ a b (trade_of s a c q ∷ ts)
ends_more b₀ s a c b q ts t lt h =
    record {
      others = λ k. h.others (others_trade b₀ s a c b q t k);
      active = λ o e all. let r = h.active o e all in (loosened_all a.term r.0, omega (arith, r.1, quantity_of s a c q));
    }

total_made : (s : Side) (a : Order) (ps : List Part) → total (made s a ps) ≡ amount ps
total_made s a [] = refl
total_made s a (p ∷ ps) = let ih = total_made s a ps in grind arith

-- ---- an attempt's parts, by the term
finish_whole : (a : Order) (b : Book) (ts : List Trade) → Ends b a b ts → ((o : Order) → find a.number (after ts b) ≡ Some o → o.term ≡ All → find a.number b ≡ Some o) → Whole b (after ts b)
finish_whole a b ts h act n o e all = let r = h.others (λ m p _ x _. x) n o in let k = act o in grind arith

parts_whole : (t : Term) (s : Side) (cs : List Order) (a : Order) (b : Book) → a.term ≡ t → Walks s a b cs → Whole b (after (made s a (parts t a.left cs)) b)
parts_whole Plain s cs a b t ws =
    let w = parts_rule s (Ends b) (ends_nil b) (ends_last b s) (ends_more b s) Plain cs a b t ws in
    finish_whole a b (made s a (parts Plain a.left cs)) w (λ o k all. absurd (let r = (w.active o k all).0 in grind arith))
parts_whole (Least m) s cs a b t ws =
    let w = parts_rule s (Ends b) (ends_nil b) (ends_last b s) (ends_more b s) (Least m) cs a b t ws in
    finish_whole a b (made s a (parts (Least m) a.left cs)) w (λ o k all. absurd (let r = (w.active o k all).0 in grind arith))
parts_whole All s cs a b t ws =
    let ps = walk a.left cs in
    let w = walk_rule s (Ends b) (ends_nil b) (ends_last b s) (ends_more b s) cs a b ws (λ m u. grind arith) in
    cond_both (eqb (amount ps) a.left) ps [] (λ qs. Whole b (after (made s a qs) b))
    (λ full. finish_whole a b (made s a ps) w
    (λ o k all. absurd (let r = (w.active o k all).1 in
    let some : 1 ≤ o.left = (found_all Valid a.number (after (made s a ps) b) o (sound_after (made s a ps) b ws.sound).valid k).some in
    omega (arith, total_made s a ps, eqb-true (amount ps) a.left full))))
    (λ _ n o k all. k)

pub attempt_whole : (a : Order) (b : Book) → Sound b → find a.number b ≡ Some a → a.working ≡ true → Whole b (after (attempt a b) b)
attempt_whole a b h l w = parts_whole a.term a.side (candidates a b) a b refl (walks_candidates a b h l w)
