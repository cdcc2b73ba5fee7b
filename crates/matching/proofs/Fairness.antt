-- A rule for the trades of a walk, one by one; and by it, that the trades of an attempt are fair.
use Rattle.std.proofs.Common.{◌≡◌, ℕ, ◌+◌, ◌-◌, ◌<◌, ◌≤◌, min, true, not, eqb, List, [], ◌∷◌, length, map, Some, None, filter, Option, sym, refl, ap, ◌∙◌, subst, inl, inr, arith}
use Rattle.std.proofs.lemmas.Bool.Decides.{nat_tests}
use Rattle.std.proofs.lemmas.Bool.{cases_lt, cond_both, eqb-true, eqb-false, leb-true, and_parts, not-true}
use Rattle.std.proofs.ByRecursion.{all_kept_by, kept_by_passes, All-weaker}
use Rattle.std.specs.List.{AllByRecursion as EveryOne}
use Rattle.orders.specs.declared.order.Order.{Order}
use Rattle.orders.specs.declared.order.Trade.{Trade}
use Rattle.orders.specs.declared.order.Side.{Side}
use Rattle.orders.specs.declared.order.Side.TheVariants.{Buy, Sell}
use Rattle.orders.specs.declared.order.Term.{Term}
use Rattle.orders.specs.declared.order.Term.TheVariants.{Plain, All, Least}
use Rattle.orders.specs.Orders.{opposed, within, working_opposite}
use Rattle.orders.specs.Rank.{ahead}
use Rattle.book.specs.declared.table.Table.{Table}
use Rattle.book.specs.Table.{book_of}
use Rattle.book.proofs.Tables.{sound_table}
use Rattle.orders.specs.Book.{Book, number_of, find, without, reduced, lowered, after, after_trade}
use Rattle.orders.specs.Laws.{Distinct, Sound, Fair, AllFair}
use Rattle.orders.specs.Lists.{all_both}
use Rattle.orders.proofs.Words.{opposite_says}
use Rattle.orders.proofs.Validity.{not_least}
use Rattle.orders.specs.Ranking.{distinct_kept, distinct_in_rank, all_in_rank}
use Rattle.orders.proofs.Changes.{all_found, found_number, distinct_ascending}
use Rattle.orders.proofs.Trades.{count_trades, find_other, find_lowered, sound_reduced}
use Rattle.matching.specs.Walk.{faces, candidates, gives, Part, part, walk, amount, first_giving, least_parts, parts}
use Rattle.matching.specs.Attempt.{trade_of, attempt, if_working, attempt_of}
use Rattle.matching.proofs.Walking.{walk_none, giving_all}

-- ---- what a part says of the waiting order
record Gave (t : Term) (left w q : ℕ) : Type 0 where
  lesser : q ≡ min w left
  whole : t ≡ All → left ≤ q
  least : (m : ℕ) → t ≡ Least m → m ≤ q

gave : (t : Term) (left w : ℕ) → 1 ≤ gives t left w → Gave t left w (gives t left w)
gave t left w some = record { lesser = grind (arith, nat_tests); whole = grind (arith, nat_tests); least = grind (arith, nat_tests) }

-- ---- the active order and the waiting ones
-- a waiting order of the book that the active order's limit meets
pub record Meets (s : Side) (a : Order) (b : Book) (c : Order) : Type 0 where
  pub live : find c.number b ≡ Some c
  pub issue : c.issue ≡ a.issue
  pub against : opposed s c.side ≡ true
  pub works : c.working ≡ true
  pub fits : within s a.price c.price ≡ true

-- the active order, and those that it walks
pub record Walks (s : Side) (a : Order) (b : Book) (cs : List Order) : Type 0 where
  pub sound : Sound b
  pub side : a.side ≡ s
  pub active : find a.number b ≡ Some a
  pub works : a.working ≡ true
  pub apart : Distinct number_of cs
  pub met : EveryOne (Meets s a b) cs

-- one trade of the active order a with the waiting order c
pub record Trading (s : Side) (a c : Order) (b : Book) (q : ℕ) : Type 0 where
  pub sound : Sound b
  pub side : a.side ≡ s
  pub active : find a.number b ≡ Some a
  pub works : a.working ≡ true
  pub waiting : Meets s a b c
  pub some : 1 ≤ q
  pub lesser : q ≡ min a.left c.left
  pub whole : c.term ≡ All → c.left ≤ q
  pub least : (m : ℕ) → c.term ≡ Least m → m ≤ q
  pub own : (m : ℕ) → a.term ≡ Least m → m ≤ q

against_buy : (x : Side) → opposed Buy x ≡ true → x ≡ Sell
against_buy x e = grind arith

against_sell : (x : Side) → opposed Sell x ≡ true → x ≡ Buy
against_sell x e = grind arith

never_itself : (s : Side) → opposed s s ≡ true → ⊥
never_itself s e = grind arith

pub two : (s : Side) (a c : Order) (b : Book) → a.side ≡ s → find a.number b ≡ Some a → Meets s a b c → a.number ≡ c.number → ⊥
two s a c b e l m same = grind (arith, never_itself)

pub apart_of : (s : Side) (a c : Order) (b : Book) (q : ℕ) → Trading s a c b q → a.number ≡ c.number → ⊥
apart_of s a c b q t = two s a c b t.side t.active t.waiting

fair_one : (s : Side) (a c : Order) (b : Book) (q : ℕ) → Trading s a c b q → Fair (trade_of s a c q) b
fair_one Buy a c b q t =
    let m = t.waiting in
    record {
      buy = a;
      sell = c;
      buy_live = t.active;
      sell_live = m.live;
      buy_works = t.works;
      sell_works = m.works;
      buys = t.side;
      sells = against_buy c.side m.against;
      buy_issue = refl;
      sell_issue = m.issue;
      buyer = refl;
      seller = refl;
      lesser = t.lesser;
      some = t.some;
      low = omega arith;
      high = leb-true c.price a.price m.fits;
      buy_least = t.own;
      sell_least = t.least;
    }
fair_one Sell a c b q t =
    let m = t.waiting in
    record {
      buy = c;
      sell = a;
      buy_live = m.live;
      sell_live = t.active;
      buy_works = m.works;
      sell_works = t.works;
      buys = against_sell c.side m.against;
      sells = t.side;
      buy_issue = m.issue;
      sell_issue = refl;
      buyer = refl;
      seller = refl;
      lesser = omega (arith, t.lesser);
      some = t.some;
      low = leb-true a.price c.price m.fits;
      high = omega arith;
      buy_least = t.least;
      sell_least = t.own;
    }

pub find_third : (s : Side) (a c : Order) (b : Book) (q m : ℕ) → (m ≡ a.number → ⊥) → (m ≡ c.number → ⊥) → find m (after_trade (trade_of s a c q) b) ≡ find m b
find_third Buy a c b q m na nc = grind (arith, find_other)
find_third Sell a c b q m na nc = grind (arith, find_other)

find_active : (s : Side) (a c : Order) (b : Book) (q : ℕ) → (a.number ≡ c.number → ⊥) → find a.number b ≡ Some a → q < a.left → find a.number (after_trade (trade_of s a c q) b) ≡ Some (lowered q a)
find_active Buy a c b q ne l lt = grind (arith, find_other, find_lowered)
find_active Sell a c b q ne l lt = grind (arith, find_other, find_lowered)

abbrev pub made : Side → Order → List Part → List Trade
made s a ps = map (λ p. trade_of s a p.from p.quantity) ps

-- a lowered order makes the same trades
made_lowered : (s : Side) (a : Order) (q : ℕ) (ps : List Part) → made s (lowered q a) ps ≡ made s a ps
made_lowered s a q ps = grind arith

sound_trade : (t : Trade) (b : Book) → Sound b → Sound (after_trade t b)
sound_trade t b h = sound_reduced t.buy t.quantity (reduced t.sell t.quantity b) (sound_reduced t.sell t.quantity b h)

-- ---- the rule: what holds of no trade, of a last one that ends the active order, and of one more where the active order has less left, holds of a walk's trades
module _ (s : Side) (Q : Order → Book → List Trade → Type 0)
    (nil : (a : Order) (b : Book) → find a.number b ≡ Some a → Q a b [])
    (last : (a c : Order) (b : Book) (q : ℕ) → Trading s a c b q → a.left ≤ q → Q a b (trade_of s a c q ∷ []))
    (more : (a c : Order) (b : Book) (q : ℕ) (ts : List Trade) → Trading s a c b q → q < a.left → Q (lowered q a) (after_trade (trade_of s a c q) b) ts → Q a b (trade_of s a c q ∷ ts)) where
  abbrev Walked : List Order → Type 0
  Walked cs = (a : Order) (b : Book) → Walks s a b cs → ((m : ℕ) → a.term ≡ Least m → ⊥) → Q a b (made s a (walk a.left cs))

  part_rule : (c : Order) (cs : List Order) → Walked cs → (q : ℕ) (a : Order) (b : Book) → Walks s a b cs → Trading s a c b q → EveryOne (λ x. x.number ≡ c.number → ⊥) cs → Q a b (made s a (part c q ∷ walk (a.left - q) cs))
  part_rule c cs ih q a b w t others =
      elim (cases_lt q a.left) [
        | inr over ↦ let z : a.left - q ≡ 0 = omega arith in rw (z, walk_none cs) (last a c b q t over)
        | inl under ↦ more a c b q (made s a (walk (a.left - q) cs)) t under (rest under)
      ]
    where
      next : Book
      next = after_trade (trade_of s a c q) b

      still : (x : Order) → (x.number ≡ c.number → ⊥) → Meets s a b x → Meets s (lowered q a) next x
      still x nc m = record { live = find_third s a c b q x.number (λ same. two s a x b t.side t.active m (sym same)) nc ∙ m.live; issue = m.issue; against = m.against; works = m.works; fits = m.fits }

      rest : q < a.left → Q (lowered q a) next (made s a (walk (a.left - q) cs))
      rest under = subst (Q (lowered q a) next) (made_lowered s a q (walk (a.left - q) cs))
          (ih (lowered q a) next (record {
            sound = sound_trade (trade_of s a c q) b t.sound;
            side = t.side;
            active = find_active s a c b q (apart_of s a c b q t) t.active under;
            works = t.works;
            apart = w.apart;
            met = all_both {P = λ x. x.number ≡ c.number → ⊥} {Q = Meets s a b} {R = Meets s (lowered q a) next} still cs others w.met;
          }) (not_least a.term))

  pub walk_rule : (cs : List Order) → Walked cs
  walk_rule [] a b w loose = nil a b w.active
  walk_rule (c ∷ cs) a b w loose =
      let q = gives c.term c.left a.left in
      let rest : Walks s a b cs = record { sound = w.sound; side = w.side; active = w.active; works = w.works; apart = w.apart.1; met = w.met.1 } in
      cond_both (eqb q 0) (walk (a.left - q) cs) (part c q ∷ walk (a.left - q) cs) (λ ps. Q a b (made s a ps))
      (λ none. let same : a.left - q ≡ a.left = omega (arith, eqb-true q 0 none) in rw same (walk_rule cs a b rest loose))
      (λ any.
      let some : 1 ≤ q = omega (arith, eqb-false q 0 any) in
      let g = gave c.term c.left a.left some in
      part_rule c cs (walk_rule cs) q a b rest
      (record { sound = w.sound; side = w.side; active = w.active; works = w.works; waiting = w.met.0; some = some; lesser = g.lesser; whole = g.whole; least = g.least; own = λ m e. absurd (loose m e) })
      w.apart.0)

  pub least_rule : (m : ℕ) (cs : List Order) (a : Order) (b : Book) → a.term ≡ Least m → Walks s a b cs → (found : Option Order) → first_giving m a.left cs ≡ found → Q a b (made s a (least_parts a.left found cs))
  least_rule m cs a b t w None e = nil a b w.active
  least_rule m cs a b t w (Some o) e =
      let other = λ (x : Order). not (eqb x.number o.number) in
      let q = gives o.term o.left a.left in
      let found = giving_all (Meets s a b) m a.left cs w.met o e in
      let some : 1 ≤ q = omega (arith, found.1) in
      let g = gave o.term o.left a.left some in
      part_rule o (without o.number cs) (walk_rule (without o.number cs)) q a b
      (record { sound = w.sound; side = w.side; active = w.active; works = w.works; apart = distinct_kept number_of other cs w.apart; met = all_kept_by other (Meets s a b) cs w.met })
      (record { sound = w.sound; side = w.side; active = w.active; works = w.works; waiting = found.0; some = some; lesser = g.lesser; whole = g.whole; least = g.least; own = λ k e. let same : m ≡ k = cc in omega (arith, found.1) })
      (All-weaker (λ x. other x ≡ true) (λ x. x.number ≡ o.number → ⊥) (λ x t. eqb-false _ _ (not-true _ t)) (without o.number cs) (kept_by_passes other cs))

  pub parts_rule : (t : Term) (cs : List Order) (a : Order) (b : Book) → a.term ≡ t → Walks s a b cs → Q a b (made s a (parts t a.left cs))
  parts_rule Plain cs a b t w = walk_rule cs a b w (λ m u. grind arith)
  parts_rule All cs a b t w =
      cond_both (eqb (amount (walk a.left cs)) a.left) (walk a.left cs) [] (λ ps. Q a b (made s a ps))
      (λ _. walk_rule cs a b w (λ m u. grind arith)) (λ _. nil a b w.active)
  parts_rule (Least m) cs a b t w = least_rule m cs a b t w (first_giving m a.left cs) refl

-- ---- the candidates wait on the book
meets_of : (a : Order) (b : Book) (c : Order) → faces a c ≡ true → find c.number b ≡ Some c → Meets a.side a b c
meets_of a b c f l =
    let p = and_parts (working_opposite a.issue a.side c) (within a.side a.price c.price) f in
    let q = opposite_says a.issue a.side c p.0 in
    record { live = l; issue = q.issue; against = q.against; works = q.working; fits = p.1 }

pub walks_candidates : (a : Order) (b : Book) → Sound b → find a.number b ≡ Some a → a.working ≡ true → Walks a.side a b (candidates a b)
walks_candidates a b h l w =
    record {
      sound = h;
      side = refl;
      active = l;
      works = w;
      apart = distinct_in_rank ahead number_of (filter (faces a) b) (distinct_kept number_of (faces a) b (distinct_ascending b h.ascending));
      met = all_in_rank ahead (Meets a.side a b) (filter (faces a) b)
          (all_both {P = λ x. faces a x ≡ true} {Q = λ x. find x.number b ≡ Some x} {R = Meets a.side a b} (meets_of a b) (filter (faces a) b) (kept_by_passes (faces a) b)
          (all_kept_by (faces a) (λ x. find x.number b ≡ Some x) b (all_found b h.ascending)));
    }

-- ---- the trades of an attempt are fair
pub attempt_fair : (a : Order) (b : Book) → Sound b → find a.number b ≡ Some a → a.working ≡ true → AllFair (attempt a b) b
attempt_fair a b h l w =
    parts_rule a.side (λ _ b ts. AllFair ts b) (λ _ _ _. tt) (λ a c b q t _. (fair_one _ a c b q t, tt)) (λ a c b q ts t _ rest. (fair_one _ a c b q t, rest))
    a.term (candidates a b) a b refl (walks_candidates a b h l w)

-- ---- the attempt by number
pub attempt_working : (n : ℕ) (b : Book) (a : Order) → find n b ≡ Some a → a.working ≡ true → attempt_of n b ≡ attempt a b
attempt_working n b a e w = rw (e, w) refl

-- what holds of no trade and of a working order's attempt holds of every attempt
pub attempt_either : (P : List Trade → Type 0) (n : ℕ) (b : Book) → P [] → ((a : Order) → find a.number b ≡ Some a → a.working ≡ true → P (attempt a b)) → P (attempt_of n b)
attempt_either P n b none some = go (find n b) refl
  where
    go : (r : Option Order) → find n b ≡ r → P (if_working r b)
    go None e = none
    go (Some a) e = cond_both a.working (attempt a b) [] P (λ w. some a (ap (λ k. find k b) (found_number n b a e) ∙ e) w) (λ _. none)

pub fair_attempt : (n : ℕ) (b : Book) → Sound b → AllFair (attempt_of n b) b
fair_attempt n b h = attempt_either (λ ts. AllFair ts b) n b tt (λ a l w. attempt_fair a b h l w)

-- a table's live working order makes at most as many trades as orders end
pub attempt_few : (t : Table) (a : Order) → (find a.number (book_of t) ≡ Some a) × (a.working ≡ true) →
    length (attempt a (book_of t)) + length (after (attempt a (book_of t)) (book_of t)) ≤ length (book_of t)
attempt_few t a h = count_trades (attempt a (book_of t)) (book_of t) (attempt_fair a (book_of t) (sound_table t) h.0 h.1)
