-- An order that a round makes active trades, rounds end, and the book is quiet after them.
use Rattle.std.proofs.Common.{◌≡◌, ℕ, zero, suc, ◌+◌, ◌-◌, ◌<◌, ◌≤◌, max, true, false, not, leb, List, [], ◌∷◌, ◌++◌, length, is_some, Some, None, filter, Option, sym, refl, ap, ◌∙◌, subst, inl, inr, arith, length-append}
use Rattle.std.proofs.lemmas.Bool.Decides.{nat_tests}
use Rattle.std.proofs.lemmas.Bool.{cond_both, cases_Bool, eq-eqb, and_from}
use Rattle.std.specs.Option.{option_or}
use Rattle.orders.specs.declared.order.Order.{Order}
use Rattle.orders.specs.declared.order.Trade.{Trade}
use Rattle.orders.specs.declared.order.Side.{Side}
use Rattle.orders.specs.declared.order.Side.TheVariants.{Buy, Sell}
use Rattle.orders.specs.declared.order.Term.{Term}
use Rattle.orders.specs.declared.order.Term.TheVariants.{Plain}
use Rattle.orders.specs.Orders.{Valid, opposed, within, special, plain_in}
use Rattle.orders.specs.Rank.{first_by, ahead, earlier}
use Rattle.orders.specs.Search.{In}
use Rattle.orders.specs.Book.{Book, find, after}
use Rattle.orders.specs.Laws.{Sound, AllFair}
use Rattle.orders.specs.Tape.{written, recorded}
use Rattle.orders.specs.Lists.{none_some, cond_either, all_in, in_kept, kept_in}
use Rattle.orders.proofs.Words.{PlainIn, plain_says}
use Rattle.orders.specs.Firsts.{first_none, first_tops}
use Rattle.orders.specs.Ranks.{ahead_ranks, earlier_ranks, buy_price, sell_price}
use Rattle.orders.specs.Ranking.{ranked_in}
use Rattle.orders.proofs.Changes.{in_found, distinct_ascending}
use Rattle.orders.proofs.Trades.{sound_after, count_trades, after_append}
use Rattle.orders.proofs.Tapes.{length_written, written_append, written_is}
use Rattle.matching.specs.Walk.{faces, candidates, gives, first_giving}
use Rattle.matching.specs.Attempt.{attempt, attempt_of}
use Rattle.matching.specs.Rounds.{best_plain, later, crossing, any_trade, ready, on_side, by_sides, first_ready, active_in, Rounds, rounds, all_rounds}
use Rattle.matching.specs.Laws.{PlainOrder, Quiet}
use Rattle.matching.proofs.Walking.{plain_trades}
use Rattle.matching.proofs.Fairness.{attempt_fair, attempt_working}

-- ---- the words and the tests of orders
pub same_side : (s : Side) → not (opposed s s) ≡ true
same_side Buy = refl
same_side Sell = refl

pub plain_test : (i : ℕ) (s : Side) (o : Order) → PlainOrder i s o → plain_in i s o ≡ true
plain_test i s o h = grind (arith, nat_tests)

pub not_plain : (t : Term) → (t ≡ Plain → ⊥) → special t ≡ true
not_plain t h = grind arith

pub none_in : (x : Order) (xs : List Order) → xs ≡ [] → In x xs → ⊥
none_in x xs e i = rw e at i

-- ---- the best plain orders
module _ (i : ℕ) (s : Side) (b : Book) where
  pub record Best (w : Order) : Type 0 where
    pub live : In w b
    pub plain : PlainIn i s w
    pub top : (x : Order) → In x b → plain_in i s x ≡ true → ahead x w ≡ false

  pub best_says : (w : Order) → best_plain i s b ≡ Some w → Best w
  best_says w e =
      let t = first_tops ahead_ranks (filter (plain_in i s) b) w e in
      let k = in_kept (plain_in i s) b w t.0 in
      record { live = k.0; plain = plain_says i s w k.1; top = λ x j p. t.1 x (kept_in (plain_in i s) b x j p) }

  best_none : best_plain i s b ≡ None → (x : Order) → In x b → PlainOrder i s x → ⊥
  best_none e x j p = none_in x (filter (plain_in i s) b) (first_none ahead (filter (plain_in i s) b) e) (kept_in (plain_in i s) b x j (plain_test i s x p))

-- ---- a book on which no order is active is quiet
or_none : {X : Type 0} (x y : Option X) → option_or x y ≡ None → (x ≡ None) × (y ≡ None)
or_none x y e = grind arith

pub no_cross : (i : ℕ) (b : Book) (v w : Option Order) → best_plain i Buy b ≡ v → best_plain i Sell b ≡ w → crossing v w ≡ None →
    (x y : Order) → In x b → In y b → PlainOrder i Buy x → PlainOrder i Sell y → x.price < y.price
no_cross i b None w ev ew e x y ix iy px py = absurd (best_none i Buy b ev x ix px)
no_cross i b (Some v) None ev ew e x y ix iy px py = absurd (best_none i Sell b ew y iy py)
no_cross i b (Some v) (Some w) ev ew e x y ix iy px py =
    let bv = best_says i Buy b v ev in
    let bw = best_says i Sell b w ew in
    let xv = buy_price x v px.side bv.plain.side (bv.top x ix (plain_test i Buy x px)) in
    let yw = sell_price y w py.side bw.plain.side (bw.top y iy (plain_test i Sell y py)) in
    grind (arith, nat_tests)

either_side : (rs : List Order) → filter (on_side Buy) rs ≡ [] → filter (on_side Sell) rs ≡ [] → rs ≡ []
either_side [] e f = refl
either_side (o ∷ os) e f = grind arith

none_first : (rs : List Order) (x y : Option Order) → first_by ahead (filter (on_side Buy) rs) ≡ x → first_by ahead (filter (on_side Sell) rs) ≡ y → by_sides x y (first_by earlier rs) ≡ None → rs ≡ []
none_first rs x y ex ey e =
    let buys = first_none ahead (filter (on_side Buy) rs) in
    let sells = first_none ahead (filter (on_side Sell) rs) in
    let all = first_none earlier rs in
    let none = either_side rs in
    grind arith

pub any_none : (ts : List Trade) → any_trade ts ≡ false → ts ≡ []
any_none ts e = grind arith

pub quiet_from_none : (i : ℕ) (b : Book) → active_in i b ≡ None → Quiet i b
quiet_from_none i b e =
    let p = or_none (crossing (best_plain i Buy b) (best_plain i Sell b)) (first_ready (filter (ready i b) b)) e in
    let none = none_first (filter (ready i b) b) _ _ refl refl p.1 in
    record {
      no_cross = no_cross i b _ _ refl refl p.0;
      none_ready = λ o j is w k. elim (cases_Bool (any_trade (attempt o b))) [
        | inl t ↦ absurd (none_in o (filter (ready i b) b) none (kept_in (ready i b) b o j (and_from _ _ (and_from _ _ (eq-eqb _ _ is) (and_from _ _ (not_plain o.term k) w)) t)))
        | inr f ↦ any_none (attempt o b) f
      ];
    }

-- ---- the order that a round makes active is a live working order of the issue, and its attempt trades
pub record Acts (i : ℕ) (b : Book) (a : Order) : Type 0 where
  pub live : In a b
  pub trades : any_trade (attempt a b) ≡ true
  pub works : a.working ≡ true
  pub issue : a.issue ≡ i

giving_some : (m w : ℕ) (os : List Order) (c : Order) → In c os → max m 1 ≤ gives c.term c.left w → is_some (first_giving m w os) ≡ true
giving_some m w [] c i h = absurd i
giving_some m w (x ∷ os) c i h = let ih = giving_some m w os c in grind (arith, nat_tests)

-- two plain orders that meet
facing_trades : (i : ℕ) (s u : Side) (a c : Order) (b : Book) → Sound b → Best i s b a → Best i u b c → opposed s u ≡ true → within s a.price c.price ≡ true → Acts i b a
facing_trades i s u a c b h ba bc ne fits =
    let pa = ba.plain in
    let pc = bc.plain in
    let la = (all_in Valid b h.valid a ba.live).some in
    let lc = (all_in Valid b h.valid c bc.live).some in
    let meet : faces a c ≡ true =
    and_from _ _ (and_from _ _ (eq-eqb _ _ (pc.issue ∙ sym pa.issue)) (and_from _ _ (rw (pa.side, pc.side) ne) pc.working)) (rw pa.side fits) in
    let here : In c (candidates a b) = ranked_in ahead (filter (faces a) b) c (kept_in (faces a) b c bc.live meet) in
    let some : max 1 1 ≤ gives c.term c.left a.left = subst (λ t. max 1 1 ≤ gives t c.left a.left) (sym pc.plain) (omega arith) in
    record { live = ba.live; trades = sym (plain_trades a (candidates a b) pa.plain) ∙ giving_some 1 a.left (candidates a b) c here some; works = pa.working; issue = pa.issue }

crossing_acts : (i : ℕ) (b : Book) → Sound b → (x y : Option Order) → best_plain i Buy b ≡ x → best_plain i Sell b ≡ y → (a : Order) → crossing x y ≡ Some a → Acts i b a
crossing_acts i b s None y ex ey a e = none_some a e
crossing_acts i b s (Some x) None ex ey a e = none_some a e
crossing_acts i b s (Some x) (Some y) ex ey a e =
    let bx = best_says i Buy b x ex in
    let by = best_says i Sell b y ey in
    cond_either (leb y.price x.price) (Some (later x y)) None (λ o. o ≡ Some a) e
    (λ t k. let is : later x y ≡ a = cc in subst (Acts i b) is (cond_both (earlier x y) y x (Acts i b) (λ _. facing_trades i Sell Buy y x b s by bx refl t) (λ _. facing_trades i Buy Sell x y b s bx by refl t)))
    (λ _ k. none_some a k)

first_ready_in : (rs : List Order) (a : Order) → first_ready rs ≡ Some a → In a rs
first_ready_in rs a e =
    let buy = λ (k : first_by ahead (filter (on_side Buy) rs) ≡ Some a). (in_kept (on_side Buy) rs a (first_tops ahead_ranks (filter (on_side Buy) rs) a k).0).0 in
    let sell = λ (k : first_by ahead (filter (on_side Sell) rs) ≡ Some a). (in_kept (on_side Sell) rs a (first_tops ahead_ranks (filter (on_side Sell) rs) a k).0).0 in
    let both = λ (k : first_by earlier rs ≡ Some a). (first_tops earlier_ranks rs a k).0 in
    grind arith

ready_acts : (i : ℕ) (b : Book) (o : Order) → In o (filter (ready i b) b) → Acts i b o
ready_acts i b o j =
    let k = in_kept (ready i b) b o j in
    record { live = k.0; trades = grind (arith, nat_tests); works = grind (arith, nat_tests); issue = grind (arith, nat_tests) }

pub or_some : {X A : Type 0} (x y : Option X) (a : X) → option_or x y ≡ Some a → (x ≡ Some a → A) → (y ≡ Some a → A) → A
or_some x y a e f g = grind arith

pub active_acts : (i : ℕ) (b : Book) → Sound b → (a : Order) → active_in i b ≡ Some a → Acts i b a
active_acts i b s a e =
    or_some (crossing (best_plain i Buy b) (best_plain i Sell b)) (first_ready (filter (ready i b) b)) a e
    (crossing_acts i b s _ _ refl refl a)
    (λ k. ready_acts i b a (first_ready_in (filter (ready i b) b) a k))

pub live_found : (b : Book) → Sound b → (a : Order) → In a b → find a.number b ≡ Some a
live_found b s a i = in_found b (distinct_ascending b s.ascending) a i

any_length : (ts : List Trade) → any_trade ts ≡ true → 1 ≤ length ts
any_length [] e = grind arith
any_length (t ∷ ts) e = omega arith

-- what one round does
pub record OneRound (b : Book) (a : Order) : Type 0 where
  pub same : attempt_of a.number b ≡ attempt a b
  pub fair : AllFair (attempt a b) b
  pub some : 1 ≤ length (attempt a b)
  pub fewer : length (attempt a b) + length (after (attempt a b) b) ≤ length b

pub one_round : (i : ℕ) (b : Book) (a : Order) → Sound b → active_in i b ≡ Some a → OneRound b a
one_round i b a s e =
    let acts = active_acts i b s a e in
    let found = live_found b s a acts.live in
    let fair = attempt_fair a b s found acts.works in
    record { same = attempt_working a.number b a found acts.works; fair = fair; some = any_length (attempt a b) acts.trades; fewer = count_trades (attempt a b) b fair }

-- ---- rounds end
pub rounds_none : (k i : ℕ) (b : Book) → active_in i b ≡ None → rounds k i b ≡ record { trades = []; count = 0 }
rounds_none zero i b e = refl
rounds_none (suc k) i b e = rw e refl

pub rounds_some : (k i : ℕ) (b : Book) (a : Order) → active_in i b ≡ Some a →
    rounds (suc k) i b ≡ record { trades = attempt a b ++ (rounds k i (after (attempt a b) b)).trades; count = suc (rounds k i (after (attempt a b) b)).count }
rounds_some k i b a e = rw e refl

-- after some rounds: what the rounds that are left give, all rounds give
pub record Stands (i : ℕ) (b₀ b : Book) (tape₀ tape : List Trade) (end count : ℕ) : Type 0 where
  pub sound : Sound b
  pub room : end + length b ≤ length tape
  pub traded : end + length b ≤ length b₀
  pub each : count ≤ end
  pub on_tape : written end (rounds (length b₀ - count) i b).trades tape ≡ written 0 (all_rounds i b₀).trades tape₀
  pub ends : end + length (rounds (length b₀ - count) i b).trades ≡ length (all_rounds i b₀).trades
  pub counts : count + (rounds (length b₀ - count) i b).count ≡ (all_rounds i b₀).count
  pub books : after (rounds (length b₀ - count) i b).trades b ≡ after (all_rounds i b₀).trades b₀

pub stands_start : (i : ℕ) (b : Book) (tape : List Trade) → Sound b → length b ≤ length tape → Stands i b b tape tape 0 0
stands_start i b tape s h =
    let z : length b - 0 ≡ length b = omega arith in
    record {
      sound = s;
      room = omega (arith, h);
      traded = omega arith;
      each = omega arith;
      on_tape = ap (λ k. written 0 (rounds k i b).trades tape) z;
      ends = let y = ap (λ k. length (rounds k i b).trades) z in omega arith;
      counts = let y = ap (λ k. (rounds k i b).count) z in omega arith;
      books = ap (λ k. after (rounds k i b).trades b) z;
    }

pub stands_turn : (i : ℕ) (b₀ b b' : Book) (tape₀ tape tape' : List Trade) (end end' count n : ℕ) (a : Order) → Stands i b₀ b tape₀ tape end count → active_in i b ≡ Some a →
    tape' ≡ recorded end (attempt_of a.number b) tape → n ≡ length (attempt_of a.number b) → end' ≡ end + n → b' ≡ after (attempt_of a.number b) b →
    Stands i b₀ b' tape₀ tape' end' (count + 1)
stands_turn i b₀ b b' tape₀ tape tape' end end' count n a h e et en ee eb =
    let one = one_round i b a h.sound e in
    let ts = attempt a b in
    let k = length b₀ - (count + 1) in
    let more : length b₀ - count ≡ suc k = omega (arith, h.traded, h.each, one.some, one.fewer) in
    let us = (rounds k i (after ts b)).trades in
    let step = ap (λ j. rounds j i b) more ∙ rounds_some k i b a e in
    let st : (rounds (length b₀ - count) i b).trades ≡ ts ++ us = ap (λ (r : Rounds). r.trades) step in
    let sc : (rounds (length b₀ - count) i b).count ≡ suc (rounds k i (after ts b)).count = ap (λ (r : Rounds). r.count) step in
    let eb' : b' ≡ after ts b = eb ∙ ap (λ l. after l b) one.same in
    let ee' : end' ≡ end + length ts = omega (arith, ee, en, ap length one.same) in
    let et' : tape' ≡ written end ts tape = et ∙ ap (λ l. recorded end l tape) one.same ∙ sym (written_is end ts tape (omega (arith, h.room, one.fewer))) in
    let el = ap length et' ∙ length_written end ts tape in
    let shorter = ap length eb' in
    record {
      sound = subst Sound (sym eb') (sound_after ts b h.sound);
      room = omega (arith, h.room, one.fewer);
      traded = omega (arith, h.traded, one.fewer);
      each = omega (arith, h.each, one.some);
      on_tape =
          ap (λ c. written end' (rounds k i c).trades tape') eb' ∙ ap (written end' us) et' ∙ ap (λ z. written z us (written end ts tape)) ee'
          ∙ sym (ap (λ l. written end l tape) st ∙ written_append end ts us tape) ∙ h.on_tape;
      ends =
          let l = ap length st in
          let m = length-append ts us in
          let o = ap (λ c. length (rounds k i c).trades) eb' in
          omega (arith, h.ends);
      counts = let o = ap (λ c. (rounds k i c).count) eb' in omega (arith, h.counts);
      books = ap (λ c. after (rounds k i c).trades c) eb' ∙ sym (ap (λ z. after z b) st ∙ after_append ts us b) ∙ h.books;
    }

pub record Ended (i : ℕ) (b₀ b : Book) (tape₀ tape : List Trade) (end count : ℕ) : Type 0 where
  pub on_tape : tape ≡ recorded 0 (all_rounds i b₀).trades tape₀
  pub ends : end ≡ length (all_rounds i b₀).trades
  pub counts : count ≡ (all_rounds i b₀).count
  pub books : b ≡ after (all_rounds i b₀).trades b₀
  pub quiet : Quiet i b

pub stands_end : (i : ℕ) (b₀ b : Book) (tape₀ tape : List Trade) (end count : ℕ) → Stands i b₀ b tape₀ tape end count → length tape ≡ length tape₀ → active_in i b ≡ None → Ended i b₀ b tape₀ tape end count
stands_end i b₀ b tape₀ tape end count h l e =
    let stop = rounds_none (length b₀ - count) i b e in
    let st : (rounds (length b₀ - count) i b).trades ≡ [] = ap (λ (r : Rounds). r.trades) stop in
    let sc : (rounds (length b₀ - count) i b).count ≡ 0 = ap (λ (r : Rounds). r.count) stop in
    let ends : end ≡ length (all_rounds i b₀).trades = (let m = ap length st in omega (arith, h.ends)) in
    record {
      on_tape = sym (ap (λ ts. written end ts tape) st) ∙ h.on_tape ∙ written_is 0 (all_rounds i b₀).trades tape₀ (omega (arith, h.room));
      ends = ends;
      counts = omega (arith, h.counts);
      books = sym (ap (λ z. after z b) st) ∙ h.books;
      quiet = quiet_from_none i b e;
    }
