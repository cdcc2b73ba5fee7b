-- Fair trades over a covered register are settled in full. Assumes nothing.
use Rattle.std.proofs.Common.{◌≡◌, ℕ, ◌+◌, ◌-◌, ◌≤◌, Bool, true, false, cond, ◌&&◌, eqb, leb, List, [], ◌∷◌, is_some, Some, None, Ok, Err, Option, sym, refl, ap, ◌∙◌, subst, inl, inr, arith}
use Rattle.std.specs.List.{AllByRecursion as EveryOne}
use Rattle.std.proofs.lemmas.Bool.{cases_Bool, and_parts, and_from, eq-eqb, eqb-true, le-leb, cond-true, cond-false, both_ways}
use Rattle.std.proofs.lemmas.Bool.Decides.{nat_tests}
use Rattle.register.specs.declared.holding.Row.{Row}
use Rattle.register.specs.declared.fault.RegisterFault.TheVariants.{ShortHeld}
use Rattle.register.specs.Rules.{lawful, balance_of, if_open, change, gain_free, lose_held, settled, after as rows_after}
use Rattle.register.specs.Laws.{Has, Settlement}
use Rattle.register.proofs.Changes.{movers_move_what_they_name}
use Rattle.orders.specs.declared.order.Order.{Order}
use Rattle.orders.specs.declared.order.Trade.{Trade}
use Rattle.orders.specs.declared.order.Side.TheVariants.{Buy, Sell}
use Rattle.orders.specs.Book.{Book, find, lowered, if_left, reduced, after_trade}
use Rattle.orders.specs.Laws.{Fair}
use Rattle.orders.specs.Lists.{none_some}
use Rattle.orders.proofs.Changes.{found_all}
use Rattle.orders.proofs.Trades.{find_other, two_orders, all_reduced}
use Rattle.rules.specs.Refusals.{is_sell, is_open}
use Rattle.rules.specs.Shares.{held_in, shares_in, same_pair, sells_of, backing, Covered, TradesSettle}

-- ---- one pair before and after: `out` leaves its held shares, `into` joins its free ones
record Moves (o n : Option (ℕ × ℕ)) (out into : ℕ) : Type 0 where
  held : held_in n + out ≡ held_in o
  shares : shares_in n + out ≡ shares_in o + into
  opened : is_some n ≡ is_some o

moves_from : (o n : Option (ℕ × ℕ)) (f h g k out into : ℕ) → o ≡ Some (f, h) → n ≡ Some (g, k) → k + out ≡ h → g + k + out ≡ f + h + into → Moves o n out into
moves_from o n f h g k out into eo en a b = record {
  held = let x : held_in n ≡ k = ap held_in en in let y : held_in o ≡ h = ap held_in eo in omega arith;
  shares = let x : shares_in n ≡ g + k = ap shares_in en in let y : shares_in o ≡ f + h = ap shares_in eo in omega arith;
  opened = ap is_some en ∙ sym (ap is_some eo);
}

moves_none : (o n : Option (ℕ × ℕ)) → n ≡ o → Moves o n 0 0
moves_none o n e = record {
  held = let x : held_in n ≡ held_in o = ap held_in e in omega arith;
  shares = let x : shares_in n ≡ shares_in o = ap shares_in e in omega arith;
  opened = ap is_some e;
}

pub renamed : (s c i j : ℕ) (rs : List Row) (o : Option (ℕ × ℕ)) → s ≡ c → i ≡ j → balance_of s i rs ≡ o → balance_of c j rs ≡ o
renamed s c i j rs o e f h = ap (λ x. balance_of x j rs) (sym e) ∙ ap (λ y. balance_of s y rs) (sym f) ∙ h

pub named : (c j a i : ℕ) → same_pair c j a i ≡ true → (c ≡ a) × (j ≡ i)
named c j a i t = let p = and_parts (eqb c a) (eqb j i) t in (eqb-true _ _ p.0, eqb-true _ _ p.1)

pub not_named : (c j a i : ℕ) → same_pair c j a i ≡ false → a ≡ c → i ≡ j → ⊥
not_named c j a i f e g = both_ways (same_pair c j a i) f (and_from _ _ (eq-eqb c a (sym e)) (eq-eqb j i (sym g)))

module _ (s b i q : ℕ) (old new : List Row) (st : Settlement s b i q old new) (fs hs fb hb : ℕ) (ps : Has s i fs hs old) (pb : Has b i fb hb old) where
  pair_moves : (c j : ℕ) → Moves (balance_of c j old) (balance_of c j new) (cond (same_pair s i c j) q 0) (cond (same_pair b i c j) q 0)
  pair_moves c j =
      let l = st.covered fs hs ps in
      elim (cases_Bool (same_pair s i c j)) [
        | inl t ↦
            let e = named s i c j t in
            elim (cases_Bool (same_pair b i c j)) [
              | inl u ↦
                  let same : s ≡ b = e.0 ∙ sym (named b i c j u).0 in
                  rw (t, u) (moves_from _ _ fs hs (fs + q) (hs - q) q q (renamed s c i j old _ e.0 e.1 ps) (renamed s c i j new _ e.0 e.1 (st.one_account fs hs same ps)) (omega arith) (omega arith))
              | inr g ↦
                  rw (t, g) (moves_from _ _ fs hs fs (hs - q) q 0 (renamed s c i j old _ e.0 e.1 ps) (renamed s c i j new _ e.0 e.1 (st.seller fs hs (λ k. not_named b i c j g (sym e.0 ∙ k) (sym e.1)) ps)) (omega arith) (omega arith))
            ]
        | inr f ↦ elim (cases_Bool (same_pair b i c j)) [
          | inl u ↦
              let e = named b i c j u in
              rw (f, u) (moves_from _ _ fb hb (fb + q) hb 0 q (renamed b c i j old _ e.0 e.1 pb) (renamed b c i j new _ e.0 e.1 (st.buyer fb hb (λ k. not_named s i c j f (sym e.0 ∙ sym k) (sym e.1)) pb)) (omega arith) (omega arith))
          | inr g ↦ rw (f, g) (moves_none _ _ (st.others c j (not_named s i c j f) (not_named b i c j g)))
        ]
      ]

-- a pair that is open has shares
pub open_has : (o : Option (ℕ × ℕ)) → is_some o ≡ true → (p : ℕ × ℕ) × (o ≡ Some p)
open_has None e = absurd cc
open_has (Some p) e = (p, refl)

settles : (s b i q : ℕ) (rs : List Row) (fs hs fb hb : ℕ) → Has s i fs hs rs → Has b i fb hb rs → q ≤ hs → settled s b i q rs ≡ Ok (change b i (gain_free q) (change s i (lose_held q) rs))
settles s b i q rs fs hs fb hb ps pb l =
    ap (λ o. if_open o (λ _ held. if_open (balance_of b i rs) (λ _ _. cond (leb q held) (Ok (change b i (gain_free q) (change s i (lose_held q) rs))) (Err ShortHeld)))) ps
    ∙ ap (λ o. if_open o (λ _ _. cond (leb q hs) (Ok (change b i (gain_free q) (change s i (lose_held q) rs))) (Err ShortHeld))) pb
    ∙ cond-true _ _ _ (le-leb q hs l)

-- ---- what a trade takes from the shares behind the live sells
backing_reduced : (a i n q : ℕ) (b : Book) (o : Order) → find n b ≡ Some o → q ≤ o.left → backing a i (reduced n q b) + cond (sells_of a i o) q 0 ≡ backing a i b
backing_reduced a i n q [] o e l = none_some o e
backing_reduced a i n q (x ∷ b) o e l =
    elim (cases_Bool (eqb x.number n)) [
      | inl t ↦
          let is : Some x ≡ Some o = sym (cond-true _ _ _ t) ∙ e in
          let same : x ≡ o = cc in
          ap (λ c. backing a i c + cond (sells_of a i o) q 0) (cond-true (eqb x.number n) (if_left (lowered q x) b) (x ∷ reduced n q b) t)
          ∙ ap (λ (y : Order). backing a i (if_left (lowered q y) b) + cond (sells_of a i o) q 0) same
          ∙ here o.left l (sells_of a i o) (backing a i b) (cases o)
          ∙ ap (λ (y : Order). cond (sells_of a i y) y.left 0 + backing a i b) (sym same)
      | inr f ↦
          let ih = backing_reduced a i n q b o (sym (cond-false (eqb x.number n) (Some x) (find n b) f) ∙ e) l in
          ap (λ c. backing a i c + cond (sells_of a i o) q 0) (cond-false (eqb x.number n) (if_left (lowered q x) b) (x ∷ reduced n q b) f) ∙ omega arith
    ]
  where
    cases : (o : Order) → backing a i (if_left (lowered q o) b) ≡ cond (eqb (o.left - q) 0) (backing a i b) (cond (sells_of a i o) (o.left - q) 0 + backing a i b)
    cases o = elim (cases_Bool (eqb (o.left - q) 0)) [
      | inl t ↦ ap (backing a i) (cond-true (eqb (o.left - q) 0) b (lowered q o ∷ b) t) ∙ sym (cond-true (eqb (o.left - q) 0) (backing a i b) (cond (sells_of a i o) (o.left - q) 0 + backing a i b) t)
      | inr f ↦ ap (backing a i) (cond-false (eqb (o.left - q) 0) b (lowered q o ∷ b) f) ∙ sym (cond-false (eqb (o.left - q) 0) (backing a i b) (cond (sells_of a i o) (o.left - q) 0 + backing a i b) f)
    ]

    here : (left : ℕ) → q ≤ left → (v : Bool) (rest : ℕ) {c : ℕ} → c ≡ cond (eqb (left - q) 0) rest (cond v (left - q) 0 + rest) → c + cond v q 0 ≡ cond v left 0 + rest
    here left l v rest e = grind (arith, nat_tests)

-- a buy stands behind nothing
pub buy_backs : (a i : ℕ) (o : Order) → o.side ≡ Buy → sells_of a i o ≡ false
buy_backs a i o e = ap (λ s. is_sell s && same_pair o.account o.issue a i) e

pub sell_backs : (a i : ℕ) (o : Order) → o.side ≡ Sell → sells_of a i o ≡ same_pair o.account o.issue a i
sell_backs a i o e = ap (λ s. is_sell s && same_pair o.account o.issue a i) e

-- ---- one trade
all_so : (P Q : Order → Type 0) → ((o : Order) → P o → Q o) → (b : Book) → EveryOne P b → EveryOne Q b
all_so P Q f [] h = tt
all_so P Q f (o ∷ os) h = (f o h.0, all_so P Q f os h.1)

-- the rows after one trade
abbrev settled_one : Trade → List Row → List Row
settled_one t rs = rows_after rs (settled t.seller t.buyer t.issue t.quantity rs)

record One (extra : ℕ → ℕ → ℕ) (t : Trade) (b : Book) (rs new : List Row) : Type 0 where
  rules : lawful new ≡ true
  covered : Covered extra (after_trade t b) new
  moves : (a i : ℕ) → Moves (balance_of a i rs) (balance_of a i new) (cond (same_pair t.seller t.issue a i) t.quantity 0) (cond (same_pair t.buyer t.issue a i) t.quantity 0)

module _ (extra : ℕ → ℕ → ℕ) (t : Trade) (b : Book) (rs : List Row) (w : lawful rs ≡ true) (f : Fair t b) (cov : Covered extra b rs) where
  abbrev q : ℕ
  q = t.quantity

  less_sell : q ≤ f.sell.left
  less_sell = let l = f.lesser in omega arith

  less_buy : q ≤ f.buy.left
  less_buy = let l = f.lesser in omega arith

  seller_open : is_some (balance_of t.seller t.issue rs) ≡ true
  seller_open =
      ap (λ a. is_some (balance_of a t.issue rs)) f.seller
      ∙ ap (λ i. is_some (balance_of f.sell.account i rs)) (sym f.sell_issue)
      ∙ found_all (λ o. is_open o.account o.issue rs ≡ true) t.sell b f.sell cov.pairs f.sell_live

  buyer_open : is_some (balance_of t.buyer t.issue rs) ≡ true
  buyer_open =
      ap (λ a. is_some (balance_of a t.issue rs)) f.buyer
      ∙ ap (λ i. is_some (balance_of f.buy.account i rs)) (sym f.buy_issue)
      ∙ found_all (λ o. is_open o.account o.issue rs ≡ true) t.buy b f.buy cov.pairs f.buy_live

  sells_is : (a i : ℕ) → sells_of a i f.sell ≡ same_pair t.seller t.issue a i
  sells_is a i = sell_backs a i f.sell f.sells ∙ ap (λ c. same_pair c f.sell.issue a i) (sym f.seller) ∙ ap (λ j. same_pair t.seller j a i) f.sell_issue

  backing_after : (a i : ℕ) → backing a i (after_trade t b) + cond (same_pair t.seller t.issue a i) q 0 ≡ backing a i b
  backing_after a i =
      let one = backing_reduced a i t.sell q b f.sell f.sell_live less_sell in
      let found = find_other t.buy t.sell q b (two_orders t b f) ∙ f.buy_live in
      let two = backing_reduced a i t.buy q (reduced t.sell q b) f.buy found less_buy in
      let none = ap (λ v. cond v q 0) (buy_backs a i f.buy f.buys) in
      let some = ap (λ v. cond v q 0) (sells_is a i) in
      omega arith

  -- the sell's own cover
  enough : (p : ℕ × ℕ) → balance_of t.seller t.issue rs ≡ Some p → q ≤ p.1
  enough p e =
      let h = cov.held t.seller t.issue in
      let x : held_in (balance_of t.seller t.issue rs) ≡ p.1 = ap held_in e in
      let own = and_from (eqb t.seller t.seller) (eqb t.issue t.issue) (eq-eqb _ _ refl) (eq-eqb _ _ refl) in
      let s = backing_after t.seller t.issue in
      let c = cond-true (same_pair t.seller t.issue t.seller t.issue) q 0 own in
      omega arith

  one_trade : One extra t b rs (settled_one t rs)
  one_trade =
      let ps = open_has _ seller_open in
      let pb = open_has _ buyer_open in
      let l = enough ps.0 ps.1 in
      let new : List Row = change t.buyer t.issue (gain_free q) (change t.seller t.issue (lose_held q) rs) in
      let e = settles t.seller t.buyer t.issue q rs ps.0.0 ps.0.1 pb.0.0 pb.0.1 ps.1 pb.1 l in
      let st = (movers_move_what_they_name rs w).settles t.seller t.buyer t.issue q new e in
      let moves = pair_moves t.seller t.buyer t.issue q rs new st ps.0.0 ps.0.1 pb.0.0 pb.0.1 ps.1 pb.1 in
      let kept : (o : Order) → is_open o.account o.issue rs ≡ true → is_open o.account o.issue new ≡ true = λ o h. (moves o.account o.issue).opened ∙ h in
      let pairs = all_so (λ o. is_open o.account o.issue rs ≡ true) (λ o. is_open o.account o.issue new ≡ true) kept b cov.pairs in
      subst (One extra t b rs) (sym (ap (rows_after rs) e)) (record {
        rules = st.rules;
        covered = record {
          pairs = all_reduced (λ o. is_open o.account o.issue new ≡ true) t.buy q (reduced t.sell q b) (λ o _ h. h) (all_reduced (λ o. is_open o.account o.issue new ≡ true) t.sell q b (λ o _ h. h) pairs);
          held = λ a i. let m = (moves a i).held in let h = cov.held a i in let s = backing_after a i in omega arith;
        };
        moves = moves;
      })

-- ---- all trades
pub trades_settle : TradesSettle
trades_settle extra [] b rs w fair cov = record { covered = cov; shares = λ a i. refl; opened = λ a i. refl }
trades_settle extra (t ∷ ts) b rs w fair cov =
    let one = one_trade extra t b rs w fair.0 cov in
    let rest = trades_settle extra ts (after_trade t b) (settled_one t rs) one.rules fair.1 one.covered in
    record {
      covered = rest.covered;
      shares = λ a i. let m = (one.moves a i).shares in let r = rest.shares a i in omega arith;
      opened = λ a i. rest.opened a i ∙ (one.moves a i).opened;
    }
