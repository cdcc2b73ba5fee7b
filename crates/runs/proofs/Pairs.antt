-- What the register's movers do to held shares and to shares in all. Assumes nothing.
use Rattle.std.proofs.Common.{◌≡◌, ℕ, ◌+◌, ◌-◌, ◌≤◌, Bool, true, false, cond, ◌&&◌, eqb, ltb, leb, List, [], ◌∷◌, is_some, Some, None, Ok, Err, Option, sym, refl, ap, ◌∙◌, inl, inr, arith}
use Rattle.std.proofs.lemmas.Bool.{cases_Bool, le-leb, cond-true, cond_both, ltb-false, ltb-true, and_from, eq-eqb}
use Rattle.std.proofs.ByRecursion.{All-weaker}
use Rattle.std.specs.List.{AllByRecursion as EveryOne}
use Rattle.register.specs.declared.holding.Row.{Row}
use Rattle.register.specs.declared.fault.RegisterFault.TheVariants.{OverTotal}
use Rattle.register.specs.declared.movers.Move.{Move}
use Rattle.register.specs.declared.movers.Move.TheVariants.{Withdraw as Withdrawing, Hold, Release}
use Rattle.register.specs.Rules.{lawful, limit, balance_of, total_of, if_open, change, gain_free, figured, figures_after, with_figures, deposited, moved, after as rows_after}
use Rattle.register.specs.Laws.{Has, Done}
use Rattle.register.proofs.Changes.{movers_move_what_they_name}
use Rattle.orders.specs.declared.order.Order.{Order}
use Rattle.orders.specs.declared.order.Entry.{Entry}
use Rattle.orders.specs.declared.order.Side.{Side}
use Rattle.orders.specs.declared.order.Side.TheVariants.{Buy, Sell}
use Rattle.orders.specs.Book.{Book}
use Rattle.rules.specs.Refusals.{is_sell, free_in, too_few}
use Rattle.rules.specs.Market.{held_for, released_to, released_by, ended_rows, all_ended, covered, recovered}
use Rattle.rules.specs.Shares.{held_in, shares_in, same_pair, sells_of, backing}
use Rattle.rules.proofs.Settlements.{renamed, named, not_named, open_has, buy_backs, sell_backs}

-- From rs to ss: each pair has held shares `less` fewer and `more` more, shares in all `out` fewer and `into` more, and is open if it was.
pub record Moved (less more out into : ℕ → ℕ → ℕ) (rs ss : List Row) : Type 0 where
  pub held : (a i : ℕ) → held_in (balance_of a i ss) + less a i ≡ held_in (balance_of a i rs) + more a i
  pub shares : (a i : ℕ) → shares_in (balance_of a i ss) + out a i ≡ shares_in (balance_of a i rs) + into a i
  pub opened : (a i : ℕ) → is_some (balance_of a i ss) ≡ is_some (balance_of a i rs)
  pub rules : lawful ss ≡ true

-- nothing, and q at the pair (c, j)
abbrev pub none : ℕ → ℕ → ℕ
none a i = 0

abbrev pub at_pair : ℕ → ℕ → ℕ → ℕ → ℕ → ℕ
at_pair c j q a i = cond (same_pair c j a i) q 0

nothing_at : (c j a i : ℕ) → at_pair c j 0 a i ≡ 0
nothing_at c j a i = cond_both (same_pair c j a i) 0 0 (λ x. x ≡ 0) (λ _. refl) (λ _. refl)

pub stays : (rs : List Row) → lawful rs ≡ true → Moved none none none none rs rs
stays rs w = record { held = λ a i. refl; shares = λ a i. refl; opened = λ a i. refl; rules = w }

-- ---- a mover of one pair
one_pair : (c j f h f2 h2 sum : ℕ) (rs ss : List Row) → Has c j f h rs → Done c j f2 h2 sum rs ss → (l m o n : ℕ) → h2 + l ≡ h + m → (f2 + h2) + o ≡ (f + h) + n →
    Moved (at_pair c j l) (at_pair c j m) (at_pair c j o) (at_pair c j n) rs ss
one_pair c j f h f2 h2 sum rs ss has d l m o n eh es = record {
  held = λ a i. elim (cases_Bool (same_pair c j a i)) [
    | inl t ↦ let e = named c j a i t in
        let x : held_in (balance_of a i ss) ≡ h2 = ap held_in (renamed c a j i ss _ e.0 e.1 d.pair) in
        let y : held_in (balance_of a i rs) ≡ h = ap held_in (renamed c a j i rs _ e.0 e.1 has) in
        rw t (omega arith)
    | inr k ↦ let x = ap held_in (d.others a i (not_named c j a i k) (not_named c j a i k)) in rw k (omega arith)
  ];
  shares = λ a i. elim (cases_Bool (same_pair c j a i)) [
    | inl t ↦ let e = named c j a i t in
        let x : shares_in (balance_of a i ss) ≡ f2 + h2 = ap shares_in (renamed c a j i ss _ e.0 e.1 d.pair) in
        let y : shares_in (balance_of a i rs) ≡ f + h = ap shares_in (renamed c a j i rs _ e.0 e.1 has) in
        rw t (omega arith)
    | inr k ↦ let x = ap shares_in (d.others a i (not_named c j a i k) (not_named c j a i k)) in rw k (omega arith)
  ];
  opened = λ a i. elim (cases_Bool (same_pair c j a i)) [
    | inl t ↦ let e = named c j a i t in ap is_some (renamed c a j i ss _ e.0 e.1 d.pair) ∙ sym (ap is_some (renamed c a j i rs _ e.0 e.1 has))
    | inr k ↦ ap is_some (d.others a i (not_named c j a i k) (not_named c j a i k))
  ];
  rules = d.rules;
}

-- a move that its figures allow is done
move_done : (m : Move) (c j q f h f2 h2 : ℕ) (rs : List Row) → Has c j f h rs → figures_after m q f h ≡ Ok (f2, h2) → moved m c j q rs ≡ Ok (change c j (λ r. figured r f2 h2) rs)
move_done m c j q f h f2 h2 rs has e = ap (λ o. if_open o (λ free held. with_figures c j rs (figures_after m q free held))) has ∙ ap (with_figures c j rs) e

module _ (c j q : ℕ) (rs : List Row) (w : lawful rs ≡ true) (here : is_some (balance_of c j rs) ≡ true) where
  pub hold_moves : q ≤ free_in (balance_of c j rs) → Moved none (at_pair c j q) none none rs (held_for c j q rs)
  hold_moves enough =
      let p = open_has _ here in
      let le : q ≤ p.0.0 = (let x = ap free_in p.1 in omega arith) in
      let e = move_done Hold c j q p.0.0 p.0.1 (p.0.0 - q) (p.0.1 + q) rs p.1 (cond-true _ _ _ (le-leb _ _ le)) in
      let d = (movers_move_what_they_name rs w).holds c j q p.0.0 p.0.1 _ p.1 e in
      let m = one_pair c j p.0.0 p.0.1 _ _ _ rs _ p.1 d 0 q 0 0 (omega arith) (omega arith) in
      rw e (record { held = λ a i. omega (arith, m.held a i, nothing_at c j a i); shares = λ a i. omega (arith, m.shares a i, nothing_at c j a i); opened = m.opened; rules = m.rules })

  pub release_moves : q ≤ held_in (balance_of c j rs) → Moved (at_pair c j q) none none none rs (released_to c j q rs)
  release_moves enough =
      let p = open_has _ here in
      let le : q ≤ p.0.1 = (let x = ap held_in p.1 in omega arith) in
      let e = move_done Release c j q p.0.0 p.0.1 (p.0.0 + q) (p.0.1 - q) rs p.1 (cond-true _ _ _ (le-leb _ _ le)) in
      let d = (movers_move_what_they_name rs w).releases c j q p.0.0 p.0.1 _ p.1 e in
      let m = one_pair c j p.0.0 p.0.1 _ _ _ rs _ p.1 d q 0 0 0 (omega arith) (omega arith) in
      rw e (record { held = λ a i. omega (arith, m.held a i, nothing_at c j a i); shares = λ a i. omega (arith, m.shares a i, nothing_at c j a i); opened = m.opened; rules = m.rules })

  pub withdraw_moves : q ≤ free_in (balance_of c j rs) → Moved none none (at_pair c j q) none rs (rows_after rs (moved Withdrawing c j q rs))
  withdraw_moves enough =
      let p = open_has _ here in
      let le : q ≤ p.0.0 = (let x = ap free_in p.1 in omega arith) in
      let e = move_done Withdrawing c j q p.0.0 p.0.1 (p.0.0 - q) p.0.1 rs p.1 (cond-true _ _ _ (le-leb _ _ le)) in
      let d = (movers_move_what_they_name rs w).withdraws c j q p.0.0 p.0.1 _ p.1 e in
      let m = one_pair c j p.0.0 p.0.1 _ _ _ rs _ p.1 d 0 0 q 0 (omega arith) (omega arith) in
      rw e (record { held = λ a i. omega (arith, m.held a i, nothing_at c j a i); shares = λ a i. omega (arith, m.shares a i, nothing_at c j a i); opened = m.opened; rules = m.rules })

  pub deposit_moves : total_of j rs + q ≤ limit → Moved none none none (at_pair c j q) rs (rows_after rs (deposited c j q rs))
  deposit_moves room =
      let p = open_has _ here in
      let e : deposited c j q rs ≡ Ok (change c j (gain_free q) rs) =
      ap (λ o. if_open o (λ free held. cond (leb (total_of j rs + q) limit) (Ok (change c j (gain_free q) rs)) (Err OverTotal))) p.1 ∙ cond-true _ _ _ (le-leb _ _ room) in
      let d = (movers_move_what_they_name rs w).deposits c j q p.0.0 p.0.1 _ p.1 e in
      let m = one_pair c j p.0.0 p.0.1 _ _ _ rs _ p.1 d 0 0 0 q (omega arith) (omega arith) in
      rw e (record { held = λ a i. omega (arith, m.held a i, nothing_at c j a i); shares = λ a i. omega (arith, m.shares a i, nothing_at c j a i); opened = m.opened; rules = m.rules })

-- ---- orders
-- what of a pair's cover stands behind an order
abbrev pub behind : Option Order → ℕ → ℕ → ℕ
behind None a i = 0
behind (Some o) a i = cond (sells_of a i o) o.left 0

pub behind_buy : (o : Order) (a i : ℕ) → o.side ≡ Buy → behind (Some o) a i ≡ 0
behind_buy o a i e = ap (λ t. cond t o.left 0) (buy_backs a i o e)

pub behind_sell : (o : Order) (a i : ℕ) → o.side ≡ Sell → behind (Some o) a i ≡ at_pair o.account o.issue o.left a i
behind_sell o a i e = ap (λ t. cond t o.left 0) (sell_backs a i o e)

at_itself : (c j q : ℕ) → at_pair c j q c j ≡ q
at_itself c j q = cond-true (same_pair c j c j) q 0 (and_from (eqb c c) (eqb j j) (eq-eqb _ _ refl) (eq-eqb _ _ refl))

-- what the order ended has left is released
released_moves : (d : Side) (o : Order) (rs : List Row) → o.side ≡ d → lawful rs ≡ true → is_some (balance_of o.account o.issue rs) ≡ true → ((a i : ℕ) → behind (Some o) a i ≤ held_in (balance_of a i rs)) →
    Moved (behind (Some o)) none none none rs (released_by d o rs)
released_moves Buy o rs e w here enough = record { held = λ a i. omega (arith, behind_buy o a i e); shares = λ a i. refl; opened = λ a i. refl; rules = w }
released_moves Sell o rs e w here enough =
    let m = release_moves o.account o.issue o.left rs w here (omega (arith, enough o.account o.issue, behind_sell o o.account o.issue e, at_itself o.account o.issue o.left)) in
    record { held = λ a i. omega (arith, m.held a i, behind_sell o a i e); shares = m.shares; opened = m.opened; rules = m.rules }

pub ended_moves : (o : Option Order) (rs : List Row) → lawful rs ≡ true → ((x : Order) → o ≡ Some x → is_some (balance_of x.account x.issue rs) ≡ true) → ((a i : ℕ) → behind o a i ≤ held_in (balance_of a i rs)) →
    Moved (behind o) none none none rs (ended_rows o rs)
ended_moves None rs w here enough = stays rs w
ended_moves (Some o) rs w here enough = released_moves o.side o rs refl w (here o refl) enough

-- every order ends
pub all_ended_moves : (b : Book) (rs : List Row) → lawful rs ≡ true → EveryOne (λ o. is_some (balance_of o.account o.issue rs) ≡ true) b → ((a i : ℕ) → backing a i b ≤ held_in (balance_of a i rs)) →
    Moved (λ a i. backing a i b) none none none rs (all_ended b rs)
all_ended_moves [] rs w here enough = stays rs w
all_ended_moves (o ∷ os) rs w here enough =
    let one = released_moves o.side o rs refl w here.0 (λ a i. omega (arith, enough a i)) in
    let next = All-weaker (λ (x : Order). is_some (balance_of x.account x.issue rs) ≡ true) (λ (x : Order). is_some (balance_of x.account x.issue (released_by o.side o rs)) ≡ true)
    (λ x k. one.opened x.account x.issue ∙ k) os here.1 in
    let rest = all_ended_moves os (released_by o.side o rs) one.rules next (λ a i. omega (arith, enough a i, one.held a i)) in
    record { held = λ a i. omega (arith, one.held a i, rest.held a i); shares = λ a i. omega (arith, one.shares a i, rest.shares a i); opened = λ a i. rest.opened a i ∙ one.opened a i; rules = rest.rules }

-- an entry is covered
pub covered_moves : (d : Side) (e : Entry) (o : Order) (rs : List Row) → o.side ≡ d → o.account ≡ e.account → o.issue ≡ e.issue → o.left ≡ e.quantity → lawful rs ≡ true → is_some (balance_of e.account e.issue rs) ≡ true →
    (is_sell d && too_few e.account e.issue e.quantity rs) ≡ false → Moved none (behind (Some o)) none none rs (covered d e rs)
covered_moves Buy e o rs side ac is le w here enough = record { held = λ a i. omega (arith, behind_buy o a i side); shares = λ a i. refl; opened = λ a i. refl; rules = w }
covered_moves Sell e o rs side ac is le w here enough =
    let m = hold_moves e.account e.issue e.quantity rs w here (ltb-false _ _ enough) in
    let same : (a i : ℕ) → behind (Some o) a i ≡ at_pair e.account e.issue e.quantity a i = λ a i. behind_sell o a i side ∙ (rw (ac, is, le) refl) in
    record { held = λ a i. omega (arith, m.held a i, same a i); shares = m.shares; opened = m.opened; rules = m.rules }

-- an amended sell holds or releases the difference; p is the order as amended
at_more : (t : Bool) (left q : ℕ) → left ≤ q → cond t (q - left) 0 + cond t left 0 ≡ cond t q 0
at_more true left q h = omega arith
at_more false left q h = refl

recovered_sell : (o p : Order) (q : ℕ) (rs : List Row) → o.side ≡ Sell → p.side ≡ o.side → p.account ≡ o.account → p.issue ≡ o.issue → p.left ≡ q → lawful rs ≡ true → is_some (balance_of o.account o.issue rs) ≡ true →
    o.left ≤ held_in (balance_of o.account o.issue rs) → too_few o.account o.issue (q - o.left) rs ≡ false → Moved (behind (Some o)) (behind (Some p)) none none rs (recovered Sell o q rs)
recovered_sell o p q rs so sp ac ip lp w here cover enough =
    let c = o.account in
    let j = o.issue in
    let own : (a i : ℕ) → behind (Some o) a i ≡ at_pair c j o.left a i = λ a i. behind_sell o a i so in
    let new : (a i : ℕ) → behind (Some p) a i ≡ at_pair c j q a i = λ a i. behind_sell p a i (sp ∙ so) ∙ (rw (ac, ip, lp) refl) in
    cond_both (ltb o.left q) (held_for c j (q - o.left) rs) (released_to c j (o.left - q) rs) (Moved (behind (Some o)) (behind (Some p)) none none rs)
    (λ t.
    let m = hold_moves c j (q - o.left) rs w here (ltb-false _ _ enough) in
    record { held = λ a i. omega (arith, m.held a i, own a i, new a i, at_more (same_pair c j a i) o.left q (let l = ltb-true o.left q t in omega arith)); shares = m.shares; opened = m.opened; rules = m.rules })
    (λ f.
    let m = release_moves c j (o.left - q) rs w here (omega arith) in
    record { held = λ a i. omega (arith, m.held a i, own a i, new a i, at_more (same_pair c j a i) q o.left (ltb-false o.left q f)); shares = m.shares; opened = m.opened; rules = m.rules })

pub recovered_moves : (d : Side) (o p : Order) (q : ℕ) (rs : List Row) → o.side ≡ d → p.side ≡ o.side → p.account ≡ o.account → p.issue ≡ o.issue → p.left ≡ q → lawful rs ≡ true → is_some (balance_of o.account o.issue rs) ≡ true →
    ((a i : ℕ) → behind (Some o) a i ≤ held_in (balance_of a i rs)) → (is_sell d && too_few o.account o.issue (q - o.left) rs) ≡ false → Moved (behind (Some o)) (behind (Some p)) none none rs (recovered d o q rs)
recovered_moves Buy o p q rs so sp ac ip lp w here cover enough =
    record { held = λ a i. omega (arith, behind_buy o a i so, behind_buy p a i (sp ∙ so)); shares = λ a i. refl; opened = λ a i. refl; rules = w }
recovered_moves Sell o p q rs so sp ac ip lp w here cover enough =
    recovered_sell o p q rs so sp ac ip lp w here (omega (arith, cover o.account o.issue, behind_sell o o.account o.issue so, at_itself o.account o.issue o.left)) enough
