-- What a mover does to balances and totals. Assumes nothing.
use Rattle.std.proofs.Common.{◌≡◌, ℕ, suc, ◌+◌, ◌-◌, ◌≤◌, true, false, cond, leb, List, [], ◌∷◌, get_or, set, Some, None, Ok, Err, Option, sym, refl, ap, ◌∙◌, subst, ⊎_elim, arith}
use Rattle.std.specs.Option.{option_map}
use Rattle.std.proofs.lemmas.Bool.{cond-true, cond-false, cases_Bool, cases_eq, leb-true}
use Rattle.std.proofs.lemmas.List.Sums.{sum_by-set}
use Rattle.register.specs.declared.holding.Row.{Row}
use Rattle.register.specs.declared.fault.RegisterFault.{RegisterFault}
use Rattle.register.specs.declared.movers.Move.{Move}
use Rattle.register.specs.declared.movers.Move.TheVariants.{Withdraw, Hold, Release}
use Rattle.register.specs.Places.{no_row, Placed}
use Rattle.register.specs.Rules.{limit, lawful, names, balance_of, total_of, shares, Moved, figured, change, gain_free, lose_held, if_open, figures_after, with_figures, deposited, moved, settled}
use Rattle.register.specs.Laws.{Has, Done, Settlement, MoversMoveWhatTheyName}
use Rattle.register.proofs.Places.{named, balance_at, balance_le, lawful_ascending, placed_change, placed_le, placed_total, shares_other, total_le}
use Rattle.register.proofs.Sets.{lawful_set}

-- new shares for a pair, from those that it has
abbrev pub Shares : Type 0
Shares = ℕ × ℕ → ℕ × ℕ

abbrev pub reshared : Shares → Row → Row
reshared f r = figured r (f (r.free, r.held)).0 (f (r.free, r.held)).1

balance_same : (f : Shares) (a i : ℕ) (rs : List Row) → balance_of a i (change a i (reshared f) rs) ≡ option_map f (balance_of a i rs)
balance_same f a i [] = refl
balance_same f a i (r ∷ rs) = ⊎_elim
    (λ (t : names a i r ≡ true).
    ap (λ (x : Row). cond (names a i x) (Some (x.free, x.held)) (balance_of a i (change a i (reshared f) rs))) (cond-true (names a i r) (reshared f r) r t)
    ∙ cond-true _ _ _ t
    ∙ ap (option_map f) (sym (cond-true (names a i r) (Some (r.free, r.held)) (balance_of a i rs) t)))
    (λ (t : names a i r ≡ false).
    ap (λ (x : Row). cond (names a i x) (Some (x.free, x.held)) (balance_of a i (change a i (reshared f) rs))) (cond-false (names a i r) (reshared f r) r t)
    ∙ cond-false _ _ _ t
    ∙ balance_same f a i rs
    ∙ ap (option_map f) (sym (cond-false (names a i r) (Some (r.free, r.held)) (balance_of a i rs) t)))
    (cases_Bool (names a i r))

balance_other : (f : Shares) (a i b j : ℕ) → (b ≡ a → j ≡ i → ⊥) → (rs : List Row) → balance_of b j (change a i (reshared f) rs) ≡ balance_of b j rs
balance_other f a i b j n [] = refl
balance_other f a i b j n (r ∷ rs) = ⊎_elim
    (λ (t : names a i r ≡ true).
    let u : names b j r ≡ false = ⊎_elim
    (λ (u : names b j r ≡ true). let x = named a i r t in let y = named b j r u in absurd (n (sym y.0 ∙ x.0) (sym y.1 ∙ x.1)))
    (λ u. u)
    (cases_Bool (names b j r)) in
    ap (λ (x : Row). cond (names b j x) (Some (x.free, x.held)) (balance_of b j (change a i (reshared f) rs))) (cond-true (names a i r) (reshared f r) r t)
    ∙ cond-false _ _ _ u
    ∙ balance_other f a i b j n rs
    ∙ sym (cond-false (names b j r) (Some (r.free, r.held)) (balance_of b j rs) u))
    (λ (t : names a i r ≡ false).
    ap (λ (x : Row). cond (names b j x) (Some (x.free, x.held)) (balance_of b j (change a i (reshared f) rs))) (cond-false (names a i r) (reshared f r) r t)
    ∙ ap (cond (names b j r) (Some (r.free, r.held))) (balance_other f a i b j n rs))
    (cases_Bool (names a i r))

-- an open pair has a place
place_of : (a i : ℕ) (rs : List Row) (p : ℕ × ℕ) → balance_of a i rs ≡ Some p → (k : ℕ) × Placed a i rs k
place_of a i [] p e = let z : ◌≡◌ {A = ℕ} 0 1 = cc in absurd (omega arith)
place_of a i (r ∷ rs) p e = ⊎_elim
    (λ (t : names a i r ≡ true). (0, record { within = omega arith; here = t }))
    (λ (t : names a i r ≡ false).
    let k = place_of a i rs p (sym (cond-false (names a i r) (Some (r.free, r.held)) (balance_of a i rs) t) ∙ e) in
    (suc k.0, record { within = omega (arith, k.1.within); here = k.1.here }))
    (cases_Bool (names a i r))

-- One pair gets new shares, which the total has room for: that is all that changes.
pub done : (f : Shares) (a i free held : ℕ) (rs : List Row) → lawful rs ≡ true → Has a i free held rs → (total : ℕ) → total + (free + held) ≡ total_of i rs + ((f (free, held)).0 + (f (free, held)).1) → total ≤ limit
    → Done a i (f (free, held)).0 (f (free, held)).1 total rs (change a i (reshared f) rs)
done f a i free held rs w has total sum room =
    let found = place_of a i rs (free, held) has in
    let k = found.0 in
    let p = found.1 in
    let r = get_or rs k no_row in
    let read : Some (r.free, r.held) ≡ Some (free, held) = sym (balance_at a i rs k (lawful_ascending rs w) p.within p.here) ∙ has in
    let figures : (r.free, r.held) ≡ (free, held) = cc in
    let rf : r.free ≡ free = ap (λ y. y.0) figures in
    let rh : r.held ≡ held = ap (λ y. y.1) figures in
    let new : ℕ × ℕ = f (free, held) in
    let le = placed_le a i rs k w p in
    let at_place : change a i (reshared f) rs ≡ set rs k (figured r new.0 new.1) =
    placed_change a i rs k w p (reshared f) ∙ ap (λ (y : ℕ × ℕ). set rs k (figured r (f y).0 (f y).1)) figures in
    let sums = placed_total a i rs k w p new.0 new.1 in
    let moved-total : total_of i (change a i (reshared f) rs) ≡ total = ap (total_of i) at_place ∙ omega arith in
    let same-issue = ap (λ j. total_of j rs) le.0 in
    record {
      pair = balance_same f a i rs ∙ ap (option_map f) has;
      others = λ c j n _. balance_other f a i c j n rs;
      total = moved-total;
      totals = λ j n.
          let u = sum_by-set (shares j) rs k (figured r new.0 new.1) no_row p.within in
          let x = shares_other j r (λ e. n (sym e ∙ le.0)) in
          let y = shares_other j (figured r new.0 new.1) (λ e. n (sym e ∙ le.0)) in
          ap (total_of j) at_place ∙ omega arith;
      rules = ap lawful at_place ∙ lawful_set rs k new.0 new.1 w p.within (omega arith);
    }

-- what a done call of each kind tells

open_pair : (x : Option (ℕ × ℕ)) (p : ℕ × ℕ) (next : ℕ → ℕ → Moved) → x ≡ Some p → if_open x next ≡ next p.0 p.1
open_pair x p next e = ap (λ y. if_open y next) e

passed : (m n : ℕ) (went : List Row) (f : RegisterFault) (new : List Row) → cond (leb m n) (Ok went) (Err f) ≡ Ok new → (m ≤ n) × (went ≡ new)
passed m n went f new e = ⊎_elim
    (λ (t : leb m n ≡ true). let s : Ok went ≡ Ok new = sym (cond-true _ _ _ t) ∙ e in (leb-true _ _ t, cc))
    (λ (t : leb m n ≡ false). let s : Err f ≡ Ok new = sym (cond-false _ _ _ t) ∙ e in let z : ◌≡◌ {A = ℕ} 0 1 = cc in absurd (omega arith))
    (cases_Bool (leb m n))

-- the figures that a move of one pair leaves, where its test m ≤ n passes
shifted : (a i m n : ℕ) (rs : List Row) (p : ℕ × ℕ) (f : RegisterFault) (new : List Row) → with_figures a i rs (cond (leb m n) (Ok p) (Err f)) ≡ Ok new → (m ≤ n) × (change a i (reshared (λ _. p)) rs ≡ new)
shifted a i m n rs p f new e = ⊎_elim
    (λ (t : leb m n ≡ true). let s : Ok (change a i (reshared (λ _. p)) rs) ≡ Ok new = sym (ap (with_figures a i rs) (cond-true (leb m n) (Ok p) (Err f) t)) ∙ e in (leb-true _ _ t, cc))
    (λ (t : leb m n ≡ false). let s : Err f ≡ Ok new = sym (ap (with_figures a i rs) (cond-false (leb m n) (Ok p) (Err f) t)) ∙ e in let z : ◌≡◌ {A = ℕ} 0 1 = cc in absurd (omega arith))
    (cases_Bool (leb m n))

both_open : (x y : Option (ℕ × ℕ)) (q : ℕ) (went : List Row) (f : RegisterFault) (new : List Row) → if_open x (λ _ held. if_open y (λ _ _. cond (leb q held) (Ok went) (Err f))) ≡ Ok new
    → (p r : ℕ × ℕ) × (x ≡ Some p) × (y ≡ Some r) × (q ≤ p.1) × (went ≡ new)
both_open None y q went f new e = let z : ◌≡◌ {A = ℕ} 0 1 = cc in absurd (omega arith)
both_open (Some p) None q went f new e = let z : ◌≡◌ {A = ℕ} 0 1 = cc in absurd (omega arith)
both_open (Some p) (Some r) q went f new e = let t = passed q p.1 went f new e in (p, r, refl, refl, t.0, t.1)

module _ (rs : List Row) (w : lawful rs ≡ true) where
  within : (a i free held : ℕ) → Has a i free held rs → (free + held ≤ total_of i rs) × (total_of i rs ≤ limit)
  within a i free held has = (balance_le a i rs (free, held) has, total_le i rs w)

  deposits : (a i q free held : ℕ) (new : List Row) → Has a i free held rs → deposited a i q rs ≡ Ok new → Done a i (free + q) held (total_of i rs + q) rs new
  deposits a i q free held new has e =
      let t = passed (total_of i rs + q) limit _ _ new (sym (open_pair (balance_of a i rs) (free, held) _ has) ∙ e) in
      subst (Done a i (free + q) held (total_of i rs + q) rs) t.1 (done (λ p. (p.0 + q, p.1)) a i free held rs w has (total_of i rs + q) (omega arith) t.0)

  one_pair : (a i m n free held : ℕ) (to : ℕ × ℕ) (f : RegisterFault) (new : List Row) → Has a i free held rs → with_figures a i rs (cond (leb m n) (Ok to) (Err f)) ≡ Ok new
      → (total : ℕ) → (m ≤ n → total + (free + held) ≡ total_of i rs + (to.0 + to.1)) → (m ≤ n → total ≤ limit) → Done a i to.0 to.1 total rs new
  one_pair a i m n free held to f new has e total sum room =
      let t = shifted a i m n rs to f new e in
      subst (Done a i to.0 to.1 total rs) t.1 (done (λ _. to) a i free held rs w has total (sum t.0) (room t.0))

  opened : (m : Move) (a i q free held : ℕ) (new : List Row) → Has a i free held rs → moved m a i q rs ≡ Ok new → with_figures a i rs (figures_after m q free held) ≡ Ok new
  opened m a i q free held new has e = sym (open_pair (balance_of a i rs) (free, held) _ has) ∙ e

  withdraws : (a i q free held : ℕ) (new : List Row) → Has a i free held rs → moved Withdraw a i q rs ≡ Ok new → Done a i (free - q) held (total_of i rs - q) rs new
  withdraws a i q free held new has e =
      let l = within a i free held has in
      one_pair a i q free free held (free - q, held) _ new has (opened Withdraw a i q free held new has e) (total_of i rs - q) (λ (t : q ≤ free). omega arith) (λ _. omega arith)

  holds : (a i q free held : ℕ) (new : List Row) → Has a i free held rs → moved Hold a i q rs ≡ Ok new → Done a i (free - q) (held + q) (total_of i rs) rs new
  holds a i q free held new has e =
      let l = within a i free held has in
      one_pair a i q free free held (free - q, held + q) _ new has (opened Hold a i q free held new has e) (total_of i rs) (λ (t : q ≤ free). omega arith) (λ _. omega arith)

  releases : (a i q free held : ℕ) (new : List Row) → Has a i free held rs → moved Release a i q rs ≡ Ok new → Done a i (free + q) (held - q) (total_of i rs) rs new
  releases a i q free held new has e =
      let l = within a i free held has in
      one_pair a i q held free held (free + q, held - q) _ new has (opened Release a i q free held new has e) (total_of i rs) (λ (t : q ≤ held). omega arith) (λ _. omega arith)

  module _ (s b i q : ℕ) (p r : ℕ × ℕ) (seller : balance_of s i rs ≡ Some p) (buyer : balance_of b i rs ≡ Some r) (l : q ≤ p.1) where
    out : Done s i p.0 (p.1 - q) (total_of i rs - q) rs (change s i (lose_held q) rs)
    out = let x = within s i p.0 p.1 seller in done (λ y. (y.0, y.1 - q)) s i p.0 p.1 rs w seller (total_of i rs - q) (omega arith) (omega arith)

    into : (free held : ℕ) → Has b i free held (change s i (lose_held q) rs) → Done b i (free + q) held (total_of i rs) (change s i (lose_held q) rs) (change b i (gain_free q) (change s i (lose_held q) rs))
    into free held has =
        let x = within s i p.0 p.1 seller in
        let t = out.total in
        done (λ y. (y.0 + q, y.1)) b i free held (change s i (lose_held q) rs) out.rules has (total_of i rs) (omega arith) (omega arith)

    covered : (free held : ℕ) → Has s i free held rs → q ≤ held
    covered free held has = let f : Some p ≡ Some (free, held) = sym seller ∙ has in let g : p ≡ (free, held) = cc in let h : p.1 ≡ held = ap (λ y. y.1) g in omega arith

    one : s ≡ b → Settlement s b i q rs (change b i (gain_free q) (change s i (lose_held q) rs))
    one same =
        let d = into p.0 (p.1 - q) (subst (λ c. Has c i p.0 (p.1 - q) (change s i (lose_held q) rs)) same out.pair) in
        record {
          seller = λ free held apart has. absurd (apart same);
          buyer = λ free held apart has. absurd (apart same);
          one_account = λ free held _ has.
              let f : Some p ≡ Some (free, held) = sym seller ∙ has in
              let g : p ≡ (free, held) = cc in
              ap (λ c. balance_of c i (change b i (gain_free q) (change s i (lose_held q) rs))) same ∙ d.pair ∙ ap (λ (y : ℕ × ℕ). Some (y.0 + q, y.1 - q)) g;
          covered = covered;
          others = λ c j m n. d.others c j n n ∙ out.others c j m m;
          total = d.total;
          totals = λ j n. d.totals j n ∙ out.totals j n;
          rules = d.rules;
        }

    two : (s ≡ b → ⊥) → Settlement s b i q rs (change b i (gain_free q) (change s i (lose_held q) rs))
    two apart =
        let d = into r.0 r.1 (out.others b i (λ e _. apart (sym e)) (λ e _. apart (sym e)) ∙ buyer) in
        record {
          seller = λ free held _ has.
              let f : Some p ≡ Some (free, held) = sym seller ∙ has in
              let g : p ≡ (free, held) = cc in
              d.others s i (λ e _. apart e) (λ e _. apart e) ∙ out.pair ∙ ap (λ (y : ℕ × ℕ). Some (y.0, y.1 - q)) g;
          buyer = λ free held _ has.
              let f : Some r ≡ Some (free, held) = sym buyer ∙ has in
              let g : r ≡ (free, held) = cc in
              d.pair ∙ ap (λ (y : ℕ × ℕ). Some (y.0 + q, y.1)) g;
          one_account = λ free held same has. absurd (apart same);
          covered = covered;
          others = λ c j m n. d.others c j n n ∙ out.others c j m m;
          total = d.total;
          totals = λ j n. d.totals j n ∙ out.totals j n;
          rules = d.rules;
        }

  settles : (s b i q : ℕ) (new : List Row) → settled s b i q rs ≡ Ok new → Settlement s b i q rs new
  settles s b i q new e =
      let t = both_open (balance_of s i rs) (balance_of b i rs) q (change b i (gain_free q) (change s i (lose_held q) rs)) _ new e in
      subst (Settlement s b i q rs) t.5 (⊎_elim (one s b i q t.0 t.1 t.2 t.3 t.4) (two s b i q t.0 t.1 t.2 t.3 t.4) (cases_eq s b))

pub movers_move_what_they_name : MoversMoveWhatTheyName
movers_move_what_they_name rs w = record { deposits = deposits rs w; withdraws = withdraws rs w; holds = holds rs w; releases = releases rs w; settles = settles rs w }
