-- What each mover comes to at the place of its pair, where x is what was read there. Assumes nothing.
use Rattle.std.proofs.Common.{◌≡◌, ℕ, ◌+◌, ◌-◌, ◌<◌, ◌≤◌, true, List, length, get_or, set, Some, None, Ok, Err, Option, Result, sym, ap, ◌∙◌, subst, ⊎_elim, arith}
use Rattle.std.specs.Option.{SomeIff, ok_or}
use Rattle.std.proofs.lemmas.Bool.{cond-true, cond-false, le-leb, lt-leb, cases_eq}
use Rattle.std.proofs.lemmas.List.{length-set, get_or-set_same, get_or-set_other}
use Rattle.register.specs.declared.holding.Row.{Row}
use Rattle.register.specs.declared.fault.RegisterFault.{RegisterFault}
use Rattle.register.specs.declared.fault.RegisterFault.TheVariants.{ShortHeld, OverTotal}
use Rattle.register.specs.declared.movers.Move.{Move}
use Rattle.register.specs.Places.{no_row, Placed}
use Rattle.register.specs.Rules.{limit, lawful, names, total_of, change, figured, gain_free, lose_held, figures_after, with_figures, deposited, moved, settled}
use Rattle.register.proofs.Places.{Read, placed, placed_open, placed_change, placed_total, read_at, read_fits, read_le, total_le}

module _ {a i : ℕ} {rs : List Row} {k : ℕ} {x : ℕ × ℕ} (r : Read a i rs k x) (q : ℕ) where
  pub deposited_done : total_of i rs + q ≤ limit → deposited a i q rs ≡ Ok (set rs k (figured (get_or rs k no_row) (x.0 + q) x.1))
  deposited_done l =
      placed_open a i rs k r.law r.place _
      ∙ cond-true _ _ _ (le-leb _ _ l)
      ∙ ap Ok (placed_change a i rs k r.law r.place (gain_free q) ∙ ap (λ (y : ℕ × ℕ). set rs k (figured (get_or rs k no_row) (y.0 + q) y.1)) (sym r.is))

  figures : (m : Move) → moved m a i q rs ≡ with_figures a i rs (figures_after m q x.0 x.1)
  figures m = placed_open a i rs k r.law r.place _ ∙ ap (λ (y : ℕ × ℕ). with_figures a i rs (figures_after m q y.0 y.1)) (sym r.is)

  pub moved_done : (m : Move) (free held : ℕ) → Ok (free, held) ≡ figures_after m q x.0 x.1 → moved m a i q rs ≡ Ok (set rs k (figured (get_or rs k no_row) free held))
  moved_done m free held e = figures m ∙ ap (with_figures a i rs) (sym e) ∙ ap Ok (placed_change a i rs k r.law r.place (λ r. figured r free held))

  pub moved_refused : (m : Move) (f : RegisterFault) → Err f ≡ figures_after m q x.0 x.1 → moved m a i q rs ≡ Err f
  moved_refused m f e = figures m ∙ ap (with_figures a i rs) (sym e)

-- the total is read before the shares are
pub deposited_over : (a i q : ℕ) (rs : List Row) (k : ℕ) → lawful rs ≡ true → Placed a i rs k → limit < total_of i rs + q → deposited a i q rs ≡ Err OverTotal
deposited_over a i q rs k w p l = placed_open a i rs k w p _ ∙ cond-false _ _ _ (lt-leb _ _ l)

-- new figures at a place leave each pair where it is
pub placed_kept : (a i : ℕ) (rs rs' : List Row) (j k free held : ℕ) → k < length rs → rs' ≡ set rs k (figured (get_or rs k no_row) free held) → Placed a i rs j → Placed a i rs' j
placed_kept a i rs rs' j k free held l e p =
    let r : Row = figured (get_or rs k no_row) free held in
    subst (λ xs. Placed a i xs j) (sym e) (record {
      within = rw (length-set rs k r) p.within;
      here = ⊎_elim
          (λ (s : j ≡ k). ap (λ n. names a i (get_or (set rs k r) n no_row)) s ∙ ap (names a i) (get_or-set_same rs k r no_row l) ∙ ap (λ n. names a i (get_or rs n no_row)) (sym s) ∙ p.here)
          (λ (n : j ≡ k → ⊥). ap (names a i) (get_or-set_other rs k j r no_row n) ∙ p.here)
          (cases_eq j k);
    })

-- what a checked subtraction of q leaves of n, and what it tells where it fails
pub taken : (o : Option ℕ) (q n m : ℕ) → SomeIff o (q ≤ n) (n - q) → o ≡ Some m → (q ≤ n) × (m ≡ n - q)
taken o q n m t e = rw e at t

pub not_taken : (o : Option ℕ) (q n : ℕ) → SomeIff o (q ≤ n) (n - q) → o ≡ None → n < q
not_taken o q n t e = let f : q ≤ n → ⊥ = rw e at t in omega arith

pub refused_by : (o : Option ℕ) (f e : RegisterFault) → ◌≡◌ {A = Result ℕ RegisterFault} (Err f) (ok_or o e) → o ≡ None → f ≡ e
refused_by o f e v n = let w : ◌≡◌ {A = Result ℕ RegisterFault} (Err f) (Err e) = rw n at v in cc

module _ {s i : ℕ} {rs : List Row} {j : ℕ} {x : ℕ × ℕ} (r : Read s i rs j x) (b q : ℕ) (k : ℕ) (o : Placed b i rs k) where
  pub settled_short : x.1 < q → settled s b i q rs ≡ Err ShortHeld
  settled_short l = placed_open s i rs j r.law r.place _ ∙ placed_open b i rs k r.law o _ ∙ cond-false _ _ _ (lt-leb q (get_or rs j no_row).held (omega (arith, ap (λ y. y.1) r.is)))

  module _ {rs' : List Row} {h : ℕ} (took : (q ≤ x.1) × (h ≡ x.1 - q)) (wrote : rs' ≡ set rs j (figured (get_or rs j no_row) x.0 h)) where
    -- what the seller gave is out of the total
    pub settled_total : total_of i rs' + q ≡ total_of i rs
    settled_total =
        let t = placed_total s i rs j r.law r.place x.0 h in
        let u : total_of i rs' ≡ total_of i (set rs j (figured (get_or rs j no_row) x.0 h)) = ap (total_of i) wrote in
        let f : x.0 ≡ (get_or rs j no_row).free = ap (λ y. y.0) r.is in
        let g : x.1 ≡ (get_or rs j no_row).held = ap (λ y. y.1) r.is in
        omega arith

    pub settled_read : lawful rs' ≡ true → (y : ℕ × ℕ) → y ≡ ((get_or rs' k no_row).free, (get_or rs' k no_row).held) → Read b i rs' k y
    settled_read w y again = record { law = w; place = placed_kept b i rs rs' k j x.0 h r.place.within wrote o; is = again }

    pub settled_done : {y : ℕ × ℕ} → Read b i rs' k y → settled s b i q rs ≡ Ok (set rs' k (figured (get_or rs' k no_row) (y.0 + q) y.1))
    settled_done {y} t =
        let sold : change s i (lose_held q) rs ≡ rs' = placed_change s i rs j r.law r.place (lose_held q) ∙ ap (λ (z : ℕ × ℕ). set rs j (figured (get_or rs j no_row) z.0 (z.1 - q))) (sym r.is) ∙ ap (λ n. set rs j (figured (get_or rs j no_row) x.0 n)) (sym took.1) ∙ sym wrote in
        let bought : change b i (gain_free q) rs' ≡ set rs' k (figured (get_or rs' k no_row) (y.0 + q) y.1) = placed_change b i rs' k t.law t.place (gain_free q) ∙ ap (λ (z : ℕ × ℕ). set rs' k (figured (get_or rs' k no_row) (z.0 + q) z.1)) (sym t.is) in
        placed_open s i rs j r.law r.place _ ∙ placed_open b i rs k r.law o _ ∙ cond-true _ _ _ (le-leb q (get_or rs j no_row).held (omega (arith, ap (λ y. y.1) r.is))) ∙ ap Ok (ap (change b i (gain_free q)) sold ∙ bought)

-- ---- for the goals of each mover

pub ruleset deposits = (placed, read_at, read_le, read_fits, total_le, deposited_done, deposited_over)

pub ruleset shifts = (read_at, read_le, read_fits, moved_done, moved_refused)
