-- The rows of a flat table: one for each cell, lawful where the totals are within their limit. Assumes nothing.
use Rattle.std.proofs.Common.{◌≡◌, ℕ, zero, suc, ◌+◌, ◌-◌, ◌*◌, ◌/◌, ◌%◌, ◌<◌, ◌≤◌, true, false, ◌&&◌, eqb, leb, List, [], ◌∷◌, length, get_or, set, replicate, Some, None, ◌⊎◌, sym, refl, ap, ◌∙◌, ⊎_elim, arith}
use Rattle.std.specs.List.{list_all}
use Rattle.std.proofs.lemmas.Bool.{cases_Bool, and_parts, cond-false, cond-true, and_from, or_left, or_right, lt-ltb, le-leb, eq-eqb, cases_lt, leb-true, cases_eq}
use Rattle.register.specs.declared.holding.Row.{Row}
use Rattle.grid.specs.declared.Holding.{Holding}
use Rattle.grid.specs.Cells.{no_shares, cell_row, rows_from, grid_rows}
use Rattle.register.specs.Places.{no_row, Placed}
use Rattle.register.specs.Rules.{limit, lawful, total_of, precedes, ascending, in_range, names, shares, figured, balance_of}
use Rattle.std.proofs.lemmas.List.Sums.{sum_by-cons, sum_by-set, get_or-le-sum_by}
use Rattle.std.proofs.lemmas.List.{length-replicate, get_or-replicate, get_or-set_same, get_or-set_other}
use Rattle.grid.specs.Cells.{new_balance}
use Rattle.register.proofs.Sets.{capped_from}
use Rattle.register.proofs.Places.{balance_at, balance_none, named, shares_named, shares_other}
use Rattle.std.proofs.lemmas.Nat.{div-mul-add, mod-mul-add}

length_from : (k : ℕ) (hs : List Holding) → length (rows_from k hs) ≡ length hs
length_from k [] = refl
length_from k (h ∷ hs) = ap suc (length_from (k + 1) hs)

get_or_from : (k : ℕ) (hs : List Holding) (j : ℕ) → j < length hs → get_or (rows_from k hs) j no_row ≡ cell_row (k + j) (get_or hs j no_shares)
get_or_from k [] j l = absurd (omega arith)
get_or_from k (h ∷ hs) zero l = ap (λ n. cell_row n h) (omega arith)
get_or_from k (h ∷ hs) (suc j) l = get_or_from (k + 1) hs j (omega arith) ∙ ap (λ n. cell_row n (get_or hs j no_shares)) (omega arith)

set_from : (k : ℕ) (hs : List Holding) (j : ℕ) (h : Holding) → rows_from k (set hs j h) ≡ set (rows_from k hs) j (cell_row (k + j) h)
set_from k [] j h = refl
set_from k (x ∷ hs) zero h = ap (λ n. cell_row n h ∷ rows_from (k + 1) hs) (omega arith)
set_from k (x ∷ hs) (suc j) h = ap (λ rs. cell_row k x ∷ rs) (set_from (k + 1) hs j h ∙ ap (λ n. set (rows_from (k + 1) hs) j (cell_row n h)) (omega arith))

next : (k : ℕ) (g h : Holding) → precedes (cell_row k g) (cell_row (k + 1) h) ≡ true
next k g h = ⊎_elim
    (λ (l : k / 16 < (k + 1) / 16). or_left _ _ (lt-ltb (k / 16 + 1) ((k + 1) / 16 + 1) (omega arith)))
    (λ (l : (k + 1) / 16 ≤ k / 16). or_right _ _ (and_from _ _ (eq-eqb (k / 16 + 1) ((k + 1) / 16 + 1) (omega arith)) (lt-ltb (k % 16 + 1) ((k + 1) % 16 + 1) (omega arith))))
    (cases_lt (k / 16) ((k + 1) / 16))

ascending_from : (k : ℕ) (hs : List Holding) → ascending (rows_from k hs) ≡ true
ascending_from k [] = refl
ascending_from k (h ∷ []) = refl
ascending_from k (h ∷ (x ∷ hs)) = and_from _ _ (next k h x) (ascending_from (k + 1) (x ∷ hs))

ranged_from : (k : ℕ) (hs : List Holding) → k + length hs ≤ 1024 → list_all in_range (rows_from k hs) ≡ true
ranged_from k [] l = refl
ranged_from k (h ∷ hs) l =
    and_from _ _
    (and_from _ _
    (and_from _ _ (le-leb 1 (k / 16 + 1) (omega arith)) (le-leb (k / 16 + 1) 999999 (omega arith)))
    (and_from _ _ (le-leb 1 (k % 16 + 1) (omega arith)) (le-leb (k % 16 + 1) 16 (omega arith))))
    (ranged_from (k + 1) hs (omega arith))

-- ---- the grid, of 1024 cells

pub grid_length : (hs : List Holding) → length (grid_rows hs) ≡ length hs
unfolding grid_rows
grid_length hs = length_from 0 hs

pub grid_get_or : (hs : List Holding) (j : ℕ) → j < length hs → get_or (grid_rows hs) j no_row ≡ cell_row j (get_or hs j no_shares)
unfolding grid_rows
grid_get_or hs j l = get_or_from 0 hs j l ∙ ap (λ n. cell_row n (get_or hs j no_shares)) (omega arith)

pub grid_set : (hs : List Holding) (j : ℕ) (h : Holding) → grid_rows (set hs j h) ≡ set (grid_rows hs) j (cell_row j h)
unfolding grid_rows
grid_set hs j h = set_from 0 hs j h ∙ ap (λ n. set (rows_from 0 hs) j (cell_row n h)) (omega arith)

pub grid_lawful : (hs : List Holding) → length hs ≡ 1024 → ((i : ℕ) → i < 16 → total_of (i + 1) (grid_rows hs) ≤ limit) → lawful (grid_rows hs) ≡ true
unfolding grid_rows lawful
grid_lawful hs e f = and_from _ _ (and_from _ _ (ascending_from 0 hs) (ranged_from 0 hs (omega arith))) (capped_from (rows_from 0 hs) f)

-- no cell is the pair's
pub grid_absent : (hs : List Holding) (a i : ℕ) → length hs ≡ 1024 → ((k : ℕ) → k < 1024 → k / 16 + 1 ≡ a → k % 16 + 1 ≡ i → ⊥) → balance_of a i (grid_rows hs) ≡ None
grid_absent hs a i e f = balance_none a i (grid_rows hs) (λ k l.
    let m : k < length hs = omega (arith, grid_length hs) in
    let at = grid_get_or hs k m in
    ⊎_elim
    (λ (t : names a i (get_or (grid_rows hs) k no_row) ≡ true).
    let n = named a i (cell_row k (get_or hs k no_shares)) (ap (names a i) (sym at) ∙ t) in
    absurd (f k (omega arith) n.0 n.1))
    (λ t. t)
    (cases_Bool (names a i (get_or (grid_rows hs) k no_row))))

-- j and k are the offsets of the account and the issue
pub grid_placed : (hs : List Holding) (a i j k : ℕ) → length hs ≡ 1024 → (j < 64) × (a ≡ j + 1) → (k < 16) × (i ≡ k + 1) → Placed a i (grid_rows hs) (j * 16 + k)
grid_placed hs a i j k e la li =
    let within : j * 16 + k < length hs = omega arith in
    record {
      within = omega (arith, grid_length hs);
      here = ap (names a i) (grid_get_or hs (j * 16 + k) within) ∙ and_from _ _ (eq-eqb ((j * 16 + k) / 16 + 1) a (omega (arith, div-mul-add j 16 k (omega arith)))) (eq-eqb ((j * 16 + k) % 16 + 1) i (omega (arith, mod-mul-add j 16 k (omega arith))));
    }

pub grid_no_account : (hs : List Holding) (a i : ℕ) → length hs ≡ 1024 → (a ≡ 0) ⊎ (64 < a) → balance_of a i (grid_rows hs) ≡ None
grid_no_account hs a i e out = grid_absent hs a i e (λ k l f g. ⊎_elim (λ z. omega arith) (λ z. omega arith) out)

pub grid_no_issue : (hs : List Holding) (a i : ℕ) → length hs ≡ 1024 → (i ≡ 0) ⊎ (16 < i) → balance_of a i (grid_rows hs) ≡ None
grid_no_issue hs a i e out = grid_absent hs a i e (λ k l f g. ⊎_elim (λ z. omega arith) (λ z. omega arith) out)

pub grid_total_same : (hs : List Holding) (k : ℕ) (h : Holding) → k < length hs → total_of (k % 16 + 1) (grid_rows (set hs k h)) + ((get_or hs k no_shares).free + (get_or hs k no_shares).held) ≡ total_of (k % 16 + 1) (grid_rows hs) + (h.free + h.held)
grid_total_same hs k h l =
    let i : ℕ = k % 16 + 1 in
    let u = sum_by-set (shares i) (grid_rows hs) k (cell_row k h) no_row (omega (arith, grid_length hs)) in
    let old = ap (shares i) (grid_get_or hs k l) ∙ shares_named i (cell_row k (get_or hs k no_shares)) refl in
    let new = shares_named i (cell_row k h) refl in
    let e = ap (total_of i) (grid_set hs k h) in
    omega arith

pub grid_total_other : (hs : List Holding) (k : ℕ) (h : Holding) (i : ℕ) → k < length hs → (k % 16 ≡ i → ⊥) → total_of (i + 1) (grid_rows (set hs k h)) ≡ total_of (i + 1) (grid_rows hs)
grid_total_other hs k h i l n =
    let u = sum_by-set (shares (i + 1)) (grid_rows hs) k (cell_row k h) no_row (omega (arith, grid_length hs)) in
    let old = ap (shares (i + 1)) (grid_get_or hs k l) ∙ shares_other (i + 1) (cell_row k (get_or hs k no_shares)) (λ e. n (omega arith)) in
    let new = shares_other (i + 1) (cell_row k h) (λ e. n (omega arith)) in
    let e = ap (total_of (i + 1)) (grid_set hs k h) in
    omega arith

-- a cell's shares are part of its issue's total
pub grid_cell_le : (hs : List Holding) (k : ℕ) → k < length hs → (get_or hs k no_shares).free + (get_or hs k no_shares).held ≤ total_of (k % 16 + 1) (grid_rows hs)
grid_cell_le hs k l =
    let i : ℕ = k % 16 + 1 in
    let s = ap (shares i) (grid_get_or hs k l) ∙ shares_named i (cell_row k (get_or hs k no_shares)) refl in
    let m = get_or-le-sum_by (shares i) (grid_rows hs) k no_row (omega (arith, grid_length hs)) in
    omega arith

-- ---- a new grid

no_shares_from : (i k n : ℕ) → total_of i (rows_from k (replicate n no_shares)) ≡ 0
no_shares_from i k zero = refl
no_shares_from i k (suc n) =
    let h = sum_by-cons (shares i) (cell_row k no_shares) (rows_from (k + 1) (replicate n no_shares)) in
    let t = no_shares_from i (k + 1) n in
    let z : shares i (cell_row k no_shares) ≡ 0 = ⊎_elim (λ b. cond-true _ _ _ b) (λ b. cond-false _ _ _ b) (cases_Bool (eqb (k % 16 + 1) i)) in
    omega arith

pub new_total : (i n : ℕ) → total_of i (grid_rows (replicate n no_shares)) ≡ 0
unfolding grid_rows
new_total i n = no_shares_from i 0 n

grid_ascending : (hs : List Holding) → ascending (grid_rows hs) ≡ true
unfolding grid_rows
grid_ascending hs = ascending_from 0 hs

pub new_is : (hs : List Holding) → hs ≡ replicate 1024 no_shares → length hs ≡ 1024 → (a i : ℕ) → balance_of a i (grid_rows hs) ≡ new_balance a i
new_is hs e l a i = ⊎_elim
    (λ (t : ((leb 1 a && leb a 64) && (leb 1 i && leb i 16)) ≡ true).
    let x = and_parts _ _ t in
    let y = and_parts _ _ x.0 in
    let z = and_parts _ _ x.1 in
    let ly : 1 ≤ a = leb-true _ _ y.0 in
    let uy : a ≤ 64 = leb-true _ _ y.1 in
    let lz : 1 ≤ i = leb-true _ _ z.0 in
    let uz : i ≤ 16 = leb-true _ _ z.1 in
    let k : ℕ = (a - 1) * 16 + (i - 1) in
    let p = grid_placed hs a i (a - 1) (i - 1) l (omega arith, omega arith) (omega arith, omega arith) in
    let m : k < length hs = omega arith in
    let r : get_or hs k no_shares ≡ no_shares = ap (λ xs. get_or xs k no_shares) e ∙ get_or-replicate 1024 k no_shares no_shares (omega arith) in
    balance_at a i (grid_rows hs) k (grid_ascending hs) p.within p.here
    ∙ ap (λ (w : Row). Some (w.free, w.held)) (grid_get_or hs k m ∙ ap (cell_row k) r)
    ∙ sym (cond-true _ _ _ t))
    (λ (t : ((leb 1 a && leb a 64) && (leb 1 i && leb i 16)) ≡ false).
    grid_absent hs a i l (λ k m ea ei.
    let ly : leb 1 a ≡ true = le-leb 1 a (omega arith) in
    let uy : leb a 64 ≡ true = le-leb a 64 (omega arith) in
    let lz : leb 1 i ≡ true = le-leb 1 i (omega arith) in
    let uz : leb i 16 ≡ true = le-leb i 16 (omega arith) in
    let c : true ≡ false = sym (and_from _ _ (and_from _ _ ly uy) (and_from _ _ lz uz)) ∙ t in
    let z : ◌≡◌ {A = ℕ} 0 1 = cc in omega arith)
    ∙ sym (cond-false _ _ _ t))
    (cases_Bool ((leb 1 a && leb a 64) && (leb 1 i && leb i 16)))

-- ---- totals kept beside the cells

pub kept_after : (hs : List Holding) (ts : List ℕ) (k : ℕ) (h : Holding) → k < length hs → length ts ≡ 16 → ((i : ℕ) → i < 16 → get_or ts i 0 ≡ total_of (i + 1) (grid_rows hs)) → (i : ℕ) → i < 16 → get_or (set ts (k % 16) (get_or ts (k % 16) 0 - ((get_or hs k no_shares).free + (get_or hs k no_shares).held) + (h.free + h.held))) i 0 ≡ total_of (i + 1) (grid_rows (set hs k h))
kept_after hs ts k h l long kept i m = ⊎_elim
    (λ (e : k % 16 ≡ i).
    let n : k % 16 < length ts = omega arith in
    let t : get_or ts (k % 16) 0 ≡ total_of (k % 16 + 1) (grid_rows hs) = kept (k % 16) (omega arith) in
    let s = grid_total_same hs k h l in
    let c = grid_cell_le hs k l in
    let v : ℕ = get_or ts (k % 16) 0 - ((get_or hs k no_shares).free + (get_or hs k no_shares).held) + (h.free + h.held) in
    ap (λ j. get_or (set ts (k % 16) v) j 0) (sym e) ∙ get_or-set_same ts (k % 16) _ 0 n ∙ same _ _ _ _ _ t s c ∙ ap (λ j. total_of (j + 1) (grid_rows (set hs k h))) e)
    (λ (n : k % 16 ≡ i → ⊥).
    let o : i ≡ k % 16 → ⊥ = λ e. n (sym e) in
    get_or-set_other ts (k % 16) i _ 0 o ∙ kept i m ∙ sym (grid_total_other hs k h i l n))
    (cases_eq (k % 16) i)
  where
    same : (t a b x y : ℕ) → t ≡ a → b + x ≡ a + y → x ≤ a → t - x + y ≡ b
    same t a b x y e f l = omega arith

pub grid_set_row : (hs : List Holding) (k f h : ℕ) → k < length hs → grid_rows (set hs k (record { free = f; held = h })) ≡ set (grid_rows hs) k (figured (get_or (grid_rows hs) k no_row) f h)
grid_set_row hs k f h l = grid_set hs k _ ∙ ap (λ r. set (grid_rows hs) k (figured r f h)) (sym (grid_get_or hs k l))

pub new_lawful : lawful (grid_rows (replicate 1024 no_shares)) ≡ true
new_lawful = grid_lawful (replicate 1024 no_shares) (length-replicate 1024 no_shares) (λ i l. omega (arith, new_total (i + 1) 1024))
