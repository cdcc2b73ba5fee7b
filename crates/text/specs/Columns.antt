-- Where a line stops being a form. R says which lines spell which value. Assumes nothing.
use Rattle.std.specs.Prelude.{◌≡◌, ℕ, ◌+◌, ◌^◌, ◌<◌, ◌≤◌, List, ◌++◌, length, take}

-- a number of at most 13 digits
abbrev pub Small : ℕ → Type 0
Small n = n < 10 ^ 13

-- the line spells c, and nothing else
pub record Only {C : Type 0} (R : C → List ℕ → Type 0) (line : List ℕ) (c : C) : Type 0 where
  pub spells : R c line
  pub alone : (d : C) → R d line → d ≡ c

-- some value's text begins so
abbrev pub Begins : {C : Type 0} → (C → List ℕ → Type 0) → List ℕ → Type 0
Begins {C} R p = (rest : List ℕ) × (c : C) × R c (p ++ rest)

-- k bytes of the line begin some value's text, no more of them do, and the line spells none
pub record Stuck {C : Type 0} (R : C → List ℕ → Type 0) (line : List ℕ) (k : ℕ) : Type 0 where
  pub within : k ≤ length line
  pub begins : Begins R (take k line)
  pub longest : (j : ℕ) → k < j → j ≤ length line → Begins R (take j line) → ⊥
  pub none : (c : C) → R c line → ⊥

-- the first column, from 1, at which no text goes on so; one past the end where the line stops too early
abbrev pub Column : {C : Type 0} → (C → List ℕ → Type 0) → List ℕ → ℕ → Type 0
Column R line column = (k : ℕ) × (column ≡ k + 1) × Stuck R line k
