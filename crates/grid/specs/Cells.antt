-- The rows that a flat table of cells stands for: cell k is account k / 16 + 1 in issue k % 16 + 1. Assumes nothing.
use Rattle.std.specs.Prelude.{ℕ, ◌+◌, ◌/◌, ◌%◌, cond, ◌&&◌, List, [], ◌∷◌, Some, None, Option, nat_le}
use Rattle.register.specs.declared.holding.Row.{Row}
use Rattle.grid.specs.declared.Holding.{Holding}

abbrev pub no_shares : Holding
no_shares = record { free = 0; held = 0 }

abbrev pub cell_row : ℕ → Holding → Row
cell_row k h = record { account = k / 16 + 1; issue = k % 16 + 1; free = h.free; held = h.held }

abbrev pub rows_from : ℕ → List Holding → List Row
rows_from k [] = []
rows_from k (h ∷ hs) = cell_row k h ∷ rows_from (k + 1) hs

unfoldable pub grid_rows : List Holding → List Row
grid_rows hs = rows_from 0 hs

-- a new grid: accounts 1 to 64 open in issues 1 to 16, with no shares
abbrev pub new_balance : ℕ → ℕ → Option (ℕ × ℕ)
new_balance a i = cond ((nat_le 1 a && nat_le a 64) && (nat_le 1 i && nat_le i 16)) (Some (0, 0)) None
