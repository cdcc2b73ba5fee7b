-- What is known where new shares are written. Assumes nothing.
use Rattle.std.proofs.Common.{ℕ, ◌+◌, ◌%◌, ◌<◌, ◌≤◌, length, get_or, subst, arith}
use Rattle.register.specs.declared.holding.Row.{Row}
use Rattle.register.specs.Places.{no_row}
use Rattle.register.specs.Rules.{limit, total_of}
use Rattle.register.proofs.Places.{total_le}
use Rattle.grid.specs.declared.Grid.{Grid}
use Rattle.grid.specs.Cells.{no_shares, grid_rows}
use Rattle.grid.proofs.Cells.{grid_length, grid_get_or, grid_cell_le}

-- at the place k of g, for new shares of n together: o is the old sum, t the issue's total that is kept
pub room : (g : Grid) (k n : ℕ) → k < length (grid_rows g.cells) → total_of (get_or (grid_rows g.cells) k no_row).issue (grid_rows g.cells) + n ≤ limit + ((get_or (grid_rows g.cells) k no_row).free + (get_or (grid_rows g.cells) k no_row).held)
    → let o : ℕ = (get_or g.cells k no_shares).free + (get_or g.cells k no_shares).held in let t : ℕ = get_or g.totals (k % 16) 0 in (k < 1024) × (o ≤ t) × (t ≤ limit) × (t + n ≤ limit + o)
room g k n within fits =
    let wide = g.wide in
    let m : k < length g.cells = omega (arith, grid_length g.cells) in
    let fits' : total_of (k % 16 + 1) (grid_rows g.cells) + n ≤ limit + ((get_or g.cells k no_shares).free + (get_or g.cells k no_shares).held) =
    subst (λ (r : Row). total_of r.issue (grid_rows g.cells) + n ≤ limit + (r.free + r.held)) (grid_get_or g.cells k m) fits in
    let e = g.kept (k % 16) (omega arith) in
    let c = total_le (k % 16 + 1) (grid_rows g.cells) g.ruled in
    let l = grid_cell_le g.cells k m in
    (omega arith, omega arith, omega arith, omega arith)
