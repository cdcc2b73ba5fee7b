-- The line of a row. Assumes nothing.
use Rattle.std.specs.Prelude.{◌≡◌, ℕ, List, [], ◌∷◌, codes, decimal}
use Rattle.std.specs.List.{flat_map}
use Rattle.register.specs.declared.holding.Row.{Row}
use Rattle.text.specs.Columns.{Small}

abbrev pub row_text : Row → List ℕ
row_text r = flat_map (λ w. w) (codes "(row " ∷ decimal r.account ∷ codes " " ∷ decimal r.issue ∷ codes " " ∷ decimal r.free ∷ codes " " ∷ decimal r.held ∷ codes ")\n" ∷ [])

-- the line is the row's text, and its numbers have at most 13 digits
pub record RowLine (r : Row) (line : List ℕ) : Type 0 where
  pub account : Small r.account
  pub issue : Small r.issue
  pub free : Small r.free
  pub held : Small r.held
  pub same : line ≡ row_text r
