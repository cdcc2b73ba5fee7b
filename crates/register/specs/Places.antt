-- Places in a list of rows, which only proofs and private functions speak of. Assumes nothing.
use Rattle.std.specs.Prelude.{◌≡◌, ℕ, ◌<◌, true, List, length, slice_index_or}
use Rattle.register.specs.declared.holding.Row.{Row}
use Rattle.register.specs.Rules.{names}

abbrev pub no_row : Row
no_row = record { account = 0; issue = 0; free = 0; held = 0 }

-- k is the place of the pair (a, i)
pub record Placed (a i : ℕ) (rs : List Row) (k : ℕ) : Type 0 where
  pub within : k < length rs
  pub here : names a i (slice_index_or rs k no_row) ≡ true
