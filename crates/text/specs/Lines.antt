-- The lines of an input. Assumes nothing.
use Rattle.std.specs.Prelude.{◌≡◌, ℕ, ◌<◌, ◌≤◌, cond, List, [], ◌∷◌, length, take, drop, ◌==◌}

abbrev pub longer : ℕ → List (List ℕ) → List (List ℕ)
longer b [] = (b ∷ []) ∷ []
longer b (line ∷ lines) = (b ∷ line) ∷ lines

-- each line ends with its line feed, byte 10; a last one may lack it
abbrev pub lines_of : List ℕ → List (List ℕ)
lines_of [] = []
lines_of (b ∷ rest) = cond (b == 10) ((b ∷ []) ∷ lines_of rest) (longer b (lines_of rest))

-- the first n bytes are the first line
pub record FirstLine (input : List ℕ) (n : ℕ) : Type 0 where
  pub some : 0 < n
  pub within : n ≤ length input
  pub cuts : lines_of input ≡ take n input ∷ lines_of (drop n input)
