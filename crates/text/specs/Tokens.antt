-- What token a rest of a line begins with. Assumes nothing.
use Rattle.std.specs.Prelude.{◌≡◌, ℕ, ◌<◌, ◌≤◌, List, ◌++◌, length, drop, slice_index}
use Rattle.text.specs.declared.tokens.Token.{Token}
use Rattle.text.specs.declared.tokens.Token.TheVariants as token

abbrev pub Digit : ℕ → Type 0
Digit b = (48 ≤ b) × (b ≤ 57)

abbrev pub Digits : List ℕ → Type 0
Digits ds = (k : ℕ) → k < length ds → Digit (slice_index ds k)

abbrev pub Letter : ℕ → Type 0
Letter b = (97 ≤ b) × (b ≤ 122)

-- w is the longest front of `rest` whose bytes are all In
pub record Run (In : ℕ → Type 0) (rest w : List ℕ) : Type 0 where
  pub some : 0 < length w
  pub front : rest ≡ w ++ drop (length w) rest
  pub all : (k : ℕ) → k < length w → In (slice_index w k)
  pub stops : length w < length rest → In (slice_index rest (length w)) → ⊥

abbrev pub Starts : List ℕ → ℕ → Type 0
Starts rest b = (0 < length rest) × (slice_index rest 0 ≡ b)

abbrev pub TokenAt : List ℕ → Token → Type 0
TokenAt rest token.Open = Starts rest 40
TokenAt rest token.Close = Starts rest 41
TokenAt rest token.Space = Starts rest 32
TokenAt rest (token.Word w) = Run Letter rest w.now
TokenAt rest (token.Number ds) = Run Digit rest ds.now
TokenAt rest token.Other = (0 < length rest) × (Letter (slice_index rest 0) → ⊥) × (Digit (slice_index rest 0) → ⊥)
TokenAt rest token.End = length rest ≡ 0
