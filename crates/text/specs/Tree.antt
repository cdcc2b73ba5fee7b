-- What may still come on a line, as a tree with values at its leaves: how the reader's steps are told to one another.
-- What a whole reader promises is said without it, in Columns. Assumes nothing.
use Rattle.std.specs.Prelude.{◌≡◌, ℕ, ◌≤◌, List, [], ◌∷◌, ◌++◌, length, take, drop, decimal, Result, MatchResult}
use Rattle.text.specs.declared.cursor.Reader.{Reader}
use Rattle.text.specs.declared.form.Malformed.{Malformed}
use Rattle.text.specs.declared.reader.NumberEnd.{NumberEnd}
use Rattle.text.specs.declared.reader.NumberEnd.TheVariants.{Space, Close}
use Rattle.text.specs.Columns.{Small, Only, Column}

-- a value and no more; one byte; a number and the byte that ends it
pub data Gram (C : Type 0) : Type 0 where
  stop : C → Gram C
  lit : ℕ → Gram C → Gram C
  num : ℕ → (ℕ → Gram C) → Gram C

abbrev pub lits : {C : Type 0} → List ℕ → Gram C → Gram C
lits [] G = G
lits (b ∷ w) G = lit b (lits w G)

abbrev pub end_byte : NumberEnd → ℕ
end_byte Space = 32
end_byte Close = 41

-- the texts of a tree, with their values
abbrev pub Lang : {C : Type 0} → Gram C → List ℕ → C → Type 0
Lang (stop d) t c = (t ≡ []) × (d ≡ c)
Lang (lit b G) [] c = ⊥
Lang (lit b G) (x ∷ t) c = (x ≡ b) × Lang G t c
Lang (num b K) t c = (n : ℕ) × (u : List ℕ) × Small n × (t ≡ decimal n ++ (b ∷ u)) × Lang (K n) u c

-- after `at` bytes of the line, what goes on to a value is what G says, of what agrees with the next byte of the line
pub record Expects {C : Type 0} (R : C → List ℕ → Type 0) (G : Gram C) (line : List ℕ) (at : ℕ) : Type 0 where
  pub within : at ≤ length line
  pub from : (t : List ℕ) (c : C) → Lang G t c → R c (take at line ++ t)
  pub to : (t : List ℕ) (c : C) → take 1 t ≡ take 1 (drop at line) → R c (take at line ++ t) → Lang G t c

abbrev pub At : {C : Type 0} → (C → List ℕ → Type 0) → Gram C → List ℕ → Reader → Type 0
At R G line r = (r.line.now ≡ line) × Expects R G line r.at

-- where G is expected, an x was read and K x is expected next, or the column is found
abbrev pub Reads : {C X : Type 0} → (C → List ℕ → Type 0) → Gram C → (X → Gram C) → Reader → Result X Malformed → Reader → Type 0
Reads R G K before r after = (line : List ℕ) → At R G line before → MatchResult r (λ x. At R (K x) line after) (λ e. Column R line e.column)

-- where the value alone is expected, the line is its text and no other's, or the column is found
abbrev pub Ends : {C : Type 0} → (C → List ℕ → Type 0) → C → Reader → Result C Malformed → Type 0
Ends R v before r = (line : List ℕ) → At R (stop v) line before → MatchResult r (λ c. (c ≡ v) × Only R line c) (λ e. Column R line e.column)
