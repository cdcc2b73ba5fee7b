-- The lines of a statement. Assumes nothing.
use Rattle.std.specs.Prelude.{ℕ, Bool, cond, List, [], ◌∷◌, Some, None, codes, decimal, Option, ◌==◌}
use Rattle.std.specs.List.{flat_map, list_any}
use Rattle.register.specs.declared.holding.Row.{Row}
use Rattle.register.specs.Rules.{balance_of, total_of, issues}

abbrev pub balance_line : ℕ → ℕ → ℕ × ℕ → List ℕ
balance_line a i p = flat_map (λ w. w) (codes "(balance " ∷ decimal a ∷ codes " " ∷ decimal i ∷ codes " " ∷ decimal p.0 ∷ codes " " ∷ decimal p.1 ∷ codes ")\n" ∷ [])

abbrev pub total_line : ℕ → ℕ → List ℕ
total_line i t = flat_map (λ w. w) (codes "(total " ∷ decimal i ∷ codes " " ∷ decimal t ∷ codes ")\n" ∷ [])

abbrev pub refused_line : ℕ → List ℕ
refused_line n = flat_map (λ w. w) (codes "(refused " ∷ decimal n ∷ codes ")\n" ∷ [])

-- a malformed line, by its number and its column
abbrev pub unread_line : ℕ → ℕ → List ℕ
unread_line n column = flat_map (λ w. w) (codes "(refused " ∷ decimal n ∷ codes " 1 " ∷ decimal column ∷ codes ")\n" ∷ [])

-- the line of a pair, none where it is not open
abbrev pub if_open_line : ℕ → ℕ → Option (ℕ × ℕ) → List ℕ
if_open_line a i None = []
if_open_line a i (Some p) = balance_line a i p

abbrev pub balance_at : ℕ → ℕ → List Row → List ℕ
balance_at a i rs = if_open_line a i (balance_of a i rs)

-- over the register's rows rs, the pairs that the list names, in its order
abbrev pub balance_lines : List Row → List Row → List ℕ
balance_lines pairs rs = flat_map (λ p. balance_at p.account p.issue rs) pairs

abbrev pub has_issue : ℕ → List Row → Bool
has_issue i ps = list_any (λ p. p.issue == i) ps

abbrev pub total_at : List Row → List Row → ℕ → List ℕ
total_at pairs rs i = cond (has_issue i pairs) (total_line i (total_of i rs)) []

-- the issues of which the list names a pair, from 1 up
abbrev pub total_lines : List Row → List Row → List ℕ
total_lines pairs rs = flat_map (total_at pairs rs) issues
