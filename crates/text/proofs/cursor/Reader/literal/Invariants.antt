use Rattle.std.proofs.Common.{ℕ, List, drop}
use Rattle.text.specs.Tree.{Gram, lits, At}
use Rattle.text.proofs.cursor.Reader.literal.Given as goal

-- what is left of the text is expected next
abbrev pub invariant-loop-b : goal.invariant-loop-b
invariant-loop-b g l = (G : Gram g.row.F-Value.Denot) (line : List ℕ) → At g.F.Form.spells (lits l.text G) line l.initial.self → At g.F.Form.spells (lits (drop l.b-index l.text) G) line l.self
