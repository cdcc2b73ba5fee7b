-- What the statement program answers to its input. Assumes nothing.
use Rattle.std.specs.Prelude.{◌≡◌, ℕ, ◌+◌, Bool, true, false, cond, List, [], ◌∷◌, ◌++◌, Ok, Err, Result, MatchResult}
use Rattle.register.specs.declared.fault.RegisterFault.{RegisterFault}
use Rattle.register.specs.declared.holding.Row.{Row}
use Rattle.rows.specs.Checks.{checked}
use Rattle.register.specs.Rules.{fault_number}
use Rattle.text.specs.declared.form.Malformed.{Malformed}
use Rattle.text.specs.Columns.{Only, Column}
use Rattle.text.specs.Lines.{lines_of}
use Rattle.statements.specs.Rows.{RowLine}
use Rattle.statements.specs.Statement.{balance_lines, total_lines, refused_line, unread_line}

abbrev pub Reading : Type 0
Reading = Result Row Malformed

-- what a line is read as
abbrev pub Means : List ℕ → Reading → Type 0
Means line r = MatchResult r (λ c. Only RowLine line c) (λ e. Column RowLine line e.column)

abbrev pub ReadAs : List (List ℕ) → List Reading → Type 0
ReadAs [] [] = Unit {0}
ReadAs [] (r ∷ rs) = ⊥
ReadAs (l ∷ ls) [] = ⊥
ReadAs (l ∷ ls) (r ∷ rs) = Means l r × ReadAs ls rs

abbrev pub all_read : List Reading → Bool
all_read [] = true
all_read (Ok row ∷ rs) = all_read rs
all_read (Err e ∷ rs) = false

abbrev pub rows_in : List Reading → List Row
rows_in [] = []
rows_in (Ok row ∷ rs) = row ∷ rows_in rs
rows_in (Err e ∷ rs) = rows_in rs

-- the malformed lines, counted from n
abbrev pub unread_lines : ℕ → List Reading → List ℕ
unread_lines n [] = []
unread_lines n (Ok row ∷ rs) = unread_lines (n + 1) rs
unread_lines n (Err e ∷ rs) = unread_line n e.column ++ unread_lines (n + 1) rs

abbrev pub by_check : List Row → Result (Unit {0}) RegisterFault → List ℕ
by_check rows (Ok u) = balance_lines rows rows ++ total_lines rows rows
by_check rows (Err e) = refused_line (fault_number e)

-- the statement of rows that keep the register's rules, else the refusal alone
abbrev pub statement_of : List Row → List ℕ
statement_of rows = by_check rows (checked rows)

-- the statement if each line is a row, else the malformed lines alone
abbrev pub report_of : List Reading → List ℕ
report_of rs = cond (all_read rs) (statement_of (rows_in rs)) (unread_lines 1 rs)

-- the answer to an input
pub record Reported (input out : List ℕ) : Type 0 where
  pub readings : List Reading
  pub read_as : ReadAs (lines_of input) readings
  pub answered : out ≡ report_of readings

-- one line taken: its row after the rows so far, or its refusal after the refusals so far
pub record Line (number : ℕ) (line : List ℕ) (rows : List Row) (refused : List ℕ) (rows' : List Row) (refused' : List ℕ) : Type 0 where
  pub reading : Reading
  pub means : Means line reading
  pub rows_after : rows' ≡ rows ++ rows_in (reading ∷ [])
  pub refused_after : refused' ≡ refused ++ unread_lines number (reading ∷ [])
