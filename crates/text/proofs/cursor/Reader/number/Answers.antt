use Rattle.std.proofs.Common.{◌≡◌, ◌+◌, ◌≤◌, length, get_or, sym, subst, arith, rules}
use Rattle.std.specs.Str.Parse.{digits_value}
use Rattle.text.specs.Tree.{At}
use Rattle.text.proofs.Steps.{broke}
use Rattle.text.proofs.Numbers.{end_low, here, column, no_digit_here, num_none, num_zero, num_long, ending}
use Rattle.text.proofs.cursor.Reader.number.Goals as goal
use Rattle.text.proofs.cursor.Reader.number.Goals.{then-ds-lt2, else-ds-lt2+in_default-1}

pub returns-in_default-clause-reads : goal.returns-in_default-clause-reads
returns-in_default-clause-reads g c = λ K line h.
    column g.F.Form.spells (c.args.self.now.at + 1) _ h.0 (omega arith)
    (num_none g.F.Form.spells (end_low c.args.end) (here g.F.Form.spells h) (no_digit_here _ _ c.peek.result c.peek.ensures c.in_default.not-Number))

pub returns-in-48-clause-reads : goal.returns-in-48-clause-reads
returns-in-48-clause-reads g c = λ K line h.
    column g.F.Form.spells (c.args.self.now.at + 1 + 1) _ h.0 (omega arith)
    (num_zero g.F.Form.spells (end_low c.args.end) (here g.F.Form.spells h) c.in-Number.ensures (omega arith) (omega arith))

pub returns-then-ds-gt-MAX_DIGITS-clause-reads : goal.returns-then-ds-gt-MAX_DIGITS-clause-reads
returns-then-ds-gt-MAX_DIGITS-clause-reads g c = λ K line h.
    let one : get_or c.in-Number.ds.now 0 0 ≡ 48 → length c.in-Number.ds.now ≤ 1 = λ e. elim c.if-ds-lt2.branch [ then-ds-lt2 w ↦ search rules | else-ds-lt2+in_default-1 w ↦ search rules ] in
    column g.F.Form.spells (c.args.self.now.at + 13 + 1) _ h.0 (omega arith)
    (num_long g.F.Form.spells (end_low c.args.end) (here g.F.Form.spells h) c.in-Number.ensures (λ e. omega (arith, one e)) c.if-ds-gt-MAX_DIGITS.true)

pub returns-in_err-byte-clause-reads : goal.returns-in_err-byte-clause-reads
returns-in_err-byte-clause-reads g c = λ K line h.
    let N = c.in-Number.ensures in
    let one : get_or c.in-Number.ds.now 0 0 ≡ 48 → length c.in-Number.ds.now ≤ 1 = λ e. elim c.if-ds-lt2.branch [ then-ds-lt2 w ↦ search rules | else-ds-lt2+in_default-1 w ↦ search rules ] in
    broke _ _ c.from_residual.result _ c.from_residual.ensures.1
    (c.in_err-byte.ensures (K (digits_value 10 c.in-Number.ds.now)) line (ending g.F.Form.spells (end_low c.args.end) h N one c.if-ds-gt-MAX_DIGITS.false c.from.ensures))

pub returns-clause-reads : goal.returns-clause-reads
returns-clause-reads g c = λ K line h.
    let N = c.in-Number.ensures in
    let one : get_or c.in-Number.ds.now 0 0 ≡ 48 → length c.in-Number.ds.now ≤ 1 = λ e. elim c.if-ds-lt2.branch [ then-ds-lt2 w ↦ search rules | else-ds-lt2+in_default-1 w ↦ search rules ] in
    subst (λ n. At g.F.Form.spells (K n) line c.byte.new.self) (sym c.digits_value.ensures)
    (c.in_ok-byte.ensures (K (digits_value 10 c.in-Number.ds.now)) line (ending g.F.Form.spells (end_low c.args.end) h N one c.if-ds-gt-MAX_DIGITS.false c.from.ensures))
