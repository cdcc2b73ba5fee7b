-- What a report comes to, line by line. Assumes nothing.
use Rattle.std.proofs.Common.{◌≡◌, ℕ, ◌+◌, ◌<◌, ◌≤◌, true, false, List, [], ◌∷◌, ◌++◌, length, Ok, Err, sym, refl, ap, ◌∙◌, subst, ⊎_elim, append_assoc, append-nil, arith, length-append}
use Rattle.std.proofs.lemmas.List.{nil_from_length}
use Rattle.std.proofs.lemmas.Bool.{cond-true, cond-false, cases_Bool}
use Rattle.register.specs.declared.holding.Row.{Row}
use Rattle.text.specs.Lines.{lines_of}
use Rattle.statements.specs.Statement.{unread_line}
use Rattle.statements.specs.Report.{Reading, Means, ReadAs, all_read, rows_in, unread_lines, statement_of, Reported, Line}

rows_join : (xs ys : List Reading) → rows_in (xs ++ ys) ≡ rows_in xs ++ rows_in ys
rows_join [] ys = refl
rows_join (Ok row ∷ xs) ys = ap (λ l. row ∷ l) (rows_join xs ys)
rows_join (Err e ∷ xs) ys = rows_join xs ys

unread_join : (n : ℕ) (xs ys : List Reading) → unread_lines n (xs ++ ys) ≡ unread_lines n xs ++ unread_lines (n + length xs) ys
unread_join n [] ys = ap (λ k. unread_lines k ys) (omega arith)
unread_join n (Ok row ∷ xs) ys = unread_join (n + 1) xs ys ∙ ap (λ k. unread_lines (n + 1) xs ++ unread_lines k ys) (omega arith)
unread_join n (Err e ∷ xs) ys =
    let u : List ℕ = unread_line n e.column in
    ap (λ l. u ++ l) (unread_join (n + 1) xs ys ∙ ap (λ k. unread_lines (n + 1) xs ++ unread_lines k ys) (omega arith))
    ∙ sym (append_assoc u (unread_lines (n + 1) xs) (unread_lines (n + length (Err e ∷ xs)) ys))

all_rows : (n : ℕ) (rs : List Reading) → all_read rs ≡ true → unread_lines n rs ≡ []
all_rows n [] e = refl
all_rows n (Ok row ∷ rs) e = all_rows (n + 1) rs e
all_rows n (Err x ∷ rs) e = let z : ◌≡◌ {A = ℕ} 0 1 = cc in absurd (omega arith)

some_unread : (n : ℕ) (rs : List Reading) → all_read rs ≡ false → 0 < length (unread_lines n rs)
some_unread n [] e = let z : ◌≡◌ {A = ℕ} 0 1 = cc in absurd (omega arith)
some_unread n (Ok row ∷ rs) e = some_unread (n + 1) rs e
some_unread n (Err x ∷ rs) e = omega arith

-- the readings of the lines taken so far, and those of what is left, are the readings of all
pub record Sofar (input : List ℕ) (rows : List Row) (refused : List ℕ) (taken : ℕ) (rest : List ℕ) : Type 0 where
  pub got : List Reading
  pub joins : (more : List Reading) → ReadAs (lines_of rest) more → ReadAs (lines_of input) (got ++ more)
  pub rows_are : rows ≡ rows_in got
  pub refused_are : refused ≡ unread_lines 1 got
  pub counted : taken ≡ length got

pub one_line : {input : List ℕ} {rows : List Row} {refused : List ℕ} {taken : ℕ} {rest : List ℕ} (line after : List ℕ) {number taken' : ℕ} {given : List ℕ} {rows' : List Row} {refused' : List ℕ} → Sofar input rows refused taken rest
    → lines_of rest ≡ line ∷ lines_of after → number ≡ taken + 1 → given ≡ line → taken' ≡ taken + 1 → Line number given rows refused rows' refused' → Sofar input rows' refused' taken' after
one_line {input} {rows} {refused} {taken} {rest} l after {number} {taken'} {given} {rows'} {refused'} s cut at same next line = record {
  got = s.got ++ (line.reading ∷ []);
  joins = λ more m.
      subst (ReadAs (lines_of input)) (sym (append_assoc s.got (line.reading ∷ []) more))
      (s.joins (line.reading ∷ more) (subst (λ ls. ReadAs ls (line.reading ∷ more)) (sym cut) (subst (λ g. Means g line.reading) same line.means, m)));
  rows_are = line.rows_after ∙ ap (λ l. l ++ rows_in (line.reading ∷ [])) s.rows_are ∙ sym (rows_join s.got (line.reading ∷ []));
  refused_are =
      line.refused_after
      ∙ ap (λ l. l ++ unread_lines number (line.reading ∷ [])) s.refused_are
      ∙ ap (λ k. unread_lines 1 s.got ++ unread_lines k (line.reading ∷ [])) (let c = s.counted in omega arith)
      ∙ sym (unread_join 1 s.got (line.reading ∷ []));
  counted = let c = s.counted in simp length-append (omega arith);
}

module _ {input : List ℕ} {rows : List Row} {refused : List ℕ} {taken : ℕ} {rest : List ℕ} (s : Sofar input rows refused taken rest) (none : length rest ≡ 0) where
  all_lines : ReadAs (lines_of input) s.got
  all_lines =
      let e : rest ≡ [] = nil_from_length rest (omega arith) in
      subst (ReadAs (lines_of input)) (append-nil s.got) (s.joins [] (subst (λ l. ReadAs (lines_of l) []) (sym e) tt))

  pub some_refused : 0 < length refused → Reported input refused
  some_refused l = record {
    readings = s.got;
    read_as = all_lines;
    answered =
        let e = ap length s.refused_are in
        ⊎_elim
        (λ (a : all_read s.got ≡ true). let z = ap length (all_rows 1 s.got a) in absurd (omega arith))
        (λ (a : all_read s.got ≡ false). s.refused_are ∙ sym (cond-false _ _ _ a))
        (cases_Bool (all_read s.got));
  }

  pub none_refused : length refused ≤ 0 → (out : List ℕ) → out ≡ statement_of rows → Reported input out
  none_refused l out o = record {
    readings = s.got;
    read_as = all_lines;
    answered =
        let e = ap length s.refused_are in
        ⊎_elim
        (λ (a : all_read s.got ≡ true). o ∙ ap statement_of s.rows_are ∙ sym (cond-true _ _ _ a))
        (λ (a : all_read s.got ≡ false). let z = some_unread 1 s.got a in absurd (omega arith))
        (cases_Bool (all_read s.got));
  }
