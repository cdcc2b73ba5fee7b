-- What may come on the line of a row, step by step. Assumes nothing.
use Rattle.std.proofs.Common.{◌≡◌, ℕ, List, [], ◌∷◌, ◌++◌, codes, decimal, sym, refl, subst, arith}
use Rattle.register.specs.declared.holding.Row.{Row}
use Rattle.text.specs.declared.cursor.Reader.{Reader}
use Rattle.text.specs.Tree.{Gram, stop, num, lits, Lang, Expects, At}
use Rattle.text.proofs.Trees.{lits_in, lits_out}
use Rattle.statements.specs.Rows.{RowLine, row_text}

abbrev pub row : ℕ → ℕ → ℕ → ℕ → Row
row a i f h = record { account = a; issue = i; free = f; held = h }

abbrev pub after_held : ℕ → ℕ → ℕ → ℕ → Gram Row
after_held a i f h = lits (codes "\n") (stop (row a i f h))

abbrev pub after_free : ℕ → ℕ → ℕ → Gram Row
after_free a i f = num 41 (after_held a i f)

abbrev pub after_issue : ℕ → ℕ → Gram Row
after_issue a i = num 32 (after_free a i)

abbrev pub after_account : ℕ → Gram Row
after_account a = num 32 (after_issue a)

abbrev pub row_tree : Gram Row
row_tree = lits (codes "(row ") (num 32 after_account)

into : (r : Row) (line : List ℕ) → RowLine r line → Lang row_tree (row_text r) r
into r line l = lits_in (codes "(row ") (num 32 after_account) _ r (
  r.account,
  _,
  l.account,
  refl,
  (r.issue, _, l.issue, refl, (r.free, _, l.free, refl, (r.held, _, l.held, refl, (refl, (refl, refl))))),
)

joins : (a i f h : ℕ) (t u u₁ u₂ u₃ u₄ u₅ : List ℕ) → t ≡ codes "(row " ++ u → u ≡ decimal a ++ (32 ∷ u₁) → u₁ ≡ decimal i ++ (32 ∷ u₂) → u₂ ≡ decimal f ++ (32 ∷ u₃) → u₃ ≡ decimal h ++ (41 ∷ u₄) → u₄ ≡ codes "\n" ++ u₅ → u₅ ≡ [] → t ≡ row_text (row a i f h)
joins a i f h t u u₁ u₂ u₃ u₄ u₅ e e₁ e₂ e₃ e₄ e₅ e₆ = cc

out_of : (t : List ℕ) (r : Row) → Lang row_tree t r → RowLine r t
out_of t r l =
    let w = lits_out (codes "(row ") (num 32 after_account) t r l in
    let x = w.2 in
    let y = x.4 in
    let z = y.4 in
    let v = z.4 in
    let n = lits_out (codes "\n") (stop (row x.0 y.0 z.0 v.0)) v.1 r v.4 in
    subst (λ c. RowLine c t) n.2.1 (record {
      account = x.2;
      issue = y.2;
      free = z.2;
      held = v.2;
      same = joins x.0 y.0 z.0 v.0 t w.0 x.1 y.1 z.1 v.1 n.0 w.1 x.3 y.3 z.3 v.3 n.1 n.2.0;
    })

start : (line : List ℕ) → Expects RowLine row_tree line 0
start line = record {
  within = omega arith;
  from = λ t c l. out_of t c l;
  to = λ t c a r. subst (λ s. Lang row_tree s c) (sym r.same) (into c t r);
}

pub begun : (line : List ℕ) (r : Reader) → r.line.now ≡ line → r.at ≡ 0 → At RowLine row_tree line r
begun line r e z = (e, subst (λ n. Expects RowLine row_tree line n) (sym z) (start line))
