-- One line cut off an input. Assumes nothing.
use Rattle.std.proofs.Common.{◌≡◌, ℕ, zero, suc, ◌+◌, ◌<◌, cond, Bool, eqb, List, [], ◌∷◌, ◌++◌, length, get_or, take, drop, min, Bor, sym, refl, ap, ◌∙◌, subst, ⊎_elim, add-one, arith, eq-eqb, ne_eqb}
use denote.Param.Members.{Mut}
use Rattle.std.specs.Fn.{ComputesKey, Called}
use Rattle.std.specs.List.{IsFirstMatchOrLen}
use Rattle.std.proofs.str.Laws.{order}
use Rattle.std.proofs.lemmas.Fn.{always_returns_same}
use Rattle.std.proofs.lemmas.Bool.{eqb-true, eqb-false}
use Rattle.std.proofs.lemmas.List.{drop_all, take_all, take_at, drop_at}
use Rattle.text.specs.Lines.{longer, lines_of, FirstLine}

-- n bytes stand before the first line feed
pub fed : (input : List ℕ) (n : ℕ) → n < length input → ((k : ℕ) → k < n → get_or input k 0 ≡ 10 → ⊥) → get_or input n 0 ≡ 10 → lines_of input ≡ take (suc n) input ∷ lines_of (drop (suc n) input)
fed [] n fits before feed = absurd (omega arith)
fed (b ∷ t) zero fits before feed = ap (λ v. cond v ((b ∷ []) ∷ lines_of t) (longer b (lines_of t))) (eq-eqb b 10 feed)
fed (b ∷ t) (suc n) fits before feed =
    ap (λ v. cond v ((b ∷ []) ∷ lines_of t) (longer b (lines_of t))) (ne_eqb b 10 (before 0 (omega arith)))
    ∙ ap (longer b) (fed t n (omega arith) (λ k h. before (suc k) (omega arith)) feed)

-- no line feed stands in the input
pub unfed : (input : List ℕ) → 0 < length input → ((k : ℕ) → k < length input → get_or input k 0 ≡ 10 → ⊥) → lines_of input ≡ input ∷ []
unfed [] some before = absurd (omega arith)
unfed (b ∷ []) some before = ap (λ v. cond v ((b ∷ []) ∷ []) ((b ∷ []) ∷ [])) (ne_eqb b 10 (before 0 (omega arith)))
unfed (b ∷ (x ∷ t)) some before =
    ap (λ v. cond v ((b ∷ []) ∷ lines_of (x ∷ t)) (longer b (lines_of (x ∷ t)))) (ne_eqb b 10 (before 0 (omega arith)))
    ∙ ap (longer b) (unfed (x ∷ t) (omega arith) (λ k h. before (suc k) (omega arith)))

pub fed_line : (input : List ℕ) (n : ℕ) → n < length input → ((k : ℕ) → k < n → get_or input k 0 ≡ 10 → ⊥) → get_or input n 0 ≡ 10 → FirstLine input (n + 1)
fed_line input n fits before feed = record { some = omega arith; within = omega arith; cuts = rw (add-one n) (fed input n fits before feed) }

pub last_line : (input : List ℕ) → 0 < length input → ((k : ℕ) → k < length input → get_or input k 0 ≡ 10 → ⊥) → FirstLine input (length input)
last_line input some before = record {
  some = some;
  within = omega arith;
  cuts = unfed input some before ∙ ap (λ l. l ∷ []) (sym (take_all (length input) input (omega arith))) ∙ ap (λ l. take (length input) input ∷ lines_of l) (sym (drop_all (length input) input (omega arith)));
}

-- what `split_inclusive` cuts off at a line feed is the first line
pub first_cut : {F : Type 0} (g : Mut F (Bor ℕ × Unit {0}) Bool) (f f' : F) (rest line after : List ℕ)
    → (rest ≡ line ++ after) × ((i : ℕ) × (length line ≡ min (i + 1) (length rest)) × ((p : ℕ → Bool) → ComputesKey g p f → ComputesKey g p f' × IsFirstMatchOrLen p rest i)) × (0 < length rest)
    → ((a : Bor ℕ × Unit {0}) (r : Bool) (q : F) → Called g f a r q → (r ≡ eqb a.0.now 10) × (q ≡ f)) → FirstLine rest (length line)
first_cut g f f' rest line after s feeds =
    let i = s.1.0 in
    let first = (s.1.2 (λ b. eqb b 10) (always_returns_same g (λ a r. r ≡ eqb a.0.now 10) f feeds)).1 in
    let before : (k : ℕ) → k < i → get_or rest k 0 ≡ 10 → ⊥ = λ k lt. eqb-false (get_or rest k 0) 10 (first.0 k 0 (omega arith) lt) in
    ⊎_elim
    (λ lt. subst (FirstLine rest) (omega arith) (fed_line rest i lt before (eqb-true (get_or rest i 0) 10 (first.1 lt 0))))
    (λ le. subst (FirstLine rest) (omega arith) (last_line rest s.2 (λ k lt. before k (omega arith))))
    (order i (length rest))

pub lines_on : (rest line after : List ℕ) → rest ≡ line ++ after → FirstLine rest (length line) → lines_of rest ≡ line ∷ lines_of after
lines_on rest line after e first =
    first.cuts ∙ ap (λ l. take (length line) l ∷ lines_of (drop (length line) l)) e ∙ ap (λ l. l ∷ lines_of (drop (length line) (line ++ after))) (take_at line after (length line) refl) ∙ ap (λ l. line ∷ lines_of l) (drop_at line after (length line) refl)
