-- What each step of the reader keeps, for any forms. Assumes nothing.
use Rattle.std.proofs.Common.{◌≡◌, ℕ, suc, ◌+◌, ◌<◌, ◌≤◌, List, [], ◌∷◌, ◌++◌, length, get_or, take, drop, IsErrAnd, decimal, Result, sym, refl, ap, ◌∙◌, subst, ⊎_elim, append_assoc, append-nil, arith, MatchResult}
use Rattle.std.proofs.lemmas.List.{take_more, drop_more, take_all, drop_all, take-append-drop, take-take}
use Rattle.std.proofs.lemmas.Result.{err_from_is_err_and}
use Rattle.std.proofs.str.Laws.{order}
use Rattle.text.specs.declared.form.Malformed.{Malformed}
use Rattle.text.specs.Columns.{Only, Begins, Column}
use Rattle.text.specs.Tokens.{Run}
use Rattle.text.specs.Tree.{Gram, stop, lit, num, lits, Lang, Expects}

-- every tree has a text
pub alive : {C : Type 0} (G : Gram C) → (t : List ℕ) × (c : C) × Lang G t c
alive (stop d) = ([], d, (refl, refl))
alive (lit b G) = let a = alive G in (b ∷ a.0, a.1, (refl, a.2))
alive (num b K) = let a = alive (K 0) in (decimal 0 ++ (b ∷ a.0), a.1, (0, a.0, omega arith, refl, a.2))

-- the line with its next byte put before t
pub next_byte : (line : List ℕ) (at : ℕ) (t : List ℕ) → at < length line → take (at + 1) line ++ t ≡ take at line ++ (get_or line at 0 ∷ t)
next_byte line at t lt = ap (λ l. l ++ t) (take_more line at 0 lt) ∙ append_assoc (take at line) (get_or line at 0 ∷ []) t

pub agrees : (line : List ℕ) (at : ℕ) (t : List ℕ) → at < length line → take 1 (get_or line at 0 ∷ t) ≡ take 1 (drop at line)
agrees line at t lt = rw (drop_more line at 0 lt) refl

cons_nil : (x : ℕ) (t : List ℕ) → x ∷ t ≡ [] → ⊥
cons_nil x t e = let z : ◌≡◌ {A = ℕ} (suc (length t)) 0 = ap length e in omega arith

-- a run whose first byte is In is not empty
pub run_front : (In : ℕ → Type 0) (rest w : List ℕ) → 0 < length rest → In (get_or rest 0 0) → rest ≡ w ++ drop (length w) rest
    → ((k : ℕ) → k < length w → In (get_or w k 0)) → (length w < length rest → In (get_or rest (length w) 0) → ⊥) → Run In rest w
run_front In rest w more first front all stops = record {
  some = ⊎_elim (λ lt. lt) (λ le. let z : length w ≡ 0 = omega arith in absurd (stops (omega arith) (subst (λ m. In (get_or rest m 0)) (sym z) first))) (order 0 (length w));
  front = front;
  all = all;
  stops = stops;
}

-- a loop over the bytes of w, i of which are passed
pub lits_next : {C : Type 0} (w : List ℕ) (G : Gram C) (i : ℕ) → i < length w → lits (drop i w) G ≡ lit (get_or w i 0) (lits (drop (i + 1) w) G)
lits_next w G i lt = ap (λ l. lits l G) (drop_more w i 0 lt)

pub lits_done : {C : Type 0} (w : List ℕ) (G : Gram C) (i : ℕ) → length w ≤ i → lits (drop i w) G ≡ G
lits_done w G i ge = ap (λ l. lits l G) (drop_all i w ge)

-- the exit of a `?`
pub broke : {X : Type 0} (P : X → Type 0) (Q : Malformed → Type 0) (r : Result X Malformed) (e : Malformed) → IsErrAnd r (λ y. y ≡ e) → Q e → MatchResult r P Q
broke P Q r e b q = let p = err_from_is_err_and r b in rw (p.1, p.2) q

module _ {C : Type 0} (R : C → List ℕ → Type 0) where
  pub read_as : {s t : List ℕ} {c : C} → s ≡ t → R c s → R c t
  read_as {s} {t} {c} e r = subst (λ l. R c l) e r

  -- what begins a text does so cut shorter
  pub begins_shorter : (line : List ℕ) (i j : ℕ) → i ≤ j → Begins R (take j line) → Begins R (take i line)
  begins_shorter line i j h b = (
    drop i (take j line) ++ b.0,
    b.1,
    read_as (ap (λ l. l ++ b.0) (sym (take-append-drop i (take j line))) ∙ append_assoc (take i (take j line)) (drop i (take j line)) b.0 ∙ ap (λ l. l ++ (drop i (take j line) ++ b.0)) (take-take i j line h)) b.2,
  )

  no_longer : (G : Gram C) (line : List ℕ) (at : ℕ) → Expects R G line at
      → (at < length line → (t : List ℕ) (c : C) → Lang G (get_or line at 0 ∷ t) c → ⊥)
      → at < length line → Begins R (take (at + 1) line) → ⊥
  no_longer G line at h at_byte lt s =
      at_byte lt s.0 s.1 (h.to (get_or line at 0 ∷ s.0) s.1 (agrees line at s.0 lt) (read_as (next_byte line at s.0 lt) s.2))

  -- G is expected, and neither the end of the line nor its next byte goes on with it
  pub stuck : (G : Gram C) (line : List ℕ) (at : ℕ) → Expects R G line at
      → (at ≡ length line → (c : C) → Lang G [] c → ⊥)
      → (at < length line → (t : List ℕ) (c : C) → Lang G (get_or line at 0 ∷ t) c → ⊥)
      → Column R line (at + 1)
  stuck G line at h at-end at_byte = (
    at,
    refl,
    record {
      within = h.within;
      begins = let a = alive G in (a.0, a.1, h.from a.0 a.1 a.2);
      longest = λ j more fits b. no_longer G line at h at_byte (omega arith) (begins_shorter line (at + 1) j (omega arith) b);
      none = λ c r.
          ⊎_elim
          (λ lt. no_longer G line at h at_byte lt (drop (at + 1) line, c, read_as (sym (take-append-drop (at + 1) line)) r))
          (λ ge.
          let e : at ≡ length line = (let w = h.within in omega arith) in
          at-end e c (h.to [] c (rw (drop_all at line ge) refl) (read_as (sym (append-nil (take at line) ∙ take_all at line ge)) r)))
          (order at (length line));
    },
  )

  pub lit_stuck : {b : ℕ} {G : Gram C} {line : List ℕ} {at : ℕ} → Expects R (lit b G) line at → (at < length line → get_or line at 0 ≡ b → ⊥) → Column R line (at + 1)
  lit_stuck {b} {G} {line} {at} h ne = stuck (lit b G) line at h (λ _ c l. l) (λ lt t c l. ne lt l.0)

  -- the end
  pub ended : {d : C} {line : List ℕ} {at : ℕ} → Expects R (stop d) line at → at ≡ length line → Only R line d
  ended {d} {line} {at} h e =
      let all : take at line ++ [] ≡ line = append-nil (take at line) ∙ take_all at line (omega arith) in
      let none : drop at line ≡ [] = drop_all at line (omega arith) in
      record { spells = read_as all (h.from [] d (refl, refl)); alone = λ c r. sym (h.to [] c (rw none refl) (read_as (sym all) r)).1 }

  pub not_ended : {d : C} {line : List ℕ} {at : ℕ} → Expects R (stop d) line at → at < length line → Column R line (at + 1)
  not_ended {d} {line} {at} h lt = stuck (stop d) line at h (λ e c l. omega arith) (λ _ t c l. cons_nil (get_or line at 0) t l.0)
