-- Numbers on a line: one to thirteen digits, and the byte that ends them. Assumes nothing.
use Rattle.std.proofs.Common.{◌≡◌, ℕ, zero, suc, ◌+◌, ◌^◌, ◌<◌, ◌≤◌, List, [], ◌∷◌, ◌++◌, length, get_or, take, drop, decimal, sym, refl, ap, ◌∙◌, subst, ⊎_elim, append_assoc, append-nil, add-zero, arith, length-drop, Bor}
use Rattle.std.specs.Str.Parse.{digits_value}
use Rattle.std.proofs.str.Laws.{order}
use Rattle.std.proofs.lemmas.Fmt.{decimal-digits_value, digits_decimal, decimal_nonempty, decimal_digit, first_decimal, length-decimal-le, decimal_injective}
use Rattle.std.proofs.lemmas.List.Prefix.{front_reads}
use Rattle.std.proofs.lemmas.List.{take-append-drop, take-take, drop-take, length-append, length-take-le, get_or-take, get_or-drop, get_or_append_left, get_or-append-add, take_at}
use Rattle.std.proofs.lemmas.Str.Parse.{IsNumeralModel, numerals_by_value, tells_by_index, digits_value_short}
use Rattle.text.specs.declared.reader.NumberEnd.{NumberEnd}
use Rattle.text.specs.declared.reader.NumberEnd.TheVariants.{Space, Close}
use Rattle.text.specs.declared.tokens.Token.{Token}
use Rattle.text.specs.declared.tokens.Token.TheVariants as token
use Rattle.text.specs.Columns.{Small, Begins, Column}
use Rattle.text.specs.Tokens.{Digit, Digits, Letter, Run, TokenAt}
use Rattle.text.specs.Tree.{Gram, lit, num, end_byte, Lang, Expects}
use Rattle.text.proofs.Steps.{read_as, begins_shorter, stuck, alive}

-- a number is ended by no digit
pub end_low : (e : NumberEnd) → end_byte e < 48
end_low Space = omega arith
end_low Close = omega arith

pub own : IsNumeralModel Digits (digits_value 10)
own = numerals_by_value Digits tells_by_index

fits : (n : ℕ) → Small n → n < 2 ^ 64
fits n h = omega arith

pub take_add : (line : List ℕ) (at k : ℕ) → take (at + k) line ≡ take at line ++ take k (drop at line)
take_add line at k = sym (ap (λ l. l ++ take k (drop at line)) (sym (take-take at (at + k) line (omega arith))) ∙ ap (λ l. take at (take (at + k) line) ++ l) (sym (drop-take at k line)) ∙ take-append-drop at (take (at + k) line))

front_agrees : (rest t : List ℕ) (k : ℕ) → 0 < k → 0 < length rest → take 1 (take k rest ++ t) ≡ take 1 rest
front_agrees [] t k h m = absurd (omega arith)
front_agrees (x ∷ rest) t zero h m = absurd (omega arith)
front_agrees (x ∷ rest) t (suc k) h m = refl

-- digits in front of a number's digits and the byte that ends them
pub front_of : (ds xs s u : List ℕ) (b : ℕ) → Digits ds → Digits xs → b < 48 → ds ++ s ≡ xs ++ (b ∷ u) → (v : List ℕ) × (xs ≡ ds ++ v) × (s ≡ v ++ (b ∷ u))
front_of [] xs s u b D X lo e = (xs, refl, e)
front_of (d ∷ ds) [] s u b D X lo e = let z : d ≡ b = ap (λ l. get_or l 0 0) e in absurd (omega (arith, D 0 (omega arith)))
front_of (d ∷ ds) (x ∷ xs) s u b D X lo e =
    let r = front_of ds xs s u b (λ k h. D (suc k) (omega arith)) (λ k h. X (suc k) (omega arith)) lo (ap (drop 1) e) in
    let z : d ≡ x = ap (λ l. get_or l 0 0) e in
    let y : xs ≡ ds ++ r.0 = r.1 in
    (r.0, cc, r.2)

digits_tail : (ds v : List ℕ) → Digits (ds ++ v) → Digits v
digits_tail ds v D = λ k h. rw (get_or-append-add ds v k 0) at (D (length ds + k) (simp length-append (omega arith)))

-- where no digit comes next, a number has ended
ends : (v t u : List ℕ) (x b : ℕ) → (Digit x → ⊥) → Digits v → x ∷ t ≡ v ++ (b ∷ u) → (v ≡ []) × (x ≡ b) × (t ≡ u)
ends [] t u x b not D e = (refl, ap (λ l. get_or l 0 0) e, ap (drop 1) e)
ends (y ∷ v) t u x b not D e = absurd (not (subst Digit (sym (ap (λ l. get_or l 0 0) e)) (D 0 (omega arith))))

none_left : (v u : List ℕ) (b : ℕ) → [] ≡ v ++ (b ∷ u) → ⊥
none_left v u b e = omega (arith, simp length-append at (ap length e))

-- a text that begins as `rest` does
next_is : (x : ℕ) (t rest : List ℕ) → take 1 (x ∷ t) ≡ take 1 rest → (0 < length rest) × (x ≡ get_or rest 0 0)
next_is x t [] e = cc
next_is x t (y ∷ rest) e = (omega arith, ap (λ l. get_or l 0 0) e)

lit_text : {C : Type 0} (b : ℕ) (G : Gram C) (t : List ℕ) (c : C) → Lang (lit b G) t c → (u : List ℕ) × (t ≡ b ∷ u) × Lang G u c
lit_text b G [] c l = absurd l
lit_text b G (x ∷ u) c l = (u, ap (λ y. y ∷ u) l.0, l.1)

take_one : (l : List ℕ) → 0 < length l → take 1 l ≡ get_or l 0 0 ∷ []
take_one [] h = absurd (omega arith)
take_one (x ∷ l) h = refl

-- digits with no needless zero are what their value is written as
pub written : (xs : List ℕ) → Digits xs → 0 < length xs → length xs ≤ 13 → (get_or xs 0 0 ≡ 48 → length xs ≡ 1) → Small (digits_value 10 xs) × (decimal (digits_value 10 xs) ≡ xs)
written xs D some le zero-alone = let s = digits_value_short own xs 13 D le in (s, decimal-digits_value own xs D some zero-alone (fits (digits_value 10 xs) s))

no_zero_first : (n : ℕ) (w v : List ℕ) → Small n → decimal n ≡ w ++ v → 1 < length w → get_or w 0 0 ≡ 48 → ⊥
no_zero_first n w v sm e two z =
    ⊎_elim
    (λ pos. omega (arith, first_decimal n pos (fits n sm), ap (λ l. get_or l 0 0) e ∙ get_or_append_left w v 0 0 (omega arith) ∙ z))
    (λ le. let nz : n ≡ 0 = omega arith in omega (arith, simp length-append at (ap length (sym (decimal_digit n (omega arith)) ∙ e))))
    (order 0 n)

run_first : (In : ℕ → Type 0) (rest w : List ℕ) → Run In rest w → get_or rest 0 0 ≡ get_or w 0 0
run_first In rest w r = front_reads 0 rest w (drop (length w) rest) r.front 0 r.some

at_first : (line : List ℕ) (at : ℕ) → get_or line at 0 ≡ get_or (drop at line) 0 0
at_first line at = ap (λ i. get_or line i 0) (sym (add-zero at)) ∙ sym (get_or-drop at line 0 0)

pub no_digit_here : (line : List ℕ) (at : ℕ) (t : Token) → TokenAt (drop at line) t → ((ds : Bor (List ℕ)) → t ≡ token.Number ds → ⊥) → at < length line → Digit (get_or line at 0) → ⊥
no_digit_here line at t is other lt d = by t is other (subst Digit (at_first line at) d)
  where
    by : (t : Token) → TokenAt (drop at line) t → ((ds : Bor (List ℕ)) → t ≡ token.Number ds → ⊥) → Digit (get_or (drop at line) 0 0) → ⊥
    by token.Open k o d = omega arith
    by token.Close k o d = omega arith
    by token.Space k o d = omega arith
    by (token.Word w) k o d = omega (arith, run_first Letter (drop at line) w.now k, k.all 0 k.some)
    by (token.Number ds) k o d = o ds refl
    by token.Other k o d = k.2 d
    by token.End k o d = omega (arith, length-drop at line)

-- the value of fewer than thirteen digits leaves room for one more
pub front_small : (ds : List ℕ) (i : ℕ) → Digits ds → i < length ds → length ds ≤ 13 → digits_value 10 (take i ds) < 10 ^ 12
front_small ds i D lt le =
    let long : length (take i ds) ≡ i = length-take-le i ds (omega arith) in
    digits_value_short own (take i ds) 12 (λ k kl. let ki : k < i = omega arith in rw (get_or-take i ds k 0 ki) (D k (omega arith))) (omega arith)

module _ {C : Type 0} (R : C → List ℕ → Type 0) where
  -- k bytes past `at` still begin a text of G, and neither the end of the line nor one byte more does
  pub stuck_past : (G : Gram C) (line : List ℕ) (at k : ℕ) → Expects R G line at → at + k ≤ length line
      → ((t : List ℕ) × (c : C) × Lang G (take k (drop at line) ++ t) c)
      → (at + k ≡ length line → (c : C) → Lang G (drop at line) c → ⊥)
      → (at + k < length line → (t : List ℕ) (c : C) → Lang G (take (k + 1) (drop at line) ++ t) c → ⊥)
      → Column R line (at + k + 1)
  stuck_past G line at k h fit go at-end at_byte = (
    at + k,
    refl,
    record {
      within = fit;
      begins = (go.0, go.1, read_as R (joins k go.0) (h.from (take k (drop at line) ++ go.0) go.1 go.2));
      longest = λ j more fits b. over (omega arith) (begins_shorter R line (at + k + 1) j (omega arith) b);
      none = λ c r.
          ⊎_elim
          (λ lt. over lt (drop (at + k + 1) line, c, read_as R (sym (take-append-drop (at + k + 1) line)) r))
          (λ ge. at-end (omega arith) c (h.to (drop at line) c refl (read_as R (sym (take-append-drop at line)) r)))
          (order (at + k) (length line));
    },
  )
    where
      joins : (m : ℕ) (t : List ℕ) → take at line ++ (take m (drop at line) ++ t) ≡ take (at + m) line ++ t
      joins m t = sym (append_assoc (take at line) (take m (drop at line)) t) ∙ ap (λ l. l ++ t) (sym (take_add line at m))

      over : at + k < length line → Begins R (take (at + k + 1) line) → ⊥
      over lt s =
          let e : at + k + 1 ≡ at + (k + 1) = omega arith in
          let m : 0 < length (drop at line) = (simp length-drop (omega arith)) in
          at_byte lt s.0 s.1 (h.to (take (k + 1) (drop at line) ++ s.0) s.1 (front_agrees (drop at line) s.0 (k + 1) (omega arith) m) (read_as R (ap (λ n. take n line ++ s.0) e ∙ sym (joins (k + 1) s.0)) s.2))

  module _ {b : ℕ} {K : ℕ → Gram C} {line : List ℕ} {at : ℕ} (lo : b < 48) (h : Expects R (num b K) line at) where
    pub num_none : (at < length line → Digit (get_or line at 0) → ⊥) → Column R line (at + 1)
    num_none not =
        stuck R (num b K) line at h (λ e c l. none_left (decimal l.0) l.1 b l.3)
        (λ lt t c l.
        let f = fits l.0 l.2 in
        let some = decimal_nonempty l.0 f in
        not lt (subst Digit (sym (ap (λ s. get_or s 0 0) l.3 ∙ get_or_append_left (decimal l.0) (b ∷ l.1) 0 0 some)) (digits_decimal own l.0 f 0 some)))

    -- a number that goes on with ds, as its digits do
    goes_on : (ds s : List ℕ) (c : C) → Digits ds → (l : Lang (num b K) (ds ++ s) c) → (v : List ℕ) × (decimal l.0 ≡ ds ++ v) × (s ≡ v ++ (b ∷ l.1))
    goes_on ds s c D l = front_of ds (decimal l.0) s l.1 b D (digits_decimal own l.0 (fits l.0 l.2)) lo l.3

    -- a text of a number
    some_text : (xs : List ℕ) → (n : ℕ) → Small n → xs ≡ decimal n → (t : List ℕ) × (c : C) × Lang (num b K) (xs ++ t) c
    some_text xs n sm e = let a = alive (K n) in (b ∷ a.0, a.1, (n, a.0, sm, ap (λ l. l ++ (b ∷ a.0)) e, a.2))

    module _ {ds : List ℕ} (N : Run Digit (drop at line) ds) where
      short : length ds ≤ length (drop at line)
      short = omega (arith, simp length-append at (ap length N.front))

      rest_reads : (i : ℕ) → i < length ds → get_or (drop at line) i 0 ≡ get_or ds i 0
      rest_reads i lt = front_reads 0 (drop at line) ds (drop (length ds) (drop at line)) N.front i lt

      rest_digits : (k : ℕ) → k ≤ length ds → Digits (take k (drop at line))
      rest_digits k le = λ i lt.
          let ki : i < k = omega (arith, length-take-le k (drop at line) (let s = short in omega arith)) in
          rw (get_or-take k (drop at line) i 0 ki) (subst Digit (sym (rest_reads i (omega arith))) (N.all i (omega arith)))

      front_is : take (length ds) (drop at line) ≡ ds
      front_is = ap (take (length ds)) N.front ∙ take_at ds (drop (length ds) (drop at line)) (length ds) refl

      -- a zero, and more digits
      pub num_zero : get_or ds 0 0 ≡ 48 → 1 < length ds → Column R line (at + 1 + 1)
      num_zero z more =
          let s = short in
          let room : at + 1 < length line = omega (arith, length-drop at line) in
          let first : get_or (drop at line) 0 0 ≡ 48 = rest_reads 0 (omega arith) ∙ z in
          let two : length (take 2 (drop at line)) ≡ 2 = length-take-le 2 (drop at line) (omega arith) in
          stuck_past (num b K) line at 1 h (omega arith)
          (some_text (take 1 (drop at line)) 0 (omega arith) (take_one (drop at line) (omega arith) ∙ ap (λ x. x ∷ []) first ∙ sym (decimal_digit 0 (omega arith))))
          (λ e c l. omega arith)
          (λ lt t c l.
          let g = goes_on (take 2 (drop at line)) t c (rest_digits 2 (omega arith)) l in
          no_zero_first l.0 (take 2 (drop at line)) g.0 l.2 g.1 (omega arith) (get_or-take 2 (drop at line) 0 0 (omega arith) ∙ first))

      -- more than thirteen digits
      pub num_long : (get_or ds 0 0 ≡ 48 → ⊥) → 13 < length ds → Column R line (at + 13 + 1)
      num_long nz more =
          let s = short in
          let room : at + 13 < length line = omega (arith, length-drop at line) in
          let long : length (take 13 (drop at line)) ≡ 13 = length-take-le 13 (drop at line) (omega arith) in
          let w = written (take 13 (drop at line)) (rest_digits 13 (omega arith)) (omega arith) (omega arith)
          (λ z. absurd (nz (sym (get_or-take 13 (drop at line) 0 0 (omega arith) ∙ rest_reads 0 (omega arith)) ∙ z))) in
          stuck_past (num b K) line at 13 h (omega arith)
          (some_text (take 13 (drop at line)) (digits_value 10 (take 13 (drop at line))) w.0 (sym w.1))
          (λ e c l. omega arith)
          (λ lt t c l.
          let g = goes_on (take 14 (drop at line)) t c (rest_digits 14 (omega arith)) l in
          omega (arith, length-take-le 14 (drop at line) (omega arith), length-decimal-le 13 l.0 (omega arith) l.2 (fits l.0 l.2), simp length-append at (ap length g.1)))

      module _ (some-zero : get_or ds 0 0 ≡ 48 → length ds ≡ 1) (le : length ds ≤ 13) where
        is_written : Small (digits_value 10 ds) × (decimal (digits_value 10 ds) ≡ ds)
        is_written = written ds N.all N.some le some-zero

        no_digit : at + length ds < length line → Digit (get_or line (at + length ds) 0) → ⊥
        no_digit lt d = N.stops (omega (arith, length-drop at line)) (subst Digit (sym (get_or-drop at line (length ds) 0)) d)

        joins : (t : List ℕ) → take at line ++ (ds ++ t) ≡ take (at + length ds) line ++ t
        joins t = sym (ap (λ l. l ++ t) (take_add line at (length ds)) ∙ append_assoc (take at line) (take (length ds) (drop at line)) t ∙ ap (λ d. take at line ++ (d ++ t)) front_is)

        ahead : (t : List ℕ) → take 1 (ds ++ t) ≡ take 1 (drop at line)
        ahead t = ap (λ d. take 1 (d ++ t)) (sym front_is) ∙ front_agrees (drop at line) t (length ds) N.some (let s = short in let m = N.some in omega arith)

        onward : (t : List ℕ) (c : C) → take 1 t ≡ take 1 (drop (at + length ds) line) → Lang (num b K) (ds ++ t) c → Lang (lit b (K (digits_value 10 ds))) t c
        onward [] c a l = let g = goes_on ds [] c N.all l in none_left g.0 l.1 b g.2
        onward (x ∷ t) c a l =
            let n = next_is x t (drop (at + length ds) line) a in
            let not : Digit x → ⊥ = λ d. no_digit (omega (arith, n.0, length-drop (at + length ds) line)) (subst Digit (n.1 ∙ sym (at_first line (at + length ds))) d) in
            let g = goes_on ds (x ∷ t) c N.all l in
            let f = ends g.0 t l.1 x b not (digits_tail ds g.0 (subst Digits g.1 (digits_decimal own l.0 (fits l.0 l.2)))) g.2 in
            let same : l.0 ≡ digits_value 10 ds = decimal_injective l.0 (digits_value 10 ds) (fits l.0 l.2) (fits (digits_value 10 ds) is_written.0) (g.1 ∙ ap (λ v. ds ++ v) f.0 ∙ append-nil ds ∙ sym is_written.1) in
            (f.1, subst (λ m. Lang (K m) t c) same (subst (λ u. Lang (K l.0) u c) (sym f.2) l.4))

        -- after the digits, the byte that ends them
        pub num_digits : Expects R (lit b (K (digits_value 10 ds))) line (at + length ds)
        num_digits = record {
          within = let s = short in let w = h.within in omega (arith, length-drop at line);
          from = λ t c l.
              let m = lit_text b (K (digits_value 10 ds)) t c l in
              read_as R (joins t) (h.from (ds ++ t) c (digits_value 10 ds, m.0, is_written.0, ap (λ s. ds ++ s) m.1 ∙ ap (λ d. d ++ (b ∷ m.0)) (sym is_written.1), m.2));
          to = λ t c a r. onward t c a (h.to (ds ++ t) c (ahead t) (read_as R (sym (joins t)) r));
        }

  -- of a line as the reader holds it
  pub here : {G : Gram C} {line held : List ℕ} {at : ℕ} → (held ≡ line) × Expects R G line at → Expects R G held at
  here {G} {line} {held} {at} h = subst (λ l. Expects R G l at) (sym h.0) h.1

  pub column : {line held : List ℕ} (m n : ℕ) → held ≡ line → n ≡ m → Column R held m → Column R line n
  column {line} {held} m n e same p = subst (λ l. Column R l n) e (p.0, same ∙ p.1, p.2)

  -- the reader that has read a number's digits
  pub ending : {b e : ℕ} {K : ℕ → Gram C} {line held ds : List ℕ} {at : ℕ} → b < 48 → (held ≡ line) × Expects R (num b K) line at → Run Digit (drop at held) ds
      → (get_or ds 0 0 ≡ 48 → length ds ≤ 1) → length ds ≤ 13 → e ≡ b → (held ≡ line) × Expects R (lit e (K (digits_value 10 ds))) line (at + length ds)
  ending {b} {e} {K} {line} {held} {ds} {at} lo h N one le same =
      let M = subst (λ l. Run Digit (drop at l) ds) h.0 N in
      (h.0, subst (λ x. Expects R (lit x (K (digits_value 10 ds))) line (at + length ds)) (sym same) (num_digits lo h.1 M (λ z. omega (arith, one z, M.some)) le))
