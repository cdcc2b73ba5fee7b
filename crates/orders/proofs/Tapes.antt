-- Trades written one by one stand on the tape in a row.
use Rattle.std.proofs.Common.{◌≡◌, ℕ, suc, ◌+◌, ◌-◌, ◌≤◌, List, [], ◌∷◌, ◌++◌, length, take, drop, set, sym, refl, ap, ◌∙◌, append_assoc, append-nil, arith}
use Rattle.std.proofs.lemmas.List.{take-append-drop, take_all, drop_all, drop-drop, length-drop, take_more_set, drop-set-lt, drop_at, length-set, length-append, length-take-le}
use borrow.Rule.Slice.PartMut.{put_mid}
use Rattle.orders.specs.declared.order.Trade.{Trade}
use Rattle.orders.specs.Tape.{written, recorded}

pub length_written : (u : ℕ) (ts tape : List Trade) → length (written u ts tape) ≡ length tape
length_written u [] tape = refl
length_written u (t ∷ ts) tape = length_written (u + 1) ts (set tape u t) ∙ length-set tape u t

pub written_append : (u : ℕ) (ts us tape : List Trade) → written u (ts ++ us) tape ≡ written (u + length ts) us (written u ts tape)
written_append u [] us tape = let z : u + 0 ≡ u = omega arith in sym (ap (λ k. written k us tape) z)
written_append u (t ∷ ts) us tape =
    let z : (u + 1) + length ts ≡ u + suc (length ts) = omega arith in
    written_append (u + 1) ts us (set tape u t) ∙ ap (λ k. written k us (written (u + 1) ts (set tape u t))) z

-- where there is room, both say the same
pub written_is : (u : ℕ) (ts tape : List Trade) → u + length ts ≤ length tape → written u ts tape ≡ recorded u ts tape
written_is u [] tape h =
    let z : u + 0 ≡ u = omega arith in
    sym (ap (λ n. take u tape ++ drop n tape) z ∙ take-append-drop u tape)
written_is u (t ∷ ts) tape h =
    let next = set tape u t in
    let l : length next ≡ length tape = length-set tape u t in
    let k : (u + 1) + length ts ≡ u + suc (length ts) = omega arith in
    written_is (u + 1) ts next (omega arith)
    ∙ ap (λ a. a ++ (ts ++ drop ((u + 1) + length ts) next)) (take_more_set tape u t (omega arith))
    ∙ append_assoc (take u tape) (t ∷ []) (ts ++ drop ((u + 1) + length ts) next)
    ∙ ap (λ d. take u tape ++ (t ∷ (ts ++ d))) (drop-set-lt ((u + 1) + length ts) tape u t (omega arith) ∙ ap (λ n. drop n tape) k)

-- ---- the parts of a tape with trades recorded
module _ (u : ℕ) (ts tape : List Trade) (h : u + length ts ≤ length tape) where
  front : length (take u tape) ≡ u
  front = length-take-le u tape (omega arith)

  both : length (take u tape ++ ts) ≡ u + length ts
  both = let e = length-append (take u tape) ts in let f = front in omega arith

  -- the records behind those written
  pub drop_recorded : drop (u + length ts) (recorded u ts tape) ≡ drop (u + length ts) tape
  drop_recorded =
      ap (drop (u + length ts)) (sym (append_assoc (take u tape) ts (drop (u + length ts) tape))) ∙ drop_at (take u tape ++ ts) (drop (u + length ts) tape) (u + length ts) both

-- trades recorded at the start of the part of a tape from u on are recorded from u on
pub recorded_part : (u k : ℕ) (ts tape part : List Trade) → k ≡ length tape - u → part ≡ recorded 0 ts (take k (drop u tape)) → put_mid u k tape part ≡ recorded u ts tape
recorded_part u k ts tape part all e =
    let held = length-drop u tape in
    let whole : take k (drop u tape) ≡ drop u tape = take_all k (drop u tape) (omega arith) in
    let none : drop k (drop u tape) ≡ [] = drop_all k (drop u tape) (omega arith) in
    let behind : drop (0 + length ts) (drop u tape) ≡ drop (u + length ts) tape = drop-drop (0 + length ts) u tape ∙ ap (λ n. drop n tape) (let z : u + (0 + length ts) ≡ u + length ts = omega arith in z) in
    ap (λ l. take u tape ++ (part ++ l)) none
    ∙ ap (λ l. take u tape ++ l) (append-nil part ∙ e ∙ ap (recorded 0 ts) whole ∙ ap (λ l. ts ++ l) behind)
