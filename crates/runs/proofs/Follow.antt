-- What follows an accepted call: attempts, rounds and the opening. Assumes nothing.
use Rattle.std.proofs.Common.{◌≡◌, ℕ, zero, suc, ◌+◌, ◌<◌, ◌≤◌, Bool, true, false, cond, ◌&&◌, eqb, leb, ◌⊎◌, List, [], ◌∷◌, ◌++◌, length, is_some, Some, None, Ok, Option, sym, refl, ap, ◌∙◌, subst, inl, inr, arith, length-append}
use Rattle.std.proofs.lemmas.Bool.{cases_eq, eqb-true, and_parts, leb-true, ne_eqb, cond-false}
use Rattle.std.proofs.ByRecursion.{All-weaker}
use Rattle.std.specs.List.{range_with_len, AllByRecursion as EveryOne, list_all}
use Rattle.register.specs.declared.holding.Row.{Row}
use Rattle.register.specs.Rules.{lawful, names, balance_of, in_range, issues}
use Rattle.register.proofs.Places.{lawful_ranged}
use Rattle.orders.specs.declared.order.Order.{Order}
use Rattle.orders.specs.declared.order.Trade.{Trade}
use Rattle.orders.specs.declared.order.Term.{Term}
use Rattle.orders.specs.declared.order.Term.TheVariants.{Plain, All, Least}
use Rattle.orders.specs.declared.order.Life.{Life}
use Rattle.orders.specs.declared.order.Life.TheVariants.{Day, Now}
use Rattle.orders.specs.Book.{Book, find, loosened, after}
use Rattle.orders.specs.Laws.{Sound, AllFair}
use Rattle.orders.specs.Lists.{none_some, cond_either, in_all}
use Rattle.orders.proofs.Changes.{found_all, found_in, found_number, found_only, distinct_ascending}
use Rattle.matching.specs.Attempt.{attempt_of, attempt}
use Rattle.matching.specs.Rounds.{Rounds, all_rounds}
use Rattle.matching.specs.Laws.{of_issue, Quiet}
use Rattle.matching.proofs.Wholes.{Whole, attempt_whole, gone}
use Rattle.matching.proofs.Issues.{quiet_local, attempt_issue}
use Rattle.matching.proofs.Fairness.{attempt_either, fair_attempt}
use Rattle.opening.specs.Opening.{all_trades}
use Rattle.opening.proofs.Fairness.{all_fair, others_stay}
use Rattle.rules.specs.declared.outcome.Phase.{Phase}
use Rattle.rules.specs.declared.outcome.Phase.TheVariants.{PreOpen, Continuous, Closed}
use Rattle.rules.specs.declared.outcome.Outcome.{Outcome}
use Rattle.rules.specs.Refusals.{is_open}
use Rattle.rules.specs.Market.{State, Answer, executed, if_now, by_rounds, finished, tried, rounds_in, opened}
use Rattle.runs.specs.Record.{only_now}
use Rattle.runs.proofs.Steady.{Steady, unsettled, SoFar, begin, all_after, go_on, go_on_in, rounds_on, ended, ended_on}

-- a call from the state s is over: done, under the number n
pub record Over (extra : ℕ → ℕ → ℕ) (g : Option ℕ) (n : ℕ) (s : State) (y : Answer × State) : Type 0 where
  pub trades : List Trade
  pub outcome : Outcome
  pub far : SoFar extra (λ _. ⊥) g s trades y.1
  pub answer : y.0 ≡ Ok outcome
  pub number : outcome.number ≡ n
  pub counted : outcome.trades ≡ length trades

-- outside continuous trading nothing is unsettled
idle : (extra : ℕ → ℕ → ℕ) (P : ℕ → Type 0) (g : Option ℕ) (s : State) (ts : List Trade) (x : State) → (x.ledger.phase ≡ Continuous → ⊥) → SoFar extra P g s ts x → SoFar extra (λ _. ⊥) g s ts x
idle extra P g s ts x off h =
    record {
      steady = unsettled extra P (λ _. ⊥) x h.steady (λ c. absurd (off c));
      start = h.start;
      fair = h.fair;
      whole = h.whole;
      live = h.live;
      phase = h.phase;
      number = h.number;
      stamp = h.stamp;
      used = h.used;
      tape = h.tape;
      shares = h.shares;
      opened = h.opened;
    }

pub pre_open_not : (p : Phase) → p ≡ PreOpen → p ≡ Continuous → ⊥
pre_open_not p e f = cc

closed_not : (p : Phase) → p ≡ Closed → p ≡ Continuous → ⊥
closed_not p e f = cc

waits : (extra : ℕ → ℕ → ℕ) (P : ℕ → Type 0) (n : ℕ) (s : State) → (s.ledger.phase ≡ Continuous → ⊥) → Steady extra P s → Over extra None n s (Ok (record { number = n; trades = 0; rounds = 0 }), s)
waits extra P n s off h = record { trades = []; outcome = _; far = idle extra P None s [] s off (begin extra P s h); answer = refl; number = refl; counted = refl }

by_rounds_on : (extra : ℕ → ℕ → ℕ) (g : Option ℕ) (n i made before : ℕ) (s : State) (ts : List Trade) (x : State) → made ≡ length ts → SoFar extra (λ j. j ≡ i) g s ts x → Over extra g n s (by_rounds n i made before x)
by_rounds_on extra g n i made before s ts x e h =
    record {
      trades = ts ++ (all_rounds i x.ledger.live).trades;
      outcome = _;
      far = rounds_on extra (λ j. j ≡ i) (λ _. ⊥) g i (λ j p ne. ne p) s ts x h;
      answer = refl;
      number = refl;
      counted = omega (arith, length-append ts (all_rounds i x.ledger.live).trades);
    }

pub finish : (extra : ℕ → ℕ → ℕ) (n i : ℕ) (x : State) → Steady extra (λ j. j ≡ i) x → (p : Phase) → x.ledger.phase ≡ p → Over extra None n x (finished p n i x)
finish extra n i x h PreOpen e = waits extra (λ j. j ≡ i) n x (pre_open_not _ e) h
finish extra n i x h Continuous e = by_rounds_on extra None n i 0 0 x [] x refl (begin extra (λ j. j ≡ i) x h)
finish extra n i x h Closed e = waits extra (λ j. j ≡ i) n x (closed_not _ e) h

-- ---- an attempt, the end of a now order, and rounds
abbrev pub Names : ℕ → ℕ → Book → Type 0
Names n i b = EveryOne (λ o. o.number ≡ n → o.issue ≡ i) b

record AttemptedIn (i : ℕ) (b : Book) (ts : List Trade) : Type 0 where
  fair : AllFair ts b
  whole : Whole b (after ts b)
  issue : EveryOne (λ t. t.issue ≡ i) ts

attempted : (n i : ℕ) (b : Book) → Sound b → Names n i b → AttemptedIn i b (attempt_of n b)
attempted n i b h is = record {
  fair = fair_attempt n b h;
  whole = attempt_either (λ ts. Whole b (after ts b)) n b (λ m o e a. e) (λ a l w. attempt_whole a b h l w);
  issue = by_find (find n b) refl;
}
  where
    by_find : (r : Option Order) → find n b ≡ r → EveryOne (λ t. t.issue ≡ i) (attempt_of n b)
    by_find None e = rw e tt
    by_find (Some a) e = rw e (cond_both_issue a (found_all (λ o. o.number ≡ n → o.issue ≡ i) n b a is e (found_number n b a e)))
      where
        cond_both_issue : (a : Order) → a.issue ≡ i → EveryOne (λ t. t.issue ≡ i) (cond a.working (attempt a b) [])
        cond_both_issue a k = go a.working
          where
            go : (t : Bool) → EveryOne (λ t. t.issue ≡ i) (cond t (attempt a b) [])
            go true = attempt_issue i a b k
            go false = tt

by_life : (extra : ℕ → ℕ → ℕ) (n i made : ℕ) (s : State) (ts : List Trade) (x : State) (life : Life) → made ≡ length ts → Names n i x.ledger.live → SoFar extra (λ j. j ≡ i) None s ts x →
    Over extra (only_now life n) n s (by_rounds n i made 0 (if_now life n x))
by_life extra n i made s ts x Day e is h = by_rounds_on extra None n i made 0 s ts x e h
by_life extra n i made s ts x Now e is h = by_rounds_on extra (Some n) n i made 0 s ts (ended n x) e (ended_on extra (λ j. j ≡ i) n i s ts x refl is h)

-- outside continuous trading the life is day
stays_day : (extra : ℕ → ℕ → ℕ) (life : Life) (n : ℕ) (x : State) (y : Answer × State) → life ≡ Day → Over extra None n x y → Over extra (only_now life n) n x y
stays_day extra life n x y d h = subst (λ l. Over extra (only_now l n) n x y) (sym d) h

pub tried_on : (extra : ℕ → ℕ → ℕ) (life : Life) (n i : ℕ) (x : State) → Steady extra (λ j. j ≡ i) x → Names n i x.ledger.live → (p : Phase) → x.ledger.phase ≡ p → (p ≡ Continuous) ⊎ (life ≡ Day) →
    Over extra (only_now life n) n x (tried p life n i x)
tried_on extra life n i x h is PreOpen e d = stays_day extra life n x _ (elim d [ inl c ↦ absurd (pre_open_not PreOpen refl c) | inr k ↦ k ]) (waits extra (λ j. j ≡ i) n x (pre_open_not _ e) h)
tried_on extra life n i x h is Continuous e d =
    let b : Book = x.ledger.live in
    let ts : List Trade = attempt_of n b in
    let f = attempted n i b h.sound is in
    by_life extra n i (length ts) x ts (executed ts x) life refl (all_after (λ o. o.number ≡ n → o.issue ≡ i) (λ q o k. k) ts b is)
    (go_on_in extra (λ j. j ≡ i) None i refl x [] x ts (begin extra (λ j. j ≡ i) x h) f.fair f.whole f.issue)
tried_on extra life n i x h is Closed e d = stays_day extra life n x _ (elim d [ inl c ↦ absurd (closed_not Closed refl c) | inr k ↦ k ]) (waits extra (λ j. j ≡ i) n x (closed_not _ e) h)

-- ---- the opening
abbrev Among : ℕ → List ℕ → Type 0
Among j [] = ⊥
Among j (i ∷ is) = (j ≡ i) ⊎ Among j is

among_counting : (k i j : ℕ) → i ≤ j → j < i + k → Among j (range_with_len i k)
among_counting zero i j low high = absurd (omega arith)
among_counting (suc k) i j low high = elim (cases_eq j i) [
  | inl e ↦ inl e
  | inr ne ↦ inr (among_counting k (i + 1) j (omega arith) (omega arith))
]

known_among : (j : ℕ) → 1 ≤ j → j ≤ 16 → Among j issues
unfolding issues
known_among j low high = among_counting 16 1 j low (omega arith)

ranged : (a i : ℕ) (rs : List Row) → list_all in_range rs ≡ true → is_some (balance_of a i rs) ≡ true → (1 ≤ i) × (i ≤ 16)
ranged a i [] h e = absurd cc
ranged a i (r ∷ rs) h e =
    let p = and_parts (in_range r) (list_all in_range rs) h in
    cond_either (names a i r) (Some (r.free, r.held)) (balance_of a i rs) (λ o. is_some o ≡ true) e
    (λ t _.
    let same = eqb-true _ _ (and_parts (eqb r.account a) (eqb r.issue i) t).1 in
    let range = and_parts (leb 1 r.issue) (leb r.issue 16) (and_parts (leb 1 r.account && leb r.account 999999) (leb 1 r.issue && leb r.issue 16) p.0).1 in
    (omega (arith, leb-true 1 r.issue range.0), omega (arith, leb-true r.issue 16 range.1)))
    (λ _ k. ranged a i rs p.1 k)

open_among : (a i : ℕ) (rs : List Row) → lawful rs ≡ true → is_some (balance_of a i rs) ≡ true → Among i issues
open_among a i rs w e = let k = ranged a i rs (lawful_ranged rs w) e in known_among i k.0 k.1

-- where no order of an issue is, its book is quiet
none_of : (j : ℕ) (b : Book) → EveryOne (λ o. o.issue ≡ j → ⊥) b → of_issue j b ≡ []
none_of j [] h = refl
none_of j (o ∷ os) h = cond-false (eqb o.issue j) (o ∷ of_issue j os) (of_issue j os) (ne_eqb o.issue j h.0) ∙ none_of j os h.1

pub empty_quiet : (j : ℕ) → Quiet j []
empty_quiet j = record { no_cross = λ x y i. absurd i; none_ready = λ o i. absurd i }

absent_quiet : (j : ℕ) (b : Book) → EveryOne (λ o. o.issue ≡ j → ⊥) b → Quiet j b
absent_quiet j b h = quiet_local j [] b (sym (none_of j b h)) (empty_quiet j)

-- an all order takes no part in the opening
opening_whole : (i : ℕ) (closes : List ℕ) (b : Book) → Sound b → Whole b (after (all_trades i closes b) b)
opening_whole i closes b h n o e all = go (find n b) refl
  where
    ts : List Trade
    ts = all_trades i closes b

    -- a special order that was live is as it was
    special : (x : Order) → find n b ≡ Some x → (x.term ≡ Plain → ⊥) → find n b ≡ Some o
    special x k sp =
        let same : find n (after ts b) ≡ Some x = ap (λ m. find m (after ts b)) (sym (found_number n b x k)) ∙ (others_stay b h).all_issues i closes x (found_in n b x k) (inr sp) in
        cc

    plain_stays : (x : Order) → find n b ≡ Some x → x.term ≡ Plain → o.term ≡ Plain
    plain_stays x k pl =
        found_all (λ y. y.number ≡ n → y.term ≡ Plain) n (after ts b) o
        (all_after (λ y. y.number ≡ n → y.term ≡ Plain) (λ q y f m. ap loosened (f m)) ts b
        (in_all (λ y. y.number ≡ n → y.term ≡ Plain) b (λ y j m. ap (λ (z : Order). z.term) (found_only n b x (distinct_ascending b h.ascending) k y j m) ∙ pl)))
        e (found_number n (after ts b) o e)

    by_term : (x : Order) → find n b ≡ Some x → (t : Term) → x.term ≡ t → find n b ≡ Some o
    by_term x k Plain et = absurd (let z : Plain ≡ All = sym (plain_stays x k et) ∙ all in cc)
    by_term x k All et = special x k (λ pl. cc)
    by_term x k (Least m) et = special x k (λ pl. cc)

    go : (r : Option Order) → find n b ≡ r → find n b ≡ Some o
    go None k = none_some o (sym (gone n ts b (all_fair i closes b h) k).1 ∙ e)
    go (Some x) k = by_term x k x.term refl

rounds_in_on : (extra : ℕ → ℕ → ℕ) (s : State) (is : List ℕ) (n made count : ℕ) (ts : List Trade) (x : State) → made ≡ length ts → SoFar extra (λ j. Among j is) None s ts x →
    Over extra None n s (rounds_in is (Ok (record { number = n; trades = made; rounds = count }), x))
rounds_in_on extra s [] n made count ts x e h = record { trades = ts; outcome = _; far = h; answer = refl; number = refl; counted = e }
rounds_in_on extra s (i ∷ is) n made count ts x e h =
    let r : Rounds = all_rounds i x.ledger.live in
    rounds_in_on extra s is n (made + length r.trades) (count + r.count) (ts ++ r.trades) (executed r.trades x) (omega (arith, length-append ts r.trades))
    (rounds_on extra (λ j. Among j (i ∷ is)) (λ j. Among j is) None i (λ j p ne. elim p [ inl same ↦ absurd (ne same) | inr rest ↦ rest ]) s ts x h)

-- s is in continuous trading, with every issue that may have orders unsettled
pub opening_on : (extra : ℕ → ℕ → ℕ) (s : State) → Steady extra (λ _. Unit {0}) s → Over extra None 0 s (opened s)
opening_on extra s h =
    let b : Book = s.ledger.live in
    let ts : List Trade = all_trades 1 s.closes b in
    let known : (j : ℕ) → (Among j issues → ⊥) → EveryOne (λ o. o.issue ≡ j → ⊥) b =
    λ j out. All-weaker (λ o. is_open o.account o.issue s.rows ≡ true) (λ o. o.issue ≡ j → ⊥) (λ o k e. out (subst (λ m. Among m issues) e (open_among o.account o.issue s.rows h.rules k))) b h.covered.pairs in
    let start = unsettled extra (λ _. Unit {0}) (λ j. Among j issues) s h (λ c j out. absent_quiet j b (known j out)) in
    rounds_in_on extra s issues 0 (length ts) 0 ts (executed ts s) refl
    (go_on extra (λ j. Among j issues) (λ j. Among j issues) None s [] s ts (begin extra (λ j. Among j issues) s start) (all_fair 1 s.closes b h.sound) (opening_whole 1 s.closes b h.sound)
    (λ c j out. absent_quiet j (after ts b) (all_after (λ o. o.issue ≡ j → ⊥) (λ q o k. k) ts b (known j out))))
