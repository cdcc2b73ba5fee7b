-- How a call's trades and endings change a state. Assumes nothing.
use Rattle.std.proofs.Common.{◌≡◌, ℕ, ◌+◌, ◌≤◌, Bool, true, false, cond, not, eqb, List, [], ◌∷◌, ◌++◌, length, is_some, Some, None, Option, sym, refl, ap, ◌∙◌, subst, inl, inr, append_assoc, arith, length-append, append-nil}
use Rattle.std.proofs.lemmas.Bool.{cases_eq, eqb-true}
use Rattle.std.proofs.lemmas.Bool.Decides.{nat_tests}
use Rattle.std.proofs.ByRecursion.{All-weaker, all_kept_by}
use Rattle.std.specs.List.{AllByRecursion as EveryOne}
use Rattle.register.specs.Rules.{lawful, balance_of}
use Rattle.orders.specs.declared.order.Order.{Order}
use Rattle.orders.specs.declared.order.Trade.{Trade}
use Rattle.orders.specs.Book.{Book, number_of, find, lowered, without, after_trade, reduced, after}
use Rattle.orders.specs.Laws.{Distinct, Sound, AllFair}
use Rattle.orders.proofs.Changes.{without_missing, found_all, distinct_ascending}
use Rattle.orders.proofs.Trades.{all_reduced, sound_after, count_trades, after_append, fair_append}
use Rattle.matching.specs.Rounds.{all_rounds}
use Rattle.matching.specs.Laws.{of_issue, Quiet, dropped}
use Rattle.matching.proofs.Wholes.{Whole}
use Rattle.matching.proofs.Issues.{quiet_local, issue_after}
use Rattle.matching.proofs.Proved.{rounds_settle, rounds_whole, sound_dropped, few_dropped}
use Rattle.rules.specs.declared.outcome.Phase.TheVariants.{Continuous}
use Rattle.rules.specs.Ledger.{with_live}
use Rattle.rules.specs.Refusals.{is_open}
use Rattle.rules.specs.Market.{State, executed, ended_rows}
use Rattle.rules.specs.Shares.{shares_in, sells_of, backing, bought, sold, Covered}
use Rattle.rules.proofs.Registers.{settled_kept}
use Rattle.rules.proofs.Settlements.{trades_settle}
use Rattle.runs.proofs.Pairs.{behind, ended_moves}
use Rattle.runs.proofs.Drops.{fair_dropped, whole_dropped}

-- A state as the market keeps it. In continuous trading the book of each issue is quiet, but for the issues that a call has yet to settle.
pub record Steady (extra : ℕ → ℕ → ℕ) (unsettled : ℕ → Type 0) (s : State) : Type 0 where
  pub sound : Sound s.ledger.live
  pub numbers : EveryOne (λ o. o.number ≤ s.ledger.number) s.ledger.live
  pub stamps : EveryOne (λ o. o.stamp ≤ s.ledger.stamp) s.ledger.live
  pub covered : Covered extra s.ledger.live s.rows
  pub rules : lawful s.rows ≡ true
  pub used : s.ledger.used ≡ length s.tape
  pub few : length s.ledger.live ≤ 256
  pub few_stamps : s.ledger.stamp ≤ 1000000
  pub quiet : s.ledger.phase ≡ Continuous → (i : ℕ) → (unsettled i → ⊥) → Quiet i s.ledger.live

abbrev pub Stands : (ℕ → ℕ → ℕ) → State → Type 0
Stands extra s = Steady extra (λ _. ⊥) s

-- with other issues yet to settle
pub unsettled : (extra : ℕ → ℕ → ℕ) (P Q : ℕ → Type 0) (s : State) → Steady extra P s → (s.ledger.phase ≡ Continuous → (i : ℕ) → (Q i → ⊥) → Quiet i s.ledger.live) → Steady extra Q s
unsettled extra P Q s h q =
    record { sound = h.sound; numbers = h.numbers; stamps = h.stamps; covered = h.covered; rules = h.rules; used = h.used; few = h.few; few_stamps = h.few_stamps; quiet = q }

-- A call on its way from the state s: the trades so far, the state that they have come to, and the order that has been dropped since, if one was.
pub record SoFar (extra : ℕ → ℕ → ℕ) (P : ℕ → Type 0) (g : Option ℕ) (s : State) (ts : List Trade) (x : State) : Type 0 where
  pub steady : Steady extra P x
  pub start : Steady extra (λ _. Unit {0}) s
  pub fair : AllFair ts s.ledger.live
  pub whole : Whole s.ledger.live (after ts s.ledger.live)
  pub live : x.ledger.live ≡ dropped g (after ts s.ledger.live)
  pub phase : x.ledger.phase ≡ s.ledger.phase
  pub number : x.ledger.number ≡ s.ledger.number
  pub stamp : x.ledger.stamp ≡ s.ledger.stamp
  pub used : x.ledger.used ≡ s.ledger.used + length ts
  pub tape : x.tape ≡ s.tape ++ ts
  pub shares : (a i : ℕ) → shares_in (balance_of a i x.rows) + sold a i ts ≡ shares_in (balance_of a i s.rows) + bought a i ts
  pub opened : (a i : ℕ) → is_some (balance_of a i x.rows) ≡ is_some (balance_of a i s.rows)

pub sold_append : (a i : ℕ) (ts us : List Trade) → sold a i (ts ++ us) ≡ sold a i ts + sold a i us
sold_append a i [] us = omega arith
sold_append a i (t ∷ ts) us = omega (arith, sold_append a i ts us)

pub bought_append : (a i : ℕ) (ts us : List Trade) → bought a i (ts ++ us) ≡ bought a i ts + bought a i us
bought_append a i [] us = omega arith
bought_append a i (t ∷ ts) us = omega (arith, bought_append a i ts us)

pub begin : (extra : ℕ → ℕ → ℕ) (P : ℕ → Type 0) (s : State) → Steady extra P s → SoFar extra P None s [] s
begin extra P s h =
    record {
      steady = h;
      start = unsettled extra P (λ _. Unit {0}) s h (λ c i out. absurd (out tt));
      fair = tt;
      whole = λ n o e a. e;
      live = refl;
      phase = refl;
      number = refl;
      stamp = refl;
      used = omega arith;
      tape = sym (append-nil s.tape);
      shares = λ a i. refl;
      opened = λ a i. refl;
    }

pub all_after : (P : Order → Type 0) → ((q : ℕ) (o : Order) → P o → P (lowered q o)) → (ts : List Trade) (b : Book) → EveryOne P b → EveryOne P (after ts b)
all_after P low [] b h = h
all_after P low (t ∷ ts) b h =
    all_after P low ts (after_trade t b) (all_reduced P t.buy t.quantity (reduced t.sell t.quantity b) (λ o _ k. low t.quantity o k) (all_reduced P t.sell t.quantity b (λ o _ k. low t.quantity o k) h))

-- fair trades, and what they leave quiet
pub go_on : (extra : ℕ → ℕ → ℕ) (P Q : ℕ → Type 0) (g : Option ℕ) (s : State) (ts : List Trade) (x : State) (us : List Trade) → SoFar extra P g s ts x → AllFair us x.ledger.live →
    Whole x.ledger.live (after us x.ledger.live) → (x.ledger.phase ≡ Continuous → (j : ℕ) → (Q j → ⊥) → Quiet j (after us x.ledger.live)) → SoFar extra Q g s (ts ++ us) (executed us x)
go_on extra P Q g s ts x us h fair whole quiet =
    let b : Book = s.ledger.live in
    let made : Book = after ts b in
    let fair2 : AllFair us (dropped g made) = subst (AllFair us) h.live fair in
    let d = fair_dropped g us made fair2 in
    let settled = trades_settle extra us x.ledger.live x.rows h.steady.rules fair h.steady.covered in
    record {
      steady = record {
        sound = sound_after us x.ledger.live h.steady.sound;
        numbers = all_after (λ o. o.number ≤ x.ledger.number) (λ q o k. k) us x.ledger.live h.steady.numbers;
        stamps = all_after (λ o. o.stamp ≤ x.ledger.stamp) (λ q o k. k) us x.ledger.live h.steady.stamps;
        covered = settled.covered;
        rules = settled_kept us x.rows h.steady.rules;
        used = omega (arith, h.steady.used, length-append x.tape us);
        few = omega (arith, h.steady.few, count_trades us x.ledger.live fair);
        few_stamps = h.steady.few_stamps;
        quiet = quiet;
      };
      start = h.start;
      fair = fair_append ts us b h.fair d.0;
      whole = subst (Whole b) (sym (after_append ts us b)) (λ n o e all. h.whole n o (whole_dropped g us made fair2 (subst (λ c. Whole c (after us c)) h.live whole) n o e all) all);
      live = ap (after us) h.live ∙ d.1 ∙ ap (dropped g) (sym (after_append ts us b));
      phase = h.phase;
      number = h.number;
      stamp = h.stamp;
      used = omega (arith, h.used, length-append ts us);
      tape = ap (λ l. l ++ us) h.tape ∙ append_assoc s.tape ts us;
      shares = λ a i. omega (arith, settled.shares a i, h.shares a i, sold_append a i ts us, bought_append a i ts us);
      opened = λ a i. settled.opened a i ∙ h.opened a i;
    }

-- trades of an unsettled issue
pub go_on_in : (extra : ℕ → ℕ → ℕ) (P : ℕ → Type 0) (g : Option ℕ) (i : ℕ) → P i → (s : State) (ts : List Trade) (x : State) (us : List Trade) → SoFar extra P g s ts x → AllFair us x.ledger.live → Whole x.ledger.live (after us x.ledger.live) →
    EveryOne (λ t. t.issue ≡ i) us → SoFar extra P g s (ts ++ us) (executed us x)
go_on_in extra P g i here s ts x us h fair whole is =
    go_on extra P P g s ts x us h fair whole
    (λ c j out. quiet_local j x.ledger.live (after us x.ledger.live) (sym (issue_after i j us x.ledger.live (λ e. out (subst P e here)) fair is)) (h.steady.quiet c j out))

-- rounds settle an issue
pub rounds_on : (extra : ℕ → ℕ → ℕ) (P Q : ℕ → Type 0) (g : Option ℕ) (i : ℕ) → ((j : ℕ) → P j → (j ≡ i → ⊥) → Q j) → (s : State) (ts : List Trade) (x : State) → SoFar extra P g s ts x →
    SoFar extra Q g s (ts ++ (all_rounds i x.ledger.live).trades) (executed (all_rounds i x.ledger.live).trades x)
rounds_on extra P Q g i left s ts x h =
    let b : Book = x.ledger.live in
    let us : List Trade = (all_rounds i b).trades in
    let r = rounds_settle i b h.steady.sound in
    go_on extra P Q g s ts x us h r.trades.fair (rounds_whole (length b) i b h.steady.sound)
    (λ c j out. elim (cases_eq i j) [
      | inl e ↦ subst (λ k. Quiet k (after us b)) e r.quiet
      | inr ne ↦ r.still_quiet j (h.steady.quiet c j (λ p. out (left j p (λ e. ne (sym e)))))
    ])

-- ---- an order ends
pub backing_without : (a i n : ℕ) (b : Book) → Distinct number_of b → backing a i (without n b) + behind (find n b) a i ≡ backing a i b
backing_without a i n [] d = omega arith
backing_without a i n (x ∷ os) d = go (eqb x.number n) refl (backing_without a i n os d.1)
  where
    go : (t : Bool) → eqb x.number n ≡ t → backing a i (without n os) + behind (find n os) a i ≡ backing a i os →
        backing a i (cond (not t) (x ∷ without n os) (without n os)) + behind (cond t (Some x) (find n os)) a i ≡ cond (sells_of a i x) x.left 0 + backing a i os
    go true e ih =
        let same = eqb-true x.number n e in
        let rest = without_missing n os (All-weaker (λ y. y.number ≡ x.number → ⊥) (λ y. y.number ≡ n → ⊥) (λ y k e2. k (e2 ∙ sym same)) os d.0) in
        rw rest (omega arith)
    go false e ih = omega arith

issue_without : (i j n : ℕ) (b : Book) → (i ≡ j → ⊥) → EveryOne (λ o. o.number ≡ n → o.issue ≡ i) b → of_issue j (without n b) ≡ of_issue j b
issue_without i j n [] ne h = refl
issue_without i j n (x ∷ os) ne h = let ih = issue_without i j n os ne h.1 in let here = h.0 in grind (arith, nat_tests)

-- the state that the end of the order n leaves
abbrev pub ended : ℕ → State → State
ended n x =
    record { ledger = with_live (without n x.ledger.live) x.ledger; closes = x.closes; rows = ended_rows (find n x.ledger.live) x.rows; tape = x.tape }

pub record EndedWell (extra : ℕ → ℕ → ℕ) (P : ℕ → Type 0) (x y : State) : Type 0 where
  pub steady : Steady extra P y
  pub shares : (a i : ℕ) → shares_in (balance_of a i y.rows) ≡ shares_in (balance_of a i x.rows)
  pub opened : (a i : ℕ) → is_some (balance_of a i y.rows) ≡ is_some (balance_of a i x.rows)

pub steady_ended : (extra : ℕ → ℕ → ℕ) (P : ℕ → Type 0) (n i : ℕ) (x : State) → P i → EveryOne (λ o. o.number ≡ n → o.issue ≡ i) x.ledger.live → Steady extra P x → EndedWell extra P x (ended n x)
steady_ended extra P n i x here is h =
    let b : Book = x.ledger.live in
    let p = λ (o : Order). not (eqb o.number n) in
    let bk = λ (a j : ℕ). backing_without a j n b (distinct_ascending b h.sound.ascending) in
    let open_pair : (o : Order) → find n b ≡ Some o → is_some (balance_of o.account o.issue x.rows) ≡ true = λ o e. found_all (λ y. is_open y.account y.issue x.rows ≡ true) n b o h.covered.pairs e in
    let f = ended_moves (find n b) x.rows h.rules open_pair (λ a j. omega (arith, bk a j, h.covered.held a j)) in
    record {
      steady = record {
        sound = sound_dropped (Some n) b h.sound;
        numbers = all_kept_by p (λ o. o.number ≤ x.ledger.number) b h.numbers;
        stamps = all_kept_by p (λ o. o.stamp ≤ x.ledger.stamp) b h.stamps;
        covered = record {
          pairs = All-weaker (λ o. is_open o.account o.issue x.rows ≡ true) (λ o. is_open o.account o.issue (ended n x).rows ≡ true) (λ o e. f.opened o.account o.issue ∙ e) (without n b)
              (all_kept_by p (λ o. is_open o.account o.issue x.rows ≡ true) b h.covered.pairs);
          held = λ a j. omega (arith, f.held a j, bk a j, h.covered.held a j);
        };
        rules = f.rules;
        used = h.used;
        few = omega (arith, h.few, few_dropped (Some n) b);
        few_stamps = h.few_stamps;
        quiet = λ c j out. quiet_local j b (without n b) (sym (issue_without i j n b (λ e. out (subst P e here)) is)) (h.quiet c j out);
      };
      shares = λ a j. omega (arith, f.shares a j);
      opened = f.opened;
    }

pub ended_on : (extra : ℕ → ℕ → ℕ) (P : ℕ → Type 0) (n i : ℕ) (s : State) (ts : List Trade) (x : State) → P i → EveryOne (λ o. o.number ≡ n → o.issue ≡ i) x.ledger.live →
    SoFar extra P None s ts x → SoFar extra P (Some n) s ts (ended n x)
ended_on extra P n i s ts x here is h =
    let e = steady_ended extra P n i x here is h.steady in
    record {
      steady = e.steady;
      start = h.start;
      fair = h.fair;
      whole = h.whole;
      live = ap (without n) h.live;
      phase = h.phase;
      number = h.number;
      stamp = h.stamp;
      used = h.used;
      tape = h.tape;
      shares = λ a j. omega (arith, e.shares a j, h.shares a j);
      opened = λ a j. e.opened a j ∙ h.opened a j;
    }
