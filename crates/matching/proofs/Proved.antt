-- The laws of attempts and rounds.
use Rattle.std.proofs.Common.{◌≡◌, ℕ, zero, suc, ◌<◌, ◌≤◌, Bool, not, eqb, List, [], ◌∷◌, ◌++◌, length, Some, None, filter, Option, sym, refl, ap, ◌∙◌, subst, inl, inr, arith, length-append}
use Rattle.std.proofs.lemmas.Bool.{cond_both, cases_eq}
use Rattle.std.proofs.lemmas.List.{nil_from_length}
use Rattle.std.proofs.ByRecursion.{all_kept_by, All-append}
use Rattle.std.specs.List.{AllByRecursion as EveryOne}
use Rattle.orders.specs.declared.order.Order.{Order}
use Rattle.orders.specs.declared.order.Trade.{Trade}
use Rattle.orders.specs.declared.order.Side.{Side}
use Rattle.orders.specs.Orders.{Valid}
use Rattle.orders.specs.Rank.{ahead}
use Rattle.orders.specs.Search.{In}
use Rattle.orders.specs.Book.{Book, stamp_of, after}
use Rattle.orders.specs.Laws.{Ascending, Sound, AllFair}
use Rattle.orders.specs.Lists.{in_all, in_kept}
use Rattle.orders.specs.Ranking.{distinct_kept, in_ranked}
use Rattle.orders.proofs.Changes.{length_without}
use Rattle.book.proofs.Tables.{tables_alike}
use Rattle.orders.proofs.Trades.{sound_after, count_trades, after_append, fair_append}
use Rattle.matching.specs.Walk.{faces, candidates, Part, parts}
use Rattle.matching.specs.Attempt.{trade_of, trades_of, attempt, attempt_of}
use Rattle.matching.specs.Rounds.{ready, active_in, Rounds, round, rounds, all_rounds}
use Rattle.matching.specs.Laws.{TradesWell, AtWaitingPrice, AttemptsFair, Quiet, RoundsSettle, dropped, CallsFit, RowsFree}
use Rattle.matching.proofs.Walking.{parts_all}
use Rattle.matching.proofs.Fairness.{attempt_fair, fair_attempt}
use Rattle.matching.proofs.Settling.{Acts, active_acts, live_found, one_round, quiet_from_none, rounds_none, rounds_some}
use Rattle.matching.proofs.Wholes.{Whole, whole_trades, attempt_whole}
use Rattle.matching.proofs.Issues.{quiet_local, issue_after, attempt_issue}

well : (b : Book) (ts : List Trade) → Sound b → AllFair ts b → Whole b (after ts b) → TradesWell b ts
well b ts s f w = record { fair = f; whole = whole_trades ts b s f w; sound = sound_after ts b s; few = count_trades ts b f }

-- each trade of an attempt is at the waiting order's price
at_price : (s : Side) (a o : Order) (b : Book) (q : ℕ) → In o b → AtWaitingPrice a b (trade_of s a o q)
at_price s a o b q i = grind arith

all_at_price : (a : Order) (b : Book) (ps : List Part) → EveryOne (λ p. In p.from b) ps → EveryOne (AtWaitingPrice a b) (trades_of a ps)
all_at_price a b [] h = tt
all_at_price a b (p ∷ ps) h = (at_price a.side a p.from b p.quantity h.0, all_at_price a b ps h.1)

pub attempts_fair : AttemptsFair
attempts_fair a b s i w =
    let l = live_found b s a i in
    let fair = attempt_fair a b s l w in
    let walked = in_all (λ o. In o b) (candidates a b) (λ o j. (in_kept (faces a) b o (in_ranked ahead (filter (faces a) b) o j)).0) in
    record {
      trades = well b (attempt a b) s fair (attempt_whole a b s l w);
      others = λ j ne. issue_after a.issue j (attempt a b) b ne fair (attempt_issue a.issue a b refl);
      prices = all_at_price a b (parts a.term a.left (candidates a b)) (parts_all (λ o. In o b) a.term a.left (candidates a b) walked);
    }

-- ---- what holds of no trade, and of one round and the rounds after it, holds of rounds
module _ (i : ℕ) (Q : Book → List Trade → Type 0)
    (nil : (b : Book) → Q b [])
    (join : (b : Book) (a : Order) (us : List Trade) → Sound b → Acts i b a → Q (after (attempt a b) b) us → Q b (attempt a b ++ us)) where
  round_rule : (b : Book) → Sound b → (next : List Trade → Rounds) → ((ts : List Trade) → Q (after ts b) (next ts).trades) → (o : Option Order) → active_in i b ≡ o → Q b (round o b next).trades
  round_rule b s next k None e = nil b
  round_rule b s next k (Some a) e = join b a (next (attempt a b)).trades s (active_acts i b s a e) (k (attempt a b))

  rounds_rule : (k : ℕ) (b : Book) → Sound b → Q b (rounds k i b).trades
  rounds_rule zero b s = nil b
  rounds_rule (suc k) b s = round_rule b s (λ ts. rounds k i (after ts b)) (λ ts. rounds_rule k (after ts b) (sound_after ts b s)) (active_in i b) refl

pub rounds_fair : (k i : ℕ) (b : Book) → Sound b → AllFair (rounds k i b).trades b
rounds_fair k i b s =
    rounds_rule i (λ b ts. AllFair ts b) (λ _. tt) (λ b a us s acts h. fair_append (attempt a b) us b (attempt_fair a b s (live_found b s a acts.live) acts.works) h) k b s

pub rounds_issue : (k i : ℕ) (b : Book) → Sound b → EveryOne (λ t. t.issue ≡ i) (rounds k i b).trades
rounds_issue k i b s =
    rounds_rule i (λ _ ts. EveryOne (λ t. t.issue ≡ i) ts) (λ _. tt) (λ b a us s acts h. All-append (λ t. t.issue ≡ i) (attempt a b) us (attempt_issue i a b acts.issue) h) k b s

pub rounds_whole : (k i : ℕ) (b : Book) → Sound b → Whole b (after (rounds k i b).trades b)
rounds_whole k i b s =
    rounds_rule i (λ b ts. Whole b (after ts b)) (λ b n o e _. e)
    (λ b a us s acts h. subst (Whole b) (sym (after_append (attempt a b) us b)) (λ n o e all. attempt_whole a b s (live_found b s a acts.live) acts.works n o (h n o e all) all))
    k b s

-- ---- as many rounds as there are live orders are enough
none_active : (i : ℕ) (b : Book) → length b ≤ 0 → active_in i b ≡ None
none_active i b h = ap (active_in i) (nil_from_length b (omega arith))

record Over (i : ℕ) (b : Book) (r : Rounds) : Type 0 where
  none : active_in i (after r.trades b) ≡ None
  each : r.count ≤ length r.trades

rounds_over : (k i : ℕ) (b : Book) → Sound b → length b ≤ k → Over i b (rounds k i b)
rounds_over zero i b s h = record { none = none_active i b h; each = omega arith }
rounds_over (suc k) i b s h = go (λ c. rounds_over k i c) (active_in i b) refl
  where
    go : ((c : Book) → Sound c → length c ≤ k → Over i c (rounds k i c)) → (o : Option Order) → active_in i b ≡ o → Over i b (round o b (λ ts. rounds k i (after ts b)))
    go ih None e = record { none = e; each = omega arith }
    go ih (Some a) e =
        let one = one_round i b a s e in
        let ts = attempt a b in
        let r = rounds k i (after ts b) in
        let rest = ih (after ts b) (sound_after ts b s) (omega (arith, one.some, one.fewer)) in
        record { none = ap (active_in i) (after_append ts r.trades b) ∙ rest.none; each = omega (arith, length-append ts r.trades, rest.each, one.some) }

rounds_enough : (k j i : ℕ) (b : Book) → Sound b → length b ≤ k → length b ≤ j → rounds k i b ≡ rounds j i b
rounds_enough zero j i b s h l = sym (rounds_none j i b (none_active i b h))
rounds_enough (suc k) zero i b s h l = rounds_none (suc k) i b (none_active i b l)
rounds_enough (suc k) (suc j) i b s h l = go (λ c. rounds_enough k j i c) (active_in i b) refl
  where
    go : ((c : Book) → Sound c → length c ≤ k → length c ≤ j → rounds k i c ≡ rounds j i c) → (o : Option Order) → active_in i b ≡ o → rounds (suc k) i b ≡ rounds (suc j) i b
    go ih None e = rounds_none (suc k) i b e ∙ sym (rounds_none (suc j) i b e)
    go ih (Some a) e =
        let one = one_round i b a s e in
        let ts = attempt a b in
        let same = ih (after ts b) (sound_after ts b s) (omega (arith, one.some, one.fewer)) (omega (arith, one.some, one.fewer)) in
        rounds_some k i b a e ∙ ap (λ (r : Rounds). record { trades = ts ++ r.trades; count = suc r.count }) same ∙ sym (rounds_some j i b a e)

pub rounds_settle : RoundsSettle
rounds_settle i b s =
    let r = all_rounds i b in
    let fair = rounds_fair (length b) i b s in
    let over = rounds_over (length b) i b s (omega arith) in
    let quiet = quiet_from_none i (after r.trades b) over.none in
    let others = λ (j : ℕ) (ne : i ≡ j → ⊥). issue_after i j r.trades b ne fair (rounds_issue (length b) i b s) in
    record {
      trades = well b r.trades s fair (rounds_whole (length b) i b s);
      each = over.each;
      quiet = quiet;
      others = others;
      still_quiet = λ j q. elim (cases_eq i j) [ inl e ↦ subst (λ k. Quiet k (after r.trades b)) e quiet | inr ne ↦ quiet_local j b (after r.trades b) (sym (others j ne)) q ];
      enough = λ k h. rounds_enough k (length b) i b s h (omega arith);
    }

-- ---- a call
pub ascending_kept : (p : Order → Bool) (b : Book) → Ascending b → Ascending (filter p b)
ascending_kept p [] h = tt
ascending_kept p (o ∷ os) h =
    cond_both (p o) (o ∷ filter p os) (filter p os) Ascending (λ _. (all_kept_by p (λ x. o.number < x.number) os h.0, ascending_kept p os h.1)) (λ _. ascending_kept p os h.1)

pub sound_dropped : (d : Option ℕ) (b : Book) → Sound b → Sound (dropped d b)
sound_dropped None b s = s
sound_dropped (Some n) b s =
    let p = λ (o : Order). not (eqb o.number n) in
    record { ascending = ascending_kept p b s.ascending; valid = all_kept_by p Valid b s.valid; stamps = distinct_kept stamp_of p b s.stamps }

pub few_dropped : (d : Option ℕ) (b : Book) → length (dropped d b) ≤ length b
few_dropped None b = omega arith
few_dropped (Some n) b = length_without n b

pub calls_fit : CallsFit
calls_fit n d i b s =
    let ts = attempt_of n b in
    let c = dropped d (after ts b) in
    let sound = sound_dropped d (after ts b) (sound_after ts b s) in
    let us = (all_rounds i c).trades in
    let first = count_trades ts b (fair_attempt n b s) in
    let then = count_trades us c (rounds_fair (length c) i c sound) in
    record { sound = sound; few = omega (arith, first, then, few_dropped d (after ts b)) }

-- ---- the row decides nothing
pub rows_free : RowsFree
rows_free t u to from =
    let e = tables_alike t u to from in
    record {
      attempts = λ n. ap (attempt_of n) e;
      readies = λ i. ap (λ b. filter (ready i b) b) e;
      actives = λ i. ap (active_in i) e;
      all_alike = λ i. ap (all_rounds i) e;
      afters = λ ts. ap (after ts) e;
    }
