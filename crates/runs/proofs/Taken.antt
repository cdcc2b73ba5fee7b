-- The state that each accepted call leaves before its trades. Assumes nothing.
use Rattle.std.proofs.Common.{◌≡◌, ℕ, ◌+◌, ◌-◌, ◌<◌, ◌≤◌, min, Bool, true, false, cond, not, ◌&&◌, ltb, leb, ◌⊎◌, List, [], ◌∷◌, ◌++◌, length, is_some, Some, None, Option, sym, refl, ap, ◌∙◌, inl, inr, arith, length-append}
use Rattle.std.proofs.lemmas.Bool.{ltb-false, leb-false}
use Rattle.std.proofs.ByRecursion.{All-weaker, All-append}
use Rattle.std.specs.List.{AllByRecursion as EveryOne}
use Rattle.register.specs.declared.holding.Row.{Row}
use Rattle.register.specs.Rules.{lawful, balance_of}
use Rattle.orders.specs.declared.order.Order.{Order}
use Rattle.orders.specs.declared.order.Entry.{Entry}
use Rattle.orders.specs.declared.order.Term.{Term}
use Rattle.orders.specs.declared.order.Price.{Price}
use Rattle.orders.specs.Orders.{Valid, breaks_price, breaks_quantity, breaks_least}
use Rattle.orders.specs.Book.{Book, find, changed, amended, suspended, resumed, best_opposite}
use Rattle.orders.specs.Lists.{some_none, cond_either}
use Rattle.orders.proofs.Changes.{found_all, distinct_ascending, length_changed, length_without}
use Rattle.orders.proofs.Validity.{bounds_valid, bounds_from}
use Rattle.matching.proofs.Issues.{quiet_local}
use Rattle.rules.specs.declared.fault.MarketFault.{MarketFault}
use Rattle.rules.specs.declared.fault.MarketFault.TheVariants.{WrongPhase, UncleanStrip, ShortTape, BadPrice, BadQuantity, BadLeast}
use Rattle.rules.specs.Ledger.{Ledger, listed, restamps}
use Rattle.rules.specs.declared.lent.Lent.{Lent}
use Rattle.rules.specs.Refusals.{lent_refusal, terms_refusal, or_else, is_open, is_sell, is_market, too_few, short_for, limit_breaks, tape_short}
use Rattle.rules.specs.Market.{State, accepted}
use Rattle.rules.specs.Shares.{held_in, shares_in}
use Rattle.orders.specs.declared.order.Call.TheVariants.{Enter, Amend, Cancel, Suspend, Resume, Deposit, Withdraw, Reference, Open, Close}
use Rattle.orders.specs.Orders.{stamps_out}
use Rattle.rules.proofs.Limits.{limit_bounded}
use Rattle.runs.proofs.Pairs.{Moved, stays, none, at_pair, behind, covered_moves, recovered_moves, all_ended_moves, deposit_moves, withdraw_moves}
use Rattle.runs.proofs.Follow.{empty_quiet}
use Rattle.register.specs.Rules.{limit, total_of}
use Rattle.runs.proofs.Lists.{backing_append, sound_append, issue_append, Keeps, only_one, all_changed, issue_changed, one_changed, sound_changed, backing_changed}
use Rattle.runs.proofs.Steady.{Steady, Stands, unsettled, backing_without, steady_ended}

-- ---- the conditions of an accepted call are all false
pub both_pass : (x y : Option MarketFault) → or_else x y ≡ None → (x ≡ None) × (y ≡ None)
both_pass None y e = (refl, e)
both_pass (Some f) y e = some_none f e

pub one_pass : (t : Bool) (f : MarketFault) {rest : Option MarketFault} → cond t (Some f) rest ≡ None → (t ≡ false) × (rest ≡ None)
one_pass t f {rest} e = cond_either t (Some f) rest (λ r. r ≡ None) e (λ _ k. some_none f k) (λ no_fault k. (no_fault, k))

pub lent_passes : (wrong : Bool) (lent : Lent) (l : Ledger) → lent_refusal wrong lent l ≡ None → (wrong ≡ false) × (tape_short lent.room l ≡ false)
lent_passes wrong lent l e =
    let p = one_pass wrong WrongPhase e in
    let q = one_pass (not lent.clean) UncleanStrip p.1 in
    (p.0, (one_pass (tape_short lent.room l) ShortTape q.1).0)

pub terms_pass : (p : Price) (q : ℕ) (t : Term) → terms_refusal p q t ≡ None → (limit_breaks p ≡ false) × (breaks_quantity q ≡ false) × (breaks_least t q ≡ false)
terms_pass p q t e =
    let x = one_pass (limit_breaks p) BadPrice e in
    let y = one_pass (breaks_quantity q) BadQuantity x.1 in
    (x.0, y.0, (one_pass (breaks_least t q) BadLeast y.1).0)

pub room_left : (room : ℕ) (l : Ledger) → tape_short room l ≡ false → (l.used + length l.live) + 1 ≤ min room 32768
room_left room l e = omega (arith, ltb-false (min room 32768 - l.used) (length l.live + 1) e)

-- ---- an entry
valid_from : (o : Order) → breaks_price o.price ≡ false → breaks_quantity o.left ≡ false → breaks_least o.term o.left ≡ false → Valid o
valid_from o p q l = bounds_valid o (bounds_from o p q l)

-- From s to x: what is in each pair, and the state that the call has come to before its trades.
pub record Taken (extra : ℕ → ℕ → ℕ) (P : ℕ → Type 0) (out into : ℕ → ℕ → ℕ) (s x : State) : Type 0 where
  pub steady : Steady extra P x
  pub shares : (a i : ℕ) → shares_in (balance_of a i x.rows) + out a i ≡ shares_in (balance_of a i s.rows) + into a i
  pub opened : (a i : ℕ) → is_some (balance_of a i x.rows) ≡ is_some (balance_of a i s.rows)
  pub one_more : length x.ledger.live ≤ length s.ledger.live + 1

-- orders whose pairs are open stay so
open_still : (rs ss : List Row) → ((a i : ℕ) → is_some (balance_of a i ss) ≡ is_some (balance_of a i rs)) → (b : Book) → EveryOne (λ o. is_open o.account o.issue rs ≡ true) b → EveryOne (λ o. is_open o.account o.issue ss ≡ true) b
open_still rs ss same b h = All-weaker (λ o. is_open o.account o.issue rs ≡ true) (λ o. is_open o.account o.issue ss ≡ true) (λ o k. same o.account o.issue ∙ k) b h

pub enter_taken : (extra : ℕ → ℕ → ℕ) (s : State) (e : Entry) → Stands extra s → is_open e.account e.issue s.rows ≡ true → limit_breaks e.price ≡ false → breaks_quantity e.quantity ≡ false →
    breaks_least e.term e.quantity ≡ false → (is_market e.price && not (is_some (best_opposite e.issue e.side s.ledger.live))) ≡ false →
    (is_sell e.side && too_few e.account e.issue e.quantity s.rows) ≡ false → leb 256 (length s.ledger.live) ≡ false → stamps_out s.ledger.stamp ≡ false →
    Taken extra (λ j. j ≡ e.issue) none none s (accepted s (Enter e))
enter_taken extra s e h here price quantity least opposite enough full out =
    let l : Ledger = s.ledger in
    let b : Book = l.live in
    let o : Order = listed (l.number + 1) e l in
    let best : Option Order = best_opposite e.issue e.side b in
    let valid : Valid o = valid_from o (limit_bounded b h.sound.valid e.issue e.side e.price best refl opposite price) quantity least in
    let m = covered_moves e.side e o s.rows refl refl refl refl h.rules here enough in
    let more = length-append b (o ∷ []) in
    record {
      steady = record {
        sound = sound_append b o h.sound valid
            (All-weaker (λ x. x.number ≤ l.number) (λ x. x.number < l.number + 1) (λ x k. omega arith) b h.numbers)
            (All-weaker (λ x. x.stamp ≤ l.stamp) (λ x. x.stamp < l.stamp + 1) (λ x k. omega arith) b h.stamps);
        numbers = All-append (λ x. x.number ≤ l.number + 1) b (o ∷ []) (All-weaker (λ x. x.number ≤ l.number) (λ x. x.number ≤ l.number + 1) (λ x k. omega arith) b h.numbers) (omega arith, tt);
        stamps = All-append (λ x. x.stamp ≤ l.stamp + 1) b (o ∷ []) (All-weaker (λ x. x.stamp ≤ l.stamp) (λ x. x.stamp ≤ l.stamp + 1) (λ x k. omega arith) b h.stamps) (omega arith, tt);
        covered = record {
          pairs = All-append (λ x. is_open x.account x.issue (accepted s (Enter e)).rows ≡ true) b (o ∷ []) (open_still s.rows (accepted s (Enter e)).rows m.opened b h.covered.pairs) (m.opened e.account e.issue ∙ here, tt);
          held = λ a i. omega (arith, m.held a i, backing_append a i b o, h.covered.held a i);
        };
        rules = m.rules;
        used = h.used;
        few = omega (arith, more, leb-false 256 (length b) full);
        few_stamps = omega (arith, leb-false 1000000 l.stamp out);
        quiet = λ c j off. quiet_local j b (b ++ (o ∷ [])) (sym (issue_append j b o (λ k. off (sym k)))) (h.quiet c j (λ z. z));
      };
      shares = m.shares;
      opened = m.opened;
      one_more = omega (arith, more);
    }

-- ---- a live order changed in its place
change_taken : (extra : ℕ → ℕ → ℕ) (n : ℕ) (f : Order → Order) → Keeps f → (s x : State) (o : Order) → find n s.ledger.live ≡ Some o → Stands extra s → x.ledger.live ≡ changed n f s.ledger.live →
    Moved (behind (Some o)) (behind (Some (f o))) none none s.rows x.rows → x.ledger.number ≡ s.ledger.number → x.ledger.phase ≡ s.ledger.phase → x.ledger.used ≡ s.ledger.used → x.tape ≡ s.tape →
    ((f o).stamp ≡ o.stamp) ⊎ EveryOne (λ y. y.stamp < (f o).stamp) s.ledger.live → s.ledger.stamp ≤ x.ledger.stamp → (f o).stamp ≤ x.ledger.stamp → x.ledger.stamp ≤ 1000000 → Taken extra (λ j. j ≡ o.issue) none none s x
change_taken extra n f kp s x o e h is m num ph us tp new grows within most =
    let b : Book = s.ledger.live in
    let c : Book = changed n f b in
    let apart = distinct_ascending b h.sound.ascending in
    record {
      steady = record {
        sound = rw is (sound_changed n f kp b o h.sound e new);
        numbers = rw (is, num) (all_changed n f kp (λ y. y.number ≤ s.ledger.number) (λ y k. rw (kp.number y) k) b h.numbers);
        stamps = rw is (one_changed n f kp (λ y. y.stamp ≤ x.ledger.stamp) b o apart e within (All-weaker (λ y. y.stamp ≤ s.ledger.stamp) (λ y. y.stamp ≤ x.ledger.stamp) (λ y k. omega arith) b h.stamps));
        covered = rw is (record {
          pairs = open_still s.rows x.rows m.opened c (all_changed n f kp (λ y. is_open y.account y.issue s.rows ≡ true) (λ y k. rw (kp.account y, kp.issue y) k) b h.covered.pairs);
          held = λ a i. omega (arith, m.held a i, backing_changed n f kp a i b o apart e, h.covered.held a i);
        });
        rules = m.rules;
        used = us ∙ h.used ∙ ap length (sym tp);
        few = omega (arith, ap length is, length_changed n f b, h.few);
        few_stamps = most;
        quiet = λ k j off. rw is (quiet_local j b c (sym (issue_changed n f kp o.issue j (λ same. off (sym same)) b (only_one n b o h.sound.ascending e))) (h.quiet (sym ph ∙ k) j (λ z. z)));
      };
      shares = m.shares;
      opened = m.opened;
      one_more = omega (arith, ap length is, length_changed n f b);
    }

-- what stands behind a live order is held, and its pair is open
held_behind : (extra : ℕ → ℕ → ℕ) (n : ℕ) (s : State) (o : Order) → Stands extra s → find n s.ledger.live ≡ Some o → (a i : ℕ) → behind (Some o) a i ≤ held_in (balance_of a i s.rows)
held_behind extra n s o h e a i =
    let k = backing_without a i n s.ledger.live (distinct_ascending s.ledger.live h.sound.ascending) in
    let x = ap (λ r. behind r a i) e in
    omega (arith, h.covered.held a i)

open_behind : (extra : ℕ → ℕ → ℕ) (n : ℕ) (s : State) (o : Order) → Stands extra s → find n s.ledger.live ≡ Some o → is_some (balance_of o.account o.issue s.rows) ≡ true
open_behind extra n s o h e = found_all (λ y. is_open y.account y.issue s.rows ≡ true) n s.ledger.live o h.covered.pairs e

-- a new stamp is later than all
fresh : (extra : ℕ → ℕ → ℕ) (s : State) → Stands extra s → EveryOne (λ y. y.stamp < s.ledger.stamp + 1) s.ledger.live
fresh extra s h = All-weaker (λ y. y.stamp ≤ s.ledger.stamp) (λ y. y.stamp < s.ledger.stamp + 1) (λ y z. omega arith) s.ledger.live h.stamps

own_stamp : (extra : ℕ → ℕ → ℕ) (again : Bool) (s : State) (o : Order) → Stands extra s → (cond again (s.ledger.stamp + 1) o.stamp ≡ o.stamp) ⊎ EveryOne (λ y. y.stamp < cond again (s.ledger.stamp + 1) o.stamp) s.ledger.live
own_stamp extra true s o h = inr (fresh extra s h)
own_stamp extra false s o h = inl refl

grown : (again : Bool) (k : ℕ) → k ≤ cond again (k + 1) k
grown true k = omega arith
grown false k = omega arith

within_stamps : (again : Bool) (k m : ℕ) → m ≤ k → cond again (k + 1) m ≤ cond again (k + 1) k
within_stamps true k m h = omega arith
within_stamps false k m h = h

most_stamps : (again : Bool) (k : ℕ) → (again && stamps_out k) ≡ false → k ≤ 1000000 → cond again (k + 1) k ≤ 1000000
most_stamps true k e h = omega (arith, leb-false 1000000 k e)
most_stamps false k e h = h

last_stamp : (extra : ℕ → ℕ → ℕ) (n : ℕ) (s : State) (o : Order) → Stands extra s → find n s.ledger.live ≡ Some o → o.stamp ≤ s.ledger.stamp
last_stamp extra n s o h e = found_all (λ y. y.stamp ≤ s.ledger.stamp) n s.ledger.live o h.stamps e

pub amend_keeps : (q p : ℕ) (t : Term) (again : Bool) (k : ℕ) → breaks_price p ≡ false → breaks_quantity q ≡ false → breaks_least t q ≡ false → Keeps (amended q p t again k)
amend_keeps q p t again k fp fq fl =
    record { number = λ _. refl; account = λ _. refl; issue = λ _. refl; side = λ _. refl; valid = λ y _. valid_from (amended q p t again k y) fp fq fl }

pub amend_taken : (extra : ℕ → ℕ → ℕ) (s : State) (n q p : ℕ) (t : Term) (o : Order) → Stands extra s → find n s.ledger.live ≡ Some o → breaks_price p ≡ false → breaks_quantity q ≡ false → breaks_least t q ≡ false →
    short_for (find n s.ledger.live) q s.rows ≡ false → (restamps (find n s.ledger.live) p t && stamps_out s.ledger.stamp) ≡ false → Taken extra (λ j. j ≡ o.issue) none none s (accepted s (Amend n q p t))
amend_taken extra s n q p t o h e fp fq fl short out =
    let k = s.ledger.stamp in
    let again : Bool = restamps (find n s.ledger.live) p t in
    let f = amended q p t again (k + 1) in
    let enough : (is_sell o.side && too_few o.account o.issue (q - o.left) s.rows) ≡ false = sym (ap (λ r. short_for r q s.rows) e) ∙ short in
    let m = recovered_moves o.side o (f o) q s.rows refl refl refl refl refl h.rules (open_behind extra n s o h e) (held_behind extra n s o h e) enough in
    change_taken extra n f (amend_keeps q p t again (k + 1) fp fq fl) s (accepted s (Amend n q p t)) o e h refl (rw e m) refl refl refl refl (own_stamp extra again s o h) (grown again k) (within_stamps again k o.stamp (last_stamp extra n s o h e)) (most_stamps again k out h.few_stamps)

same_bounds : (f : Order → Order) → ((o : Order) → (f o).price ≡ o.price) → ((o : Order) → (f o).left ≡ o.left) → ((o : Order) → (f o).term ≡ o.term) → (o : Order) → Valid o → Valid (f o)
same_bounds f fp fl ft o v =
    record { low = rw (fp o) v.low; high = rw (fp o) v.high; tens = rw (fp o) v.tens; some = rw (fl o) v.some; most = rw (fl o) v.most; least = λ m e. let r = v.least m (sym (ft o) ∙ e) in (r.0, rw (fl o) r.1) }

-- the same shares stand behind the order
unmoved : (rs : List Row) (o p : Order) → lawful rs ≡ true → ((a i : ℕ) → behind (Some o) a i ≡ behind (Some p) a i) → Moved (behind (Some o)) (behind (Some p)) none none rs rs
unmoved rs o p w same = record { held = λ a i. omega (arith, same a i); shares = λ a i. refl; opened = λ a i. refl; rules = w }

pub suspend_keeps : Keeps suspended
suspend_keeps = record { number = λ _. refl; account = λ _. refl; issue = λ _. refl; side = λ _. refl; valid = same_bounds suspended (λ _. refl) (λ _. refl) (λ _. refl) }

pub suspend_taken : (extra : ℕ → ℕ → ℕ) (s : State) (n : ℕ) (o : Order) → Stands extra s → find n s.ledger.live ≡ Some o → Taken extra (λ j. j ≡ o.issue) none none s (accepted s (Suspend n))
suspend_taken extra s n o h e =
    change_taken extra n suspended suspend_keeps s (accepted s (Suspend n)) o e h refl (unmoved s.rows o (suspended o) h.rules (λ a i. refl)) refl refl refl refl (inl refl) (omega arith) (last_stamp extra n s o h e) h.few_stamps

pub resume_keeps : (k : ℕ) → Keeps (resumed k)
resume_keeps k = record { number = λ _. refl; account = λ _. refl; issue = λ _. refl; side = λ _. refl; valid = same_bounds (resumed k) (λ _. refl) (λ _. refl) (λ _. refl) }

pub resume_taken : (extra : ℕ → ℕ → ℕ) (s : State) (n : ℕ) (o : Order) → Stands extra s → find n s.ledger.live ≡ Some o → stamps_out s.ledger.stamp ≡ false → Taken extra (λ j. j ≡ o.issue) none none s (accepted s (Resume n))
resume_taken extra s n o h e out =
    let k = s.ledger.stamp in
    change_taken extra n (resumed (k + 1)) (resume_keeps (k + 1)) s (accepted s (Resume n)) o e h refl (unmoved s.rows o (resumed (k + 1) o) h.rules (λ a i. refl)) refl refl refl refl (inr (fresh extra s h)) (omega arith) (omega arith) (omega (arith, leb-false 1000000 k out))

-- ---- a live order ended
pub cancel_taken : (extra : ℕ → ℕ → ℕ) (s : State) (n : ℕ) (o : Order) → Stands extra s → find n s.ledger.live ≡ Some o → Taken extra (λ j. j ≡ o.issue) none none s (accepted s (Cancel n))
cancel_taken extra s n o h e =
    let loose = unsettled extra (λ _. ⊥) (λ j. j ≡ o.issue) s h (λ c j off. h.quiet c j (λ z. z)) in
    let w = steady_ended extra (λ j. j ≡ o.issue) n o.issue s refl (only_one n s.ledger.live o h.sound.ascending e) loose in
    record { steady = w.steady; shares = λ a i. omega (arith, w.shares a i); opened = w.opened; one_more = omega (arith, length_without n s.ledger.live) }

-- ---- the register alone
rows_taken : (extra : ℕ → ℕ → ℕ) (out into : ℕ → ℕ → ℕ) (s x : State) → Stands extra s → x.ledger ≡ s.ledger → x.tape ≡ s.tape → Moved none none out into s.rows x.rows → Taken extra (λ _. ⊥) out into s x
rows_taken extra out into s x h el et m =
    record {
      steady = record {
        sound = rw el h.sound;
        numbers = rw el h.numbers;
        stamps = rw el h.stamps;
        covered = rw el (record { pairs = open_still s.rows x.rows m.opened s.ledger.live h.covered.pairs; held = λ a i. omega (arith, m.held a i, h.covered.held a i) });
        rules = m.rules;
        used = rw (el, et) h.used;
        few = rw el h.few;
        few_stamps = rw el h.few_stamps;
        quiet = rw el h.quiet;
      };
      shares = m.shares;
      opened = m.opened;
      one_more = omega (arith, ap (λ (l : Ledger). length l.live) el);
    }

pub deposit_taken : (extra : ℕ → ℕ → ℕ) (s : State) (c j q : ℕ) → Stands extra s → is_open c j s.rows ≡ true → ltb limit (total_of j s.rows + q) ≡ false → Taken extra (λ _. ⊥) none (at_pair c j q) s (accepted s (Deposit c j q))
deposit_taken extra s c j q h here room = rows_taken extra none (at_pair c j q) s (accepted s (Deposit c j q)) h refl refl (deposit_moves c j q s.rows h.rules here (ltb-false _ _ room))

pub withdraw_taken : (extra : ℕ → ℕ → ℕ) (s : State) (c j q : ℕ) → Stands extra s → is_open c j s.rows ≡ true → too_few c j q s.rows ≡ false → Taken extra (λ _. ⊥) (at_pair c j q) none s (accepted s (Withdraw c j q))
withdraw_taken extra s c j q h here enough = rows_taken extra (at_pair c j q) none s (accepted s (Withdraw c j q)) h refl refl (withdraw_moves c j q s.rows h.rules here (ltb-false _ _ enough))

pub reference_taken : (extra : ℕ → ℕ → ℕ) (s : State) (i p : ℕ) → Stands extra s → Taken extra (λ _. ⊥) none none s (accepted s (Reference i p))
reference_taken extra s i p h = rows_taken extra none none s (accepted s (Reference i p)) h refl refl (stays s.rows h.rules)

-- ---- the market opens: every issue is unsettled; and closes
pub open_taken : (extra : ℕ → ℕ → ℕ) (s : State) → Stands extra s → Taken extra (λ _. Unit {0}) none none s (accepted s Open)
open_taken extra s h =
    record {
      steady = record {
        sound = h.sound;
        numbers = h.numbers;
        stamps = h.stamps;
        covered = h.covered;
        rules = h.rules;
        used = h.used;
        few = h.few;
        few_stamps = h.few_stamps;
        quiet = λ c j off. absurd (off tt);
      };
      shares = λ a i. refl;
      opened = λ a i. refl;
      one_more = omega arith;
    }

pub close_taken : (extra : ℕ → ℕ → ℕ) (s : State) → Stands extra s → Taken extra (λ _. ⊥) none none s (accepted s Close)
close_taken extra s h =
    let m = all_ended_moves s.ledger.live s.rows h.rules h.covered.pairs (λ a i. omega (arith, h.covered.held a i)) in
    record {
      steady = record {
        sound = record { ascending = tt; valid = tt; stamps = tt };
        numbers = tt;
        stamps = tt;
        covered = record { pairs = tt; held = λ a i. omega (arith, m.held a i, h.covered.held a i) };
        rules = m.rules;
        used = h.used;
        few = omega arith;
        few_stamps = h.few_stamps;
        quiet = λ c j off. empty_quiet j;
      };
      shares = m.shares;
      opened = m.opened;
      one_more = omega arith;
    }
