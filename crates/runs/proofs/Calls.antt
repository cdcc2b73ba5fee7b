-- Each call keeps what the market promises. Assumes nothing.
use Rattle.std.proofs.Common.{◌≡◌, ℕ, ◌+◌, ◌≤◌, min, Bool, true, false, not, ◌&&◌, ltb, leb, ◌⊎◌, List, [], ◌∷◌, ◌++◌, length, is_some, Some, None, Ok, Err, Option, sym, refl, ap, ◌∙◌, subst, inl, inr, arith, append-nil}
use Rattle.std.proofs.lemmas.Bool.{not-false, or_parts}
use Rattle.std.proofs.ByRecursion.{All-weaker, All-append}
use Rattle.std.specs.List.{AllByRecursion as EveryOne}
use Rattle.register.specs.declared.fault.RegisterFault.TheVariants.{NotOpen, ShortFree, OverTotal}
use Rattle.register.specs.Rules.{limit, balance_of, total_of}
use Rattle.orders.specs.declared.order.Order.{Order}
use Rattle.orders.specs.declared.order.Trade.{Trade}
use Rattle.orders.specs.declared.order.Entry.{Entry}
use Rattle.orders.specs.declared.order.Term.{Term}
use Rattle.orders.specs.declared.order.Life.{Life}
use Rattle.orders.specs.declared.order.Life.TheVariants.{Day, Now}
use Rattle.orders.specs.declared.order.Price.TheVariants.{Limit}
use Rattle.orders.specs.declared.order.Call.{Call}
use Rattle.orders.specs.declared.order.Call.TheVariants.{Enter, Amend, Cancel, Suspend, Resume, Deposit, Withdraw, Reference, Open, Close}
use Rattle.orders.specs.Orders.{never_given, stamps_out}
use Rattle.orders.specs.Book.{Book, find, best_opposite, amended, resumed, after}
use Rattle.orders.specs.Laws.{Sound, AllFair}
use Rattle.orders.proofs.Trades.{count_trades}
use Rattle.matching.specs.Laws.{dropped}
use Rattle.matching.proofs.Wholes.{Whole}
use Rattle.rules.specs.declared.outcome.Phase.{Phase}
use Rattle.rules.specs.declared.outcome.Phase.TheVariants.{PreOpen, Continuous, Closed}
use Rattle.rules.specs.declared.outcome.Outcome.{Outcome}
use Rattle.rules.specs.declared.fault.MarketFault.{MarketFault}
use Rattle.rules.specs.declared.fault.MarketFault.TheVariants.{WrongPhase, NeverGiven, OrderEnded, NothingToChange, NoneOpposite, BookFull, StampsOut, InRegister}
use Rattle.rules.specs.Ledger.{Ledger, noted, listed, restamps}
use Rattle.rules.specs.declared.lent.Lent.{Lent}
use Rattle.rules.specs.Refusals.{is_pre_open, is_closed, is_now, is_market, is_sell, is_open, too_few, works, short_for, wrong_to_enter, live_refusal, refusal}
use Rattle.rules.specs.Market.{State, Answer, number_for, accepted, followed, decided, step, issue_of}
use Rattle.rules.specs.Shares.{shares_in, bought, sold}
use Rattle.runs.specs.Record.{now_order, before_trades, trades_in, after_call}
use Rattle.runs.specs.Promise.{brought, taken}
use Rattle.runs.proofs.Pairs.{none}
use Rattle.runs.proofs.Lists.{names_changed}
use Rattle.runs.proofs.Steady.{Stands, SoFar, begin}
use Rattle.runs.proofs.Follow.{Over, Names, finish, tried_on, opening_on}
use Rattle.runs.proofs.Taken.{one_pass, lent_passes, terms_pass, both_pass, room_left, Taken, enter_taken, amend_keeps, amend_taken, suspend_taken, resume_keeps, resume_taken, cancel_taken, deposit_taken, withdraw_taken, reference_taken, open_taken, close_taken}

-- One call: the trades that it adds to the tape, as many as its answer says. They are fair on the ledger as the call leaves it before trading, and make
-- of it the ledger that it leaves. Shares change by deposits, withdrawals and trades alone; and the state that it leaves stands.
pub record CallKeeps (extra : ℕ → ℕ → ℕ) (room : ℕ) (s : State) (c : Call) (y : Answer × State) : Type 0 where
  pub trades : List Trade
  pub counted : length trades ≡ trades_in y.0
  pub fits : (trades ≡ []) ⊎ (s.ledger.used + length trades ≤ min room 32768)
  pub sound : Sound (before_trades c y.0 s.ledger).live
  pub numbers : EveryOne (λ o. o.number ≤ (before_trades c y.0 s.ledger).number) (before_trades c y.0 s.ledger).live
  pub fair : AllFair trades (before_trades c y.0 s.ledger).live
  pub whole : Whole (before_trades c y.0 s.ledger).live (after trades (before_trades c y.0 s.ledger).live)
  pub ledger : y.1.ledger ≡ after_call c y.0 trades s.ledger
  pub next : (e : Entry) (d : Outcome) → c ≡ Enter e → y.0 ≡ Ok d → d.number ≡ s.ledger.number + 1
  pub tape : y.1.tape ≡ s.tape ++ trades
  pub shares : (a i : ℕ) → (shares_in (balance_of a i y.1.rows) + sold a i trades) + taken a i c y.0 ≡ (shares_in (balance_of a i s.rows) + bought a i trades) + brought a i c y.0
  pub opened : (a i : ℕ) → is_some (balance_of a i y.1.rows) ≡ is_some (balance_of a i s.rows)
  pub stands : Stands extra y.1

same_ledger : {p q : Phase} {b c : Book} {m n j k t u : ℕ} → p ≡ q → b ≡ c → m ≡ n → j ≡ k → t ≡ u →
    ◌≡◌ {A = Ledger} (record { phase = p; live = b; number = m; stamp = j; used = t }) (record { phase = q; live = c; number = n; stamp = k; used = u })
same_ledger ep eb em ej et = cc

ledger_from : (k m : Ledger) → k.phase ≡ m.phase → k.live ≡ m.live → k.number ≡ m.number → k.stamp ≡ m.stamp → k.used ≡ m.used → k ≡ m
ledger_from k m ep el en es eu = same_ledger ep el en es eu

-- no call changes how many records are used before its trades
used_noted : (c : Call) (n : ℕ) (l : Ledger) → (noted c n l).used ≡ l.used
used_noted (Enter e) n l = refl
used_noted (Amend k q p t) n l = refl
used_noted (Cancel k) n l = refl
used_noted (Suspend k) n l = refl
used_noted (Resume k) n l = refl
used_noted (Deposit a i q) n l = refl
used_noted (Withdraw a i q) n l = refl
used_noted (Reference i p) n l = refl
used_noted Open n l = refl
used_noted Close n l = refl

entry_number : (c : Call) (l : Ledger) (e : Entry) → c ≡ Enter e → number_for c l ≡ l.number + 1
entry_number c l e k = ap (λ x. number_for x l) k

-- where a call may trade, its trades find room
abbrev Fits : ℕ → State → Type 0
Fits room s = (ts : List Trade) → length ts ≤ length s.ledger.live + 1 → (ts ≡ []) ⊎ (s.ledger.used + length ts ≤ min room 32768)

has_room : (room : ℕ) (s : State) → (s.ledger.used + length s.ledger.live) + 1 ≤ min room 32768 → Fits room s
has_room room s h ts few = inr (omega arith)

-- from the state that a call is accepted into to the whole call
over_at : (extra : ℕ → ℕ → ℕ) (room : ℕ) (P : ℕ → Type 0) (out into : ℕ → ℕ → ℕ) (s : State) (c : Call) (d : Outcome) (x : State) (ts : List Trade) →
    d.number ≡ number_for c s.ledger → d.trades ≡ length ts → SoFar extra (λ _. ⊥) (now_order c (number_for c s.ledger)) (accepted s c) ts x →
    Taken extra P out into s (accepted s c) → ((a i : ℕ) → out a i ≡ taken a i c (Ok d)) → ((a i : ℕ) → into a i ≡ brought a i c (Ok d)) → (length ts ≤ length s.ledger.live + 1 → (ts ≡ []) ⊎ (s.ledger.used + length ts ≤ min room 32768)) →
    CallKeeps extra room s c (Ok d, x)
over_at extra room P out into s c d x ts num count far tk eo ei fit =
    let l : Ledger = s.ledger in
    let n : ℕ = number_for c l in
    let base = λ (k : ℕ). noted c k l in
    let b : Book = (base n).live in
    let back : n ≡ d.number = sym num in
    record {
      trades = ts;
      counted = sym count;
      fits = fit (omega (arith, count_trades ts b far.fair, tk.one_more));
      sound = subst (λ k. Sound (base k).live) back far.start.sound;
      numbers = subst (λ k. EveryOne (λ o. o.number ≤ (base k).number) (base k).live) back far.start.numbers;
      fair = subst (λ k. AllFair ts (base k).live) back far.fair;
      whole = subst (λ k. Whole (base k).live (after ts (base k).live)) back far.whole;
      ledger = ledger_from x.ledger (after_call c (Ok d) ts l)
          (far.phase ∙ ap (λ k. (base k).phase) back)
          (far.live ∙ ap (λ k. dropped (now_order c k) (after ts (base k).live)) back)
          (far.number ∙ ap (λ k. (base k).number) back)
          (far.stamp ∙ ap (λ k. (base k).stamp) back)
          (far.used ∙ ap (λ m. (base n).used + m) (sym count) ∙ ap (λ k. (base k).used + d.trades) back);
      next = λ e f is same. (let one : d ≡ f = cc in ap (λ (g : Outcome). g.number) (sym one) ∙ num ∙ entry_number c l e is);
      tape = far.tape;
      shares = λ a i. omega (arith, far.shares a i, tk.shares a i, eo a i, ei a i);
      opened = λ a i. far.opened a i ∙ tk.opened a i;
      stands = far.steady;
    }

over_keeps : (extra : ℕ → ℕ → ℕ) (room : ℕ) (P : ℕ → Type 0) (out into : ℕ → ℕ → ℕ) (s : State) (c : Call) (y : Answer × State) →
    Over extra (now_order c (number_for c s.ledger)) (number_for c s.ledger) (accepted s c) y → Taken extra P out into s (accepted s c) →
    ((d : Outcome) (a i : ℕ) → out a i ≡ taken a i c (Ok d)) → ((d : Outcome) (a i : ℕ) → into a i ≡ brought a i c (Ok d)) → Fits room s → CallKeeps extra room s c y
over_keeps extra room P out into s c y o tk eo ei fit =
    subst (λ a. CallKeeps extra room s c (a, y.1)) (sym o.answer)
    (over_at extra room P out into s c o.outcome y.1 o.trades o.number o.counted o.far tk (eo o.outcome) (ei o.outcome) (fit o.trades))

-- ---- the live order that a call names
found_is : (r : Option Order) → not (is_some r) ≡ false → (o : Order) × (r ≡ Some o)
found_is None e = absurd cc
found_is (Some o) e = (o, refl)

record LiveCall (lent : Lent) (s : State) (n : ℕ) : Type 0 where
  room : (s.ledger.used + length s.ledger.live) + 1 ≤ min lent.room 32768
  order : Order
  found : find n s.ledger.live ≡ Some order

live_call : (lent : Lent) (s : State) (n : ℕ) → live_refusal lent s.ledger n ≡ None → LiveCall lent s n
live_call lent s n e =
    let p = both_pass _ _ e in
    let one = lent_passes (is_closed s.ledger.phase) lent s.ledger p.0 in
    let two = one_pass (never_given s.ledger.number n) NeverGiven p.1 in
    let f = found_is (find n s.ledger.live) (one_pass (not (is_some (find n s.ledger.live))) OrderEnded two.1).0 in
    record { room = room_left lent.room s.ledger one.1; order = f.0; found = f.1 }

-- a now order is entered in continuous trading alone
enter_life : (p : Phase) (e : Entry) → wrong_to_enter p e ≡ false → (life : Life) → e.life ≡ life → (p ≡ Continuous) ⊎ (life ≡ Day)
enter_life PreOpen e f Day k = inr refl
enter_life PreOpen e f Now k =
    let t : is_now e.life ≡ false = (or_parts (is_market e.price) (is_now e.life) f).1 in
    let u : true ≡ false = sym (ap is_now k) ∙ t in
    absurd cc
enter_life Continuous e f life k = inl refl
enter_life Closed e f life k = absurd cc

enter_names : (extra : ℕ → ℕ → ℕ) (s : State) (e : Entry) → Stands extra s → Names (s.ledger.number + 1) e.issue (accepted s (Enter e)).ledger.live
enter_names extra s e h =
    let l : Ledger = s.ledger in
    All-append (λ o. o.number ≡ l.number + 1 → o.issue ≡ e.issue) l.live (listed (l.number + 1) e l ∷ [])
    (All-weaker (λ o. o.number ≤ l.number) (λ o. o.number ≡ l.number + 1 → o.issue ≡ e.issue) (λ o k same. absurd (omega arith)) l.live h.numbers) ((λ _. refl), tt)

enter_keeps : (extra : ℕ → ℕ → ℕ) (lent : Lent) (s : State) (e : Entry) → Stands extra s → refusal lent s.ledger s.rows (Enter e) ≡ None → CallKeeps extra lent.room s (Enter e) (followed s.ledger (Enter e) (accepted s (Enter e)))
enter_keeps extra lent s e h none_refused =
    let l : Ledger = s.ledger in
    let p = both_pass _ _ none_refused in
    let q = both_pass _ _ p.1 in
    let r = both_pass _ _ q.1 in
    let first = lent_passes (wrong_to_enter l.phase e) lent l p.0 in
    let pair = one_pass (not (is_open e.account e.issue s.rows)) (InRegister NotOpen) q.0 in
    let terms = terms_pass e.price e.quantity e.term r.0 in
    let opposite = one_pass (is_market e.price && not (is_some (best_opposite e.issue e.side l.live))) NoneOpposite r.1 in
    let enough = one_pass (is_sell e.side && too_few e.account e.issue e.quantity s.rows) (InRegister ShortFree) opposite.1 in
    let full = one_pass (leb 256 (length l.live)) BookFull enough.1 in
    let out = one_pass (stamps_out l.stamp) StampsOut full.1 in
    let t = enter_taken extra s e h (not-false _ pair.0) terms.0 terms.1 terms.2 opposite.0 enough.0 full.0 out.0 in
    over_keeps extra lent.room (λ j. j ≡ e.issue) none none s (Enter e) _
    (tried_on extra e.life (l.number + 1) e.issue (accepted s (Enter e)) t.steady (enter_names extra s e h) l.phase refl (enter_life l.phase e first.0 e.life refl))
    t (λ d a i. refl) (λ d a i. refl) (has_room lent.room s (room_left lent.room l first.1))

issue_is : (n : ℕ) (b : Book) (o : Order) → find n b ≡ Some o → o.issue ≡ issue_of (find n b)
issue_is n b o e = sym (ap issue_of e)

amend_keeps_call : (extra : ℕ → ℕ → ℕ) (lent : Lent) (s : State) (n q p : ℕ) (t : Term) → Stands extra s → refusal lent s.ledger s.rows (Amend n q p t) ≡ None → CallKeeps extra lent.room s (Amend n q p t) (followed s.ledger (Amend n q p t) (accepted s (Amend n q p t)))
amend_keeps_call extra lent s n q p t h none_refused =
    let l : Ledger = s.ledger in
    let c : Call = Amend n q p t in
    let x = both_pass _ _ none_refused in
    let y = both_pass _ _ x.1 in
    let live = live_call lent s n x.0 in
    let terms = terms_pass (Limit p) q t y.0 in
    let short = one_pass (short_for (find n l.live) q s.rows) (InRegister ShortFree) y.1 in
    let out = one_pass (restamps (find n l.live) p t && stamps_out l.stamp) StampsOut short.1 in
    let o = live.order in
    let again : Bool = restamps (find n l.live) p t in
    let tk = amend_taken extra s n q p t o h live.found terms.0 terms.1 terms.2 short.0 out.0 in
    let kp = amend_keeps q p t again (l.stamp + 1) terms.0 terms.1 terms.2 in
    let is = issue_is n l.live o live.found in
    over_keeps extra lent.room (λ j. j ≡ o.issue) none none s c _
    (rw (← is) (tried_on extra Day n o.issue (accepted s c) tk.steady (names_changed n (amended q p t again (l.stamp + 1)) kp l.live o h.sound.ascending live.found) l.phase refl (inr refl)))
    tk (λ d a i. refl) (λ d a i. refl) (has_room lent.room s live.room)

cancel_keeps : (extra : ℕ → ℕ → ℕ) (lent : Lent) (s : State) (n : ℕ) → Stands extra s → refusal lent s.ledger s.rows (Cancel n) ≡ None → CallKeeps extra lent.room s (Cancel n) (followed s.ledger (Cancel n) (accepted s (Cancel n)))
cancel_keeps extra lent s n h none_refused =
    let l : Ledger = s.ledger in
    let live = live_call lent s n none_refused in
    let o = live.order in
    let tk = cancel_taken extra s n o h live.found in
    let is = issue_is n l.live o live.found in
    over_keeps extra lent.room (λ j. j ≡ o.issue) none none s (Cancel n) _ (rw (← is) (finish extra n o.issue (accepted s (Cancel n)) tk.steady l.phase refl))
    tk (λ d a i. refl) (λ d a i. refl) (has_room lent.room s live.room)

suspend_keeps_call : (extra : ℕ → ℕ → ℕ) (lent : Lent) (s : State) (n : ℕ) → Stands extra s → refusal lent s.ledger s.rows (Suspend n) ≡ None → CallKeeps extra lent.room s (Suspend n) (followed s.ledger (Suspend n) (accepted s (Suspend n)))
suspend_keeps_call extra lent s n h none_refused =
    let l : Ledger = s.ledger in
    let live = live_call lent s n (both_pass _ _ none_refused).0 in
    let o = live.order in
    let tk = suspend_taken extra s n o h live.found in
    let is = issue_is n l.live o live.found in
    over_keeps extra lent.room (λ j. j ≡ o.issue) none none s (Suspend n) _ (rw (← is) (finish extra n o.issue (accepted s (Suspend n)) tk.steady l.phase refl))
    tk (λ d a i. refl) (λ d a i. refl) (has_room lent.room s live.room)

resume_keeps_call : (extra : ℕ → ℕ → ℕ) (lent : Lent) (s : State) (n : ℕ) → Stands extra s → refusal lent s.ledger s.rows (Resume n) ≡ None → CallKeeps extra lent.room s (Resume n) (followed s.ledger (Resume n) (accepted s (Resume n)))
resume_keeps_call extra lent s n h none_refused =
    let l : Ledger = s.ledger in
    let x = both_pass _ _ none_refused in
    let live = live_call lent s n x.0 in
    let works-not = one_pass (works (find n l.live)) NothingToChange x.1 in
    let out = one_pass (stamps_out l.stamp) StampsOut works-not.1 in
    let o = live.order in
    let tk = resume_taken extra s n o h live.found out.0 in
    let is = issue_is n l.live o live.found in
    over_keeps extra lent.room (λ j. j ≡ o.issue) none none s (Resume n) _
    (rw (← is) (tried_on extra Day n o.issue (accepted s (Resume n)) tk.steady (names_changed n (resumed (l.stamp + 1)) (resume_keeps (l.stamp + 1)) l.live o h.sound.ascending live.found) l.phase refl (inr refl)))
    tk (λ d a i. refl) (λ d a i. refl) (has_room lent.room s live.room)

-- a call that makes no trade
no_trade : (extra : ℕ → ℕ → ℕ) (room : ℕ) (out into : ℕ → ℕ → ℕ) (s : State) (c : Call) → number_for c s.ledger ≡ 0 → now_order c 0 ≡ None → Taken extra (λ _. ⊥) out into s (accepted s c) →
    ((d : Outcome) (a i : ℕ) → out a i ≡ taken a i c (Ok d)) → ((d : Outcome) (a i : ℕ) → into a i ≡ brought a i c (Ok d)) → CallKeeps extra room s c (Ok (record { number = 0; trades = 0; rounds = 0 }), accepted s c)
no_trade extra room out into s c num last tk eo ei =
    let g : now_order c (number_for c s.ledger) ≡ None = ap (now_order c) num ∙ last in
    over_at extra room (λ _. ⊥) out into s c (record { number = 0; trades = 0; rounds = 0 }) (accepted s c) [] (sym num) refl (subst (λ o. SoFar extra (λ _. ⊥) o (accepted s c) [] (accepted s c)) (sym g) (begin extra (λ _. ⊥) (accepted s c) tk.steady))
    tk (eo _) (ei _) (λ _. inl refl)

open_keeps : (extra : ℕ → ℕ → ℕ) (lent : Lent) (s : State) → Stands extra s → refusal lent s.ledger s.rows Open ≡ None → CallKeeps extra lent.room s Open (followed s.ledger Open (accepted s Open))
open_keeps extra lent s h none_refused =
    let tk = open_taken extra s h in
    over_keeps extra lent.room (λ _. Unit {0}) none none s Open _ (opening_on extra (accepted s Open) tk.steady) tk (λ d a i. refl) (λ d a i. refl)
    (has_room lent.room s (room_left lent.room s.ledger (lent_passes (not (is_pre_open s.ledger.phase)) lent s.ledger none_refused).1))

-- ---- any call
followed_keeps : (extra : ℕ → ℕ → ℕ) (lent : Lent) (s : State) (c : Call) → Stands extra s → refusal lent s.ledger s.rows c ≡ None → CallKeeps extra lent.room s c (followed s.ledger c (accepted s c))
followed_keeps extra lent s (Enter e) h k = enter_keeps extra lent s e h k
followed_keeps extra lent s (Amend n q p t) h k = amend_keeps_call extra lent s n q p t h k
followed_keeps extra lent s (Cancel n) h k = cancel_keeps extra lent s n h k
followed_keeps extra lent s (Suspend n) h k = suspend_keeps_call extra lent s n h k
followed_keeps extra lent s (Resume n) h k = resume_keeps_call extra lent s n h k
followed_keeps extra lent s (Deposit a i q) h k =
    let p = one_pass (is_closed s.ledger.phase) WrongPhase k in
    let here = one_pass (not (is_open a i s.rows)) (InRegister NotOpen) p.1 in
    let room = one_pass (ltb limit (total_of i s.rows + q)) (InRegister OverTotal) here.1 in
    no_trade extra lent.room _ _ s (Deposit a i q) refl refl (deposit_taken extra s a i q h (not-false _ here.0) room.0) (λ d b j. refl) (λ d b j. refl)
followed_keeps extra lent s (Withdraw a i q) h k =
    let p = one_pass (is_closed s.ledger.phase) WrongPhase k in
    let here = one_pass (not (is_open a i s.rows)) (InRegister NotOpen) p.1 in
    let enough = one_pass (too_few a i q s.rows) (InRegister ShortFree) here.1 in
    no_trade extra lent.room _ _ s (Withdraw a i q) refl refl (withdraw_taken extra s a i q h (not-false _ here.0) enough.0) (λ d b j. refl) (λ d b j. refl)
followed_keeps extra lent s (Reference i p) h k = no_trade extra lent.room _ _ s (Reference i p) refl refl (reference_taken extra s i p h) (λ d b j. refl) (λ d b j. refl)
followed_keeps extra lent s Open h k = open_keeps extra lent s h k
followed_keeps extra lent s Close h k = no_trade extra lent.room _ _ s Close refl refl (close_taken extra s h) (λ d b j. refl) (λ d b j. refl)

brought_refused : (a i : ℕ) (f : MarketFault) (c : Call) → brought a i c (Err f) ≡ 0
brought_refused a i f (Enter e) = refl
brought_refused a i f (Amend n q p t) = refl
brought_refused a i f (Cancel n) = refl
brought_refused a i f (Suspend n) = refl
brought_refused a i f (Resume n) = refl
brought_refused a i f (Deposit c j q) = refl
brought_refused a i f (Withdraw c j q) = refl
brought_refused a i f (Reference j p) = refl
brought_refused a i f Open = refl
brought_refused a i f Close = refl

taken_refused : (a i : ℕ) (f : MarketFault) (c : Call) → taken a i c (Err f) ≡ 0
taken_refused a i f (Enter e) = refl
taken_refused a i f (Amend n q p t) = refl
taken_refused a i f (Cancel n) = refl
taken_refused a i f (Suspend n) = refl
taken_refused a i f (Resume n) = refl
taken_refused a i f (Deposit c j q) = refl
taken_refused a i f (Withdraw c j q) = refl
taken_refused a i f (Reference j p) = refl
taken_refused a i f Open = refl
taken_refused a i f Close = refl

refused_keeps : (extra : ℕ → ℕ → ℕ) (room : ℕ) (s : State) (c : Call) (f : MarketFault) → Stands extra s → CallKeeps extra room s c (Err f, s)
refused_keeps extra room s c f h =
    record {
      trades = [];
      counted = refl;
      fits = inl refl;
      sound = h.sound;
      numbers = h.numbers;
      fair = tt;
      whole = λ n o e a. e;
      ledger = ledger_from s.ledger (after_call c (Err f) [] s.ledger) refl refl refl refl (omega arith);
      next = λ e d is bad. absurd cc;
      tape = sym (append-nil s.tape);
      shares = λ a i. omega (arith, brought_refused a i f c, taken_refused a i f c);
      opened = λ a i. refl;
      stands = h;
    }

pub calls_keep : (extra : ℕ → ℕ → ℕ) (lent : Lent) (s : State) (c : Call) → Stands extra s → CallKeeps extra lent.room s c (step lent s c)
calls_keep extra lent s c h = by (refusal lent s.ledger s.rows c) refl
  where
    by : (o : Option MarketFault) → refusal lent s.ledger s.rows c ≡ o → CallKeeps extra lent.room s c (decided o s c)
    by None k = followed_keeps extra lent s c h k
    by (Some f) k = refused_keeps extra lent.room s c f h
