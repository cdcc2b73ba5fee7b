-- The record of a run tells its ledger, and every run keeps the promise. Assumes nothing.
use Rattle.std.proofs.Common.{◌≡◌, ℕ, ◌+◌, ◌≤◌, true, false, ◌⊎◌, List, [], ◌∷◌, ◌++◌, length, take, drop, is_some, Some, None, Ok, Err, Option, sym, refl, ap, ◌∙◌, subst, inl, inr, append_assoc, arith, length-append, take-append-drop, take_at, drop_at, append-nil}
use Rattle.std.proofs.lemmas.Bool.{cases_eq}
use Rattle.std.proofs.lemmas.Bool.Decides.{nat_tests}
use Rattle.register.specs.declared.holding.Row.{Row}
use Rattle.register.specs.Rules.{lawful, balance_of}
use Rattle.orders.specs.declared.order.Order.{Order}
use Rattle.orders.specs.declared.order.Trade.{Trade}
use Rattle.orders.specs.declared.order.Entry.{Entry}
use Rattle.orders.specs.declared.order.Term.TheVariants.{All}
use Rattle.orders.specs.declared.order.Call.{Call}
use Rattle.orders.specs.declared.order.Call.TheVariants.{Enter, Amend, Cancel, Suspend, Resume, Deposit, Withdraw, Reference, Open, Close}
use Rattle.orders.specs.Orders.{Valid}
use Rattle.orders.specs.Book.{Book, find, changed, after}
use Rattle.orders.specs.Laws.{Sound, AllFair}
use Rattle.orders.specs.Lists.{none_some}
use Rattle.orders.proofs.Changes.{found_all, found_number}
use Rattle.orders.proofs.Trades.{sound_after}
use Rattle.matching.specs.Laws.{traded, dropped}
use Rattle.matching.proofs.Wholes.{Whole, ended_or_live, gone, whole_trades}
use Rattle.rules.specs.declared.outcome.Outcome.{Outcome}
use Rattle.rules.specs.Ledger.{Ledger, blank, listed, noted}
use Rattle.rules.specs.declared.lent.Lent.{Lent}
use Rattle.rules.specs.Market.{State, Answer, set_up, step, run}
use Rattle.rules.specs.Shares.{held_in, shares_in, bought, sold}
use Rattle.runs.specs.Record.{ends_after, before_trades, trades_in, after_call, replay}
use Rattle.runs.specs.Promise.{deposits, withdrawals, LeftOver, CallKept, CallsKept, calls_of, Kept, PromiseKept}
use Rattle.runs.proofs.Drops.{find_without_other, none_dropped, dropped_ends, least_kept}
use Rattle.runs.proofs.Steady.{Stands, sold_append, bought_append}
use Rattle.runs.proofs.Follow.{empty_quiet}
use Rattle.runs.proofs.Calls.{CallKeeps, calls_keep}

-- ---- what is not live, and has had its number, is never live again
found_changed : (k : ℕ) (f : Order → Order) → ((o : Order) → (f o).number ≡ o.number) → (n : ℕ) (b : Book) → is_some (find n (changed k f b)) ≡ is_some (find n b)
found_changed k f h n [] = refl
found_changed k f h n (o ∷ os) = let ih = found_changed k f h n os in let e = h o in grind (arith, nat_tests)

none_append : (n : ℕ) (b : Book) (o : Order) → (o.number ≡ n → ⊥) → find n b ≡ None → find n (b ++ (o ∷ [])) ≡ None
none_append n [] o ne e = grind (arith, nat_tests)
none_append n (x ∷ os) o ne e = let ih = none_append n os o ne in grind (arith, nat_tests)

some_append : (n : ℕ) (b : Book) (o p : Order) → find n b ≡ Some o → find n (b ++ (p ∷ [])) ≡ Some o
some_append n [] o p e = none_some o e
some_append n (x ∷ os) o p e = let ih = some_append n os o p in grind (arith, nat_tests)

is_none : {X : Type 0} (o : Option X) → is_some o ≡ false → o ≡ None
is_none None e = refl
is_none (Some x) e = cc

none_changed : (k : ℕ) (f : Order → Order) → ((o : Order) → (f o).number ≡ o.number) → (n : ℕ) (b : Book) → find n b ≡ None → find n (changed k f b) ≡ None
none_changed k f h n b e = is_none (find n (changed k f b)) (found_changed k f h n b ∙ ap is_some e)

some_changed : {A : Type 0} (k : ℕ) (f : Order → Order) → ((o : Order) → (f o).number ≡ o.number) → (n : ℕ) (b : Book) (o : Order) → find n b ≡ Some o → find n (changed k f b) ≡ None → A
some_changed k f h n b o e z = absurd (let t : true ≡ false = sym (ap is_some e) ∙ sym (found_changed k f h n b) ∙ ap is_some z in cc)

noted_none : (c : Call) (m : ℕ) (l : Ledger) (n : ℕ) → ((e : Entry) → c ≡ Enter e → m ≡ l.number + 1) → n ≤ l.number → find n l.live ≡ None → (find n (noted c m l).live ≡ None) × (n ≤ (noted c m l).number)
noted_none (Enter e) m l n new le h = let is = new e refl in (none_append n l.live (listed m e l) (λ same. omega arith) h, omega arith)
noted_none (Amend k q p t) m l n new le h = (none_changed k _ (λ _. refl) n l.live h, le)
noted_none (Cancel k) m l n new le h = (none_dropped (Some k) n l.live h, le)
noted_none (Suspend k) m l n new le h = (none_changed k _ (λ _. refl) n l.live h, le)
noted_none (Resume k) m l n new le h = (none_changed k _ (λ _. refl) n l.live h, le)
noted_none (Deposit a i q) m l n new le h = (h, le)
noted_none (Withdraw a i q) m l n new le h = (h, le)
noted_none (Reference i p) m l n new le h = (h, le)
noted_none Open m l n new le h = (h, le)
noted_none Close m l n new le h = (refl, le)

before_none : (c : Call) (x : Answer) (l : Ledger) (n : ℕ) → ((e : Entry) (d : Outcome) → c ≡ Enter e → x ≡ Ok d → d.number ≡ l.number + 1) → n ≤ l.number → find n l.live ≡ None →
    (find n (before_trades c x l).live ≡ None) × (n ≤ (before_trades c x l).number)
before_none c (Ok d) l n new le h = noted_none c d.number l n (λ e k. new e d k refl) le h
before_none c (Err f) l n new le h = (h, le)

traded_append : (n : ℕ) (ts us : List Trade) → traded n (ts ++ us) ≡ traded n ts + traded n us
traded_append n [] us = omega arith
traded_append n (t ∷ ts) us = omega (arith, traded_append n ts us)

gone_for_good : (cs : List (Lent × Call)) (xs : List Answer) (ts : List Trade) (l : Ledger) (n : ℕ) → CallsKept l cs xs ts → n ≤ l.number → find n l.live ≡ None → traded n ts ≡ 0
gone_for_good [] [] ts l n h le e = ap (traded n) h
gone_for_good [] (x ∷ xs) ts l n h le e = absurd h
gone_for_good (c ∷ cs) [] ts l n h le e = absurd h
gone_for_good (lent ∷ cs) (x ∷ xs) ts l n h le e =
    let c = lent.1 in
    let own = take (trades_in x) ts in
    let later = drop (trades_in x) ts in
    let b = before_none c x l n h.0.next_number le e in
    let out = gone n own (before_trades c x l).live h.0.each_trade_fair b.0 in
    let rest = gone_for_good cs xs later (after_call c x own l) n h.1 b.1 (none_dropped (ends_after c x) n (after own (before_trades c x l).live) out.1) in
    let split : traded n ts ≡ traded n own + traded n later = ap (traded n) (sym (take-append-drop (trades_in x) ts)) ∙ traded_append n own later in
    omega (arith, out.0)

-- ---- how orders end
noted_ends : (c : Call) (m : ℕ) (l : Ledger) (n : ℕ) (o : Order) → find n l.live ≡ Some o → find n (noted c m l).live ≡ None → (c ≡ Cancel n) ⊎ (c ≡ Close)
noted_ends (Enter e) m l n o h z = none_some o (sym z ∙ some_append n l.live o (listed m e l) h)
noted_ends (Amend k q p t) m l n o h z = some_changed k _ (λ _. refl) n l.live o h z
noted_ends (Cancel k) m l n o h z = elim (cases_eq n k) [
  | inl same ↦ inl (ap Cancel (sym same))
  | inr ne ↦ none_some o (sym z ∙ find_without_other n k l.live ne ∙ h)
]
noted_ends (Suspend k) m l n o h z = some_changed k _ (λ _. refl) n l.live o h z
noted_ends (Resume k) m l n o h z = some_changed k _ (λ _. refl) n l.live o h z
noted_ends (Deposit a i q) m l n o h z = none_some o (sym z ∙ h)
noted_ends (Withdraw a i q) m l n o h z = none_some o (sym z ∙ h)
noted_ends (Reference i p) m l n o h z = none_some o (sym z ∙ h)
noted_ends Open m l n o h z = none_some o (sym z ∙ h)
noted_ends Close m l n o h z = inr refl

before_ends : (c : Call) (x : Answer) (l : Ledger) (n : ℕ) (o : Order) → find n l.live ≡ Some o → find n (before_trades c x l).live ≡ None → (c ≡ Cancel n) ⊎ (c ≡ Close)
before_ends c (Ok d) l n o h z = noted_ends c d.number l n o h z
before_ends c (Err f) l n o h z = none_some o (sym z ∙ h)

left_over : (b : Book) (ts : List Trade) → Sound b → AllFair ts b → (n : ℕ) (o : Order) → find n b ≡ Some o → LeftOver n o ts (after ts b)
left_over b ts h f n o e = elim (ended_or_live ts b h f n o e) [
  | inl r ↦ inl r
  | inr r ↦ inr (r.0, r.1, (found_all Valid n (after ts b) r.0 (sound_after ts b h).valid r.1).some, r.2)
]

after_ends : (g : Option ℕ) (b : Book) (ts : List Trade) → Sound b → AllFair ts b → (n : ℕ) (o : Order) → find n b ≡ Some o → find n (dropped g (after ts b)) ≡ None → (traded n ts ≡ o.left) ⊎ (g ≡ Some n)
after_ends g b ts h f n o e z = elim (ended_or_live ts b h f n o e) [
  | inl r ↦ inl r.0
  | inr r ↦ inr (dropped_ends g n (after ts b) r.0 r.1 z)
]

-- an all order that has traded at all has traded all, and has ended
whole_ended : (b : Book) (ts : List Trade) → Sound b → AllFair ts b → Whole b (after ts b) → (n : ℕ) (o : Order) → find n b ≡ Some o → o.term ≡ All → (traded n ts ≡ 0) ⊎ ((traded n ts ≡ o.left) × (find n (after ts b) ≡ None))
whole_ended b ts h f w n o e all = elim (ended_or_live ts b h f n o e) [
  | inl r ↦ inr r
  | inr r ↦ elim (whole_trades ts b h f w n o e all) [
    | inl z ↦ inl z
    | inr z ↦ absurd (omega (arith, r.2, (found_all Valid n (after ts b) r.0 (sound_after ts b h).valid r.1).some))
  ]
]

-- ---- one call, and the calls after it
call_kept : (extra : ℕ → ℕ → ℕ) (room : ℕ) (s : State) (c : Call) (y : Answer × State) (later : List Trade) (k : CallKeeps extra room s c y) →
    ((n : ℕ) → n ≤ y.1.ledger.number → find n y.1.ledger.live ≡ None → traded n later ≡ 0) → CallKept s.ledger room c y.0 (before_trades c y.0 s.ledger).live k.trades later
call_kept extra room s c y later k out =
    let m : Ledger = before_trades c y.0 s.ledger in
    let b : Book = m.live in
    let ts : List Trade = k.trades in
    record {
      next_number = k.next;
      trades_counted = k.counted;
      trades_fit = k.fits;
      each_trade_fair = k.fair;
      rest_is_left = left_over b ts k.sound k.fair;
      all_or_none_in_one_call = λ n o e all. elim (whole_ended b ts k.sound k.fair k.whole n o e all) [
        | inl z ↦ inl z
        | inr r ↦
            let is : o.number ≡ n = found_number n b o e in
            let le : o.number ≤ m.number = found_all (λ x. x.number ≤ m.number) n b o k.numbers e in
            let num : y.1.ledger.number ≡ m.number = ap (λ (l : Ledger). l.number) k.ledger in
            inr (r.0, out n (omega arith) (ap (λ (l : Ledger). find n l.live) k.ledger ∙ none_dropped (ends_after c y.0) n (after ts b) r.1))
      ];
      least_reached = least_kept ts b k.fair;
      ended_by_call = before_ends c y.0 s.ledger;
      ended_by_trades = λ n o e z. after_ends (ends_after c y.0) b ts k.sound k.fair n o e z;
    }

one_more : (l m : Ledger) (lent : Lent × Call) (x : Answer) (ts : List Trade) (cs : List (Lent × Call)) (xs : List Answer) (us : List Trade) → length ts ≡ trades_in x →
    CallKept l lent.0.room lent.1 x (before_trades lent.1 x l).live ts us → after_call lent.1 x ts l ≡ m → CallsKept m cs xs us → CallsKept l (lent ∷ cs) (x ∷ xs) (ts ++ us)
one_more l m lent x ts cs xs us n h e k = rw (take_at ts us (trades_in x) n, drop_at ts us (trades_in x) n) (h, subst (λ j. CallsKept j cs xs us) (sym e) k)

one_more_ledger : (l m : Ledger) (c : Call) (x : Answer) (ts : List Trade) (cs : List Call) (xs : List Answer) (us : List Trade) → length ts ≡ trades_in x → after_call c x ts l ≡ m → replay (c ∷ cs) (x ∷ xs) (ts ++ us) l ≡ replay cs xs us m
one_more_ledger l m c x ts cs xs us n e = rw (take_at ts us (trades_in x) n, drop_at ts us (trades_in x) n) (ap (replay cs xs us) e)

-- ---- runs
record RunKept (extra : ℕ → ℕ → ℕ) (s : State) (cs : List (Lent × Call)) : Type 0 where
  trades : List Trade
  tape : (run s cs).1.tape ≡ s.tape ++ trades
  calls : CallsKept s.ledger cs (run s cs).0 trades
  ledger : replay (calls_of cs) (run s cs).0 trades s.ledger ≡ (run s cs).1.ledger
  shares : (a i : ℕ) → (shares_in (balance_of a i (run s cs).1.rows) + sold a i trades) + withdrawals a i (calls_of cs) (run s cs).0 ≡ (shares_in (balance_of a i s.rows) + bought a i trades) + deposits a i (calls_of cs) (run s cs).0
  opened : (a i : ℕ) → is_some (balance_of a i (run s cs).1.rows) ≡ is_some (balance_of a i s.rows)
  fits : s.ledger.used ≤ 32768 → (run s cs).1.ledger.used ≤ 32768
  stands : Stands extra (run s cs).1

used_fits : (extra : ℕ → ℕ → ℕ) (room : ℕ) (s : State) (c : Call) (y : Answer × State) (k : CallKeeps extra room s c y) → Stands extra s → s.ledger.used ≤ 32768 → y.1.ledger.used ≤ 32768
used_fits extra room s c y k h le =
    let u : y.1.ledger.used ≡ s.ledger.used + length k.trades =
    k.stands.used ∙ ap length k.tape ∙ length-append s.tape k.trades ∙ ap (λ m. m + length k.trades) (sym h.used) in
    elim k.fits [
      | inl none ↦ omega (arith, ap length none)
      | inr fit ↦ omega arith
    ]

runs_keep : (extra : ℕ → ℕ → ℕ) (s : State) (cs : List (Lent × Call)) → Stands extra s → RunKept extra s cs
runs_keep extra s [] h =
    record { trades = []; tape = sym (append-nil s.tape); calls = refl; ledger = refl; shares = λ a i. refl; opened = λ a i. refl; fits = λ le. le; stands = h }
runs_keep extra s (lent ∷ cs) h =
    let c = lent.1 in
    let y = step lent.0 s c in
    let k = calls_keep extra lent.0 s c h in
    let rest = runs_keep extra y.1 cs k.stands in
    let xs = (run y.1 cs).0 in
    let one = call_kept extra lent.0.room s c y rest.trades k (λ m le out. gone_for_good cs xs rest.trades y.1.ledger m rest.calls le out) in
    record {
      trades = k.trades ++ rest.trades;
      tape = rest.tape ∙ ap (λ l. l ++ rest.trades) k.tape ∙ append_assoc s.tape k.trades rest.trades;
      calls = one_more s.ledger y.1.ledger lent y.0 k.trades cs xs rest.trades k.counted one (sym k.ledger) rest.calls;
      ledger = one_more_ledger s.ledger y.1.ledger c y.0 k.trades (calls_of cs) xs rest.trades k.counted (sym k.ledger) ∙ rest.ledger;
      shares = λ a i. omega (arith, rest.shares a i, k.shares a i, sold_append a i k.trades rest.trades, bought_append a i k.trades rest.trades);
      opened = λ a i. rest.opened a i ∙ k.opened a i;
      fits = λ le. rest.fits (used_fits extra lent.0.room s c y k h le);
      stands = rest.stands;
    }

-- ---- from set-up on
set_up_stands : (rows : List Row) → lawful rows ≡ true → Stands (λ a i. held_in (balance_of a i rows)) (set_up rows)
set_up_stands rows w =
    record {
      sound = record { ascending = tt; valid = tt; stamps = tt };
      numbers = tt;
      stamps = tt;
      covered = record { pairs = tt; held = λ a i. omega arith };
      rules = w;
      used = refl;
      few = omega arith;
      few_stamps = omega arith;
      quiet = λ c j off. empty_quiet j;
    }

pub promise_kept : PromiseKept
promise_kept rows w calls =
    let x = run (set_up rows) calls in
    let r = runs_keep (λ a i. held_in (balance_of a i rows)) (set_up rows) calls (set_up_stands rows w) in
    let is : replay (calls_of calls) x.0 x.1.tape blank ≡ x.1.ledger = ap (λ ts. replay (calls_of calls) x.0 ts blank) r.tape ∙ r.ledger in
    subst (Kept rows calls x.0 x.1) (sym is)
    (record {
      by_the_rules = refl;
      ledger_is_told = refl;
      shares_conserved = λ a i. omega (arith, r.shares a i, ap (sold a i) r.tape, ap (bought a i) r.tape);
      sells_covered = r.stands.covered.held;
      calls_kept = subst (CallsKept blank calls x.0) (sym r.tape) r.calls;
      book_quiet = λ c i. r.stands.quiet c i (λ z. z);
      register_lawful = r.stands.rules;
      pairs_stay = r.opened;
      tape_used = r.stands.used;
      tape_fits = r.fits (omega arith);
      live_bounded = r.stands.few;
      stamps_bounded = r.stands.few_stamps;
    })
