-- The whole promise over a run, in words. Assumes nothing.
use Rattle.std.specs.Prelude.{◌≡◌, ℕ, ◌+◌, ◌≤◌, min, true, cond, ◌⊎◌, List, [], ◌∷◌, length, take, drop, is_some, Some, None, Ok, Err, Option}
use Rattle.register.specs.declared.holding.Row.{Row}
use Rattle.register.specs.Rules.{lawful, balance_of}
use Rattle.orders.specs.declared.order.Order.{Order}
use Rattle.orders.specs.declared.order.Trade.{Trade}
use Rattle.orders.specs.declared.order.Entry.{Entry}
use Rattle.orders.specs.declared.order.Term.TheVariants.{All, Least}
use Rattle.orders.specs.declared.order.Call.{Call}
use Rattle.orders.specs.declared.order.Call.TheVariants.{Enter, Amend, Cancel, Suspend, Resume, Deposit, Withdraw, Reference, Open, Close}
use Rattle.orders.specs.Book.{Book, find, after}
use Rattle.orders.specs.Laws.{AllFair}
use Rattle.matching.specs.Laws.{is_of, traded, Quiet}
use Rattle.rules.specs.declared.outcome.Phase.TheVariants.{Continuous}
use Rattle.rules.specs.declared.outcome.Outcome.{Outcome}
use Rattle.rules.specs.Ledger.{Ledger, blank}
use Rattle.rules.specs.declared.lent.Lent.{Lent}
use Rattle.rules.specs.Market.{State, Answer, set_up, run}
use Rattle.rules.specs.Shares.{held_in, shares_in, same_pair, backing, bought, sold}
use Rattle.runs.specs.Record.{ends_after, before_trades, trades_in, after_call, replay}

-- Shares.
-- what an accepted deposit brings into the pair (a, i), and what an accepted withdrawal takes out of it
abbrev pub brought : ℕ → ℕ → Call → Answer → ℕ
brought a i (Deposit c j q) (Ok d) = cond (same_pair c j a i) q 0
brought a i (Deposit c j q) (Err f) = 0
brought a i (Enter e) x = 0
brought a i (Amend n q p t) x = 0
brought a i (Cancel n) x = 0
brought a i (Suspend n) x = 0
brought a i (Resume n) x = 0
brought a i (Withdraw c j q) x = 0
brought a i (Reference j p) x = 0
brought a i Open x = 0
brought a i Close x = 0

abbrev pub taken : ℕ → ℕ → Call → Answer → ℕ
taken a i (Withdraw c j q) (Ok d) = cond (same_pair c j a i) q 0
taken a i (Withdraw c j q) (Err f) = 0
taken a i (Enter e) x = 0
taken a i (Amend n q p t) x = 0
taken a i (Cancel n) x = 0
taken a i (Suspend n) x = 0
taken a i (Resume n) x = 0
taken a i (Deposit c j q) x = 0
taken a i (Reference j p) x = 0
taken a i Open x = 0
taken a i Close x = 0

abbrev pub deposits : ℕ → ℕ → List Call → List Answer → ℕ
deposits a i [] xs = 0
deposits a i (c ∷ cs) [] = 0
deposits a i (c ∷ cs) (x ∷ xs) = brought a i c x + deposits a i cs xs

abbrev pub withdrawals : ℕ → ℕ → List Call → List Answer → ℕ
withdrawals a i [] xs = 0
withdrawals a i (c ∷ cs) [] = 0
withdrawals a i (c ∷ cs) (x ∷ xs) = taken a i c x + withdrawals a i cs xs

-- Trades.
-- an order has traded all that it had left and has ended, or has left the rest
abbrev pub LeftOver : ℕ → Order → List Trade → Book → Type 0
LeftOver n o ts c =
    ((traded n ts ≡ o.left) × (find n c ≡ None))
    ⊎ ((p : Order) × (find n c ≡ Some p) × (1 ≤ p.left) × (p.left + traded n ts ≡ o.left))

-- the first trade of the order n
abbrev pub first_of : ℕ → List Trade → Option Trade
first_of n [] = None
first_of n (t ∷ ts) = cond (is_of n t) (Some t) (first_of n ts)

-- What is true of one call of a record: l is the ledger before it, room the length of the tape lent to it, `base` the live orders as it leaves them
-- before its trades ts, and `later` the trades of the calls after it. Limits, terms and quantities left are those of the ledger.
pub record CallKept (l : Ledger) (room : ℕ) (c : Call) (x : Answer) (base : Book) (ts later : List Trade) : Type 0 where
  -- numbers count up, so that none is given twice
  pub next_number : (e : Entry) (d : Outcome) → c ≡ Enter e → x ≡ Ok d → d.number ≡ l.number + 1
  -- the answer counts the trades, and they find room on the tape
  pub trades_counted : length ts ≡ trades_in x
  pub trades_fit : (ts ≡ []) ⊎ (l.used + length ts ≤ min room 32768)
  -- each trade, on the ledger as those before it leave it, joins a live and working buy and sell of its issue under the accounts that entered them,
  -- within both limits, for the lesser of what the two have left
  pub each_trade_fair : AllFair ts base
  pub rest_is_left : (n : ℕ) (o : Order) → find n base ≡ Some o → LeftOver n o ts (after ts base)
  -- while its term is all-or-none an order trades nothing; or all that it has left, in this call, and nothing in any later one
  pub all_or_none_in_one_call : (n : ℕ) (o : Order) → find n base ≡ Some o → o.term ≡ All → (traded n ts ≡ 0) ⊎ ((traded n ts ≡ o.left) × (traded n later ≡ 0))
  -- a least m order's first trade is at least m
  pub least_reached : (n m : ℕ) (o : Order) (t : Trade) → find n base ≡ Some o → o.term ≡ Least m → first_of n ts ≡ Some t → m ≤ t.quantity
  -- an order ends by a cancel or the close; by its last trade; or after its entry's trades, if its life is now
  pub ended_by_call : (n : ℕ) (o : Order) → find n l.live ≡ Some o → find n base ≡ None → (c ≡ Cancel n) ⊎ (c ≡ Close)
  pub ended_by_trades : (n : ℕ) (o : Order) → find n base ≡ Some o → find n (after_call c x ts l).live ≡ None → (traded n ts ≡ o.left) ⊎ (ends_after c x ≡ Some n)

-- the same of each call of a record; there are as many answers as calls, and no other trade is on the tape
abbrev pub CallsKept : Ledger → List (Lent × Call) → List Answer → List Trade → Type 0
CallsKept l [] [] ts = ts ≡ []
CallsKept l [] (x ∷ xs) ts = ⊥
CallsKept l (c ∷ cs) [] ts = ⊥
CallsKept l (c ∷ cs) (x ∷ xs) ts =
    let own : List Trade = take (trades_in x) ts in
    let later : List Trade = drop (trades_in x) ts in
    CallKept l c.0.room c.1 x (before_trades c.1 x l).live own later × CallsKept (after_call c.1 x own l) cs xs later

abbrev pub calls_of : List (Lent × Call) → List Call
calls_of [] = []
calls_of (c ∷ cs) = c.1 ∷ calls_of cs

-- The whole promise: of a run of calls over a register with these rows at set-up, the answers and the state that the run comes to. `told` is the ledger
-- that the record of the run comes to.
pub record Kept (rows : List Row) (calls : List (Lent × Call)) (answers : List Answer) (end : State) (told : Ledger) : Type 0 where
  -- the answers, the trades, the phase, the live orders and the balances are those of the rules
  pub by_the_rules : (answers, end) ≡ run (set_up rows) calls
  -- what the record of the run tells is what the market holds
  pub ledger_is_told : end.ledger ≡ told
  -- free plus held, tape sales and accepted withdrawals are free plus held at set-up, tape purchases and accepted deposits; a pair not open counts as 0
  pub shares_conserved : (a i : ℕ) →
      (shares_in (balance_of a i end.rows) + sold a i end.tape) + withdrawals a i (calls_of calls) answers
      ≡ (shares_in (balance_of a i rows) + bought a i end.tape) + deposits a i (calls_of calls) answers
  -- held shares exceed those at set-up by exactly what the pair's live sells have left
  pub sells_covered : (a i : ℕ) → held_in (balance_of a i end.rows) ≡ held_in (balance_of a i rows) + backing a i told.live
  -- each call of the record, with its trades
  pub calls_kept : CallsKept blank calls answers end.tape
  -- in continuous trading no working plain buy is priced at or above a working plain sell of its issue, and no special order is ready
  pub book_quiet : told.phase ≡ Continuous → (i : ℕ) → Quiet i told.live
  -- the register keeps its rules, and no pair is opened or closed
  pub register_lawful : lawful end.rows ≡ true
  pub pairs_stay : (a i : ℕ) → is_some (balance_of a i end.rows) ≡ is_some (balance_of a i rows)
  pub tape_used : told.used ≡ length end.tape
  pub tape_fits : told.used ≤ 32768
  pub live_bounded : length told.live ≤ 256
  pub stamps_bounded : told.stamp ≤ 1000000

-- over any register that keeps the register's rules, for any calls, each with what is lent to it
abbrev pub PromiseKept : Type 0
PromiseKept = (rows : List Row) → lawful rows ≡ true → (calls : List (Lent × Call)) →
    let x : List Answer × State = run (set_up rows) calls in
    Kept rows calls x.0 x.1 (replay (calls_of calls) x.0 x.1.tape blank)
