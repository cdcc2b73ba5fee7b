-- The market: its state, the ten calls, and runs of calls. Assumes nothing.
use Rattle.std.specs.Prelude.{ℕ, ◌+◌, ◌-◌, cond, List, [], ◌∷◌, ◌++◌, length, replicate, Some, None, Ok, Err, Option, Result, nat_lt, slice_index, slice_set}
use Rattle.register.specs.declared.holding.Row.{Row}
use Rattle.register.specs.declared.movers.Move.TheVariants.{Withdraw as Withdrawing, Hold, Release}
use Rattle.register.specs.Rules.{issues, deposited, moved, settled, after as rows_after}
use Rattle.orders.specs.declared.order.Order.{Order}
use Rattle.orders.specs.declared.order.Trade.{Trade}
use Rattle.orders.specs.declared.order.Entry.{Entry}
use Rattle.orders.specs.declared.order.Side.{Side}
use Rattle.orders.specs.declared.order.Side.TheVariants.{Buy, Sell}
use Rattle.orders.specs.declared.order.Life.{Life}
use Rattle.orders.specs.declared.order.Life.TheVariants.{Day, Now}
use Rattle.orders.specs.declared.order.Call.{Call}
use Rattle.orders.specs.declared.order.Call.TheVariants.{Enter, Amend, Cancel, Suspend, Resume, Deposit, Withdraw, Reference, Open, Close}
use Rattle.orders.specs.Book.{Book, find, without, after}
use Rattle.matching.specs.Attempt.{attempt_of}
use Rattle.matching.specs.Rounds.{Rounds, all_rounds}
use Rattle.opening.specs.Opening.{opening_price, all_trades}
use Rattle.rules.specs.declared.outcome.Phase.{Phase}
use Rattle.rules.specs.declared.outcome.Phase.TheVariants.{PreOpen, Continuous, Closed}
use Rattle.rules.specs.declared.outcome.Outcome.{Outcome}
use Rattle.rules.specs.declared.fault.MarketFault.{MarketFault}
use Rattle.rules.specs.Ledger.{Ledger, blank, with_live, noted}
use Rattle.rules.specs.declared.lent.Lent.{Lent}
use Rattle.rules.specs.Refusals.{refusal, known_issue}

pub record State : Type 0 where
  pub ledger : Ledger
  -- the previous closes of the issues from 1 up
  pub closes : List ℕ
  -- what the register means
  pub rows : List Row
  -- the records used
  pub tape : List Trade

abbrev pub set_up : List Row → State
set_up rows = record { ledger = blank; closes = replicate 16 1000; rows = rows; tape = [] }

-- Movers of the register. None of these is ever refused in a call; refused, it would leave the rows as they are.
abbrev pub held_for : ℕ → ℕ → ℕ → List Row → List Row
held_for a i q rs = rows_after rs (moved Hold a i q rs)

abbrev pub released_to : ℕ → ℕ → ℕ → List Row → List Row
released_to a i q rs = rows_after rs (moved Release a i q rs)

abbrev pub all_settled : List Trade → List Row → List Row
all_settled [] rs = rs
all_settled (t ∷ ts) rs = all_settled ts (rows_after rs (settled t.seller t.buyer t.issue t.quantity rs))

-- trades take effect on the live orders, the register and the tape
abbrev pub executed : List Trade → State → State
executed ts s =
    let l : Ledger = s.ledger in
    record {
      ledger = record { phase = l.phase; live = after ts l.live; number = l.number; stamp = l.stamp; used = l.used + length ts };
      closes = s.closes;
      rows = all_settled ts s.rows;
      tape = s.tape ++ ts;
    }

-- an ended sell releases what it has left
abbrev pub released_by : Side → Order → List Row → List Row
released_by Buy o rs = rs
released_by Sell o rs = released_to o.account o.issue o.left rs

abbrev pub ended_rows : Option Order → List Row → List Row
ended_rows None rs = rs
ended_rows (Some o) rs = released_by o.side o rs

abbrev pub all_ended : Book → List Row → List Row
all_ended [] rs = rs
all_ended (o ∷ os) rs = all_ended os (released_by o.side o rs)

-- What an accepted call changes before any trade.
-- a sell is covered by a hold
abbrev pub covered : Side → Entry → List Row → List Row
covered Buy e rs = rs
covered Sell e rs = held_for e.account e.issue e.quantity rs

-- an amended sell holds or releases the difference
abbrev pub recovered : Side → Order → ℕ → List Row → List Row
recovered Buy o q rs = rs
recovered Sell o q rs = cond (nat_lt o.left q) (held_for o.account o.issue (q - o.left) rs) (released_to o.account o.issue (o.left - q) rs)

abbrev pub amended_rows : Option Order → ℕ → List Row → List Row
amended_rows None q rs = rs
amended_rows (Some o) q rs = recovered o.side o q rs

abbrev pub rows_by : Call → Ledger → List Row → List Row
rows_by (Enter e) l rs = covered e.side e rs
rows_by (Amend n q p t) l rs = amended_rows (find n l.live) q rs
rows_by (Cancel n) l rs = ended_rows (find n l.live) rs
rows_by (Suspend n) l rs = rs
rows_by (Resume n) l rs = rs
rows_by (Deposit a i q) l rs = rows_after rs (deposited a i q rs)
rows_by (Withdraw a i q) l rs = rows_after rs (moved Withdrawing a i q rs)
rows_by (Reference i p) l rs = rs
rows_by Open l rs = rs
rows_by Close l rs = all_ended l.live rs

abbrev pub closes_by : Call → List ℕ → List ℕ
closes_by (Enter e) cs = cs
closes_by (Amend n q p t) cs = cs
closes_by (Cancel n) cs = cs
closes_by (Suspend n) cs = cs
closes_by (Resume n) cs = cs
closes_by (Deposit a i q) cs = cs
closes_by (Withdraw a i q) cs = cs
closes_by (Reference i p) cs = slice_set cs (i - 1) p
closes_by Open cs = cs
closes_by Close cs = cs

-- the number in the answer: that of the order that the call names, else 0
abbrev pub number_for : Call → Ledger → ℕ
number_for (Enter e) l = l.number + 1
number_for (Amend n q p t) l = n
number_for (Cancel n) l = n
number_for (Suspend n) l = n
number_for (Resume n) l = n
number_for (Deposit a i q) l = 0
number_for (Withdraw a i q) l = 0
number_for (Reference i p) l = 0
number_for Open l = 0
number_for Close l = 0

abbrev pub accepted : State → Call → State
accepted s c =
    record {
      ledger = noted c (number_for c s.ledger) s.ledger;
      closes = closes_by c s.closes;
      rows = rows_by c s.ledger s.rows;
      tape = s.tape;
    }

-- What follows in the state so changed.
abbrev pub Answer : Type 0
Answer = Result Outcome MarketFault

abbrev pub done : ℕ → ℕ → ℕ → Answer
done n trades rounds = Ok (record { number = n; trades = trades; rounds = rounds })

-- rounds on the issue, after `made` trades and `before` rounds
abbrev pub by_rounds : ℕ → ℕ → ℕ → ℕ → State → Answer × State
by_rounds n i made before s =
    let r : Rounds = all_rounds i s.ledger.live in
    (done n (made + length r.trades) (before + r.count), executed r.trades s)

-- in continuous, rounds end the call
abbrev pub finished : Phase → ℕ → ℕ → State → Answer × State
finished PreOpen n i s = (done n 0 0, s)
finished Continuous n i s = by_rounds n i 0 0 s
finished Closed n i s = (done n 0 0, s)

-- what is left of a now order is ended
abbrev pub if_now : Life → ℕ → State → State
if_now Day n s = s
if_now Now n s =
    record { ledger = with_live (without n s.ledger.live) s.ledger; closes = s.closes; rows = ended_rows (find n s.ledger.live) s.rows; tape = s.tape }

-- in continuous an attempt by the order n, then its end if its life is now, then rounds
abbrev pub tried : Phase → Life → ℕ → ℕ → State → Answer × State
tried PreOpen life n i s = (done n 0 0, s)
tried Continuous life n i s =
    let ts : List Trade = attempt_of n s.ledger.live in
    by_rounds n i (length ts) 0 (if_now life n (executed ts s))
tried Closed life n i s = (done n 0 0, s)

-- rounds in one issue after another
abbrev pub next_rounds : ℕ → Answer × State → Answer × State
next_rounds i (Ok d, s) = by_rounds d.number i d.trades d.rounds s
next_rounds i (Err f, s) = (Err f, s)

abbrev pub rounds_in : List ℕ → Answer × State → Answer × State
rounds_in [] x = x
rounds_in (i ∷ is) x = rounds_in is (next_rounds i x)

-- the opening trades of all issues, then rounds in each
abbrev pub opened : State → Answer × State
opened s =
    let ts : List Trade = all_trades 1 s.closes s.ledger.live in
    rounds_in issues (done 0 (length ts) 0, executed ts s)

abbrev pub issue_of : Option Order → ℕ
issue_of None = 0
issue_of (Some o) = o.issue

-- l is the ledger before the call
abbrev pub followed : Ledger → Call → State → Answer × State
followed l (Enter e) s = tried l.phase e.life (l.number + 1) e.issue s
followed l (Amend n q p t) s = tried l.phase Day n (issue_of (find n l.live)) s
followed l (Cancel n) s = finished l.phase n (issue_of (find n l.live)) s
followed l (Suspend n) s = finished l.phase n (issue_of (find n l.live)) s
followed l (Resume n) s = tried l.phase Day n (issue_of (find n l.live)) s
followed l (Deposit a i q) s = (done 0 0 0, s)
followed l (Withdraw a i q) s = (done 0 0 0, s)
followed l (Reference i p) s = (done 0 0 0, s)
followed l Open s = opened s
followed l Close s = (done 0 0 0, s)

abbrev pub decided : Option MarketFault → State → Call → Answer × State
decided (Some f) s c = (Err f, s)
decided None s c = followed s.ledger c (accepted s c)

-- one call
abbrev pub step : Lent → State → Call → Answer × State
step lent s c = decided (refusal lent s.ledger s.rows c) s c

abbrev pub and_then : Answer → List Answer × State → List Answer × State
and_then a r = (a ∷ r.0, r.1)

-- a run of calls, each with what it is lent
abbrev pub run : State → List (Lent × Call) → List Answer × State
run s [] = ([], s)
run s (c ∷ cs) = let x : Answer × State = step c.0 s c.1 in and_then x.0 (run x.1 cs)

-- Questions.
abbrev pub when_pre_open : Phase → Option ℕ → Option ℕ
when_pre_open PreOpen p = p
when_pre_open Continuous p = None
when_pre_open Closed p = None

-- absent outside pre-open, where there is none, and for an unknown issue
abbrev pub opening_question : ℕ → State → Option ℕ
opening_question i s = when_pre_open s.ledger.phase (cond (known_issue i) (opening_price i (slice_index s.closes (i - 1)) s.ledger.live) None)
