-- Every call keeps the register's rules. Assumes nothing.
use Rattle.std.proofs.Common.{◌≡◌, ℕ, ◌+◌, ◌-◌, true, ltb, List, [], ◌∷◌, length, Some, None, Ok, Err, Option, refl}
use Rattle.std.proofs.lemmas.Bool.{cond_both}
use Rattle.register.specs.declared.holding.Row.{Row}
use Rattle.register.specs.declared.movers.Move.{Move}
use Rattle.register.specs.declared.movers.Move.TheVariants.{Withdraw as Withdrawing, Hold, Release}
use Rattle.register.specs.Rules.{lawful, balance_of, issues, Moved, if_open, deposited, moved, settled, after as rows_after}
use Rattle.register.proofs.Changes.{movers_move_what_they_name}
use Rattle.orders.specs.declared.order.Order.{Order}
use Rattle.orders.specs.declared.order.Trade.{Trade}
use Rattle.orders.specs.declared.order.Entry.{Entry}
use Rattle.orders.specs.declared.order.Side.{Side}
use Rattle.orders.specs.declared.order.Side.TheVariants.{Buy, Sell}
use Rattle.orders.specs.declared.order.Life.{Life}
use Rattle.orders.specs.declared.order.Life.TheVariants.{Day, Now}
use Rattle.orders.specs.declared.order.Call.{Call}
use Rattle.orders.specs.declared.order.Call.TheVariants.{Enter, Amend, Cancel, Suspend, Resume, Deposit, Withdraw, Reference, Open, Close}
use Rattle.orders.specs.Book.{Book, find}
use Rattle.matching.specs.Attempt.{attempt_of}
use Rattle.matching.specs.Rounds.{Rounds, all_rounds}
use Rattle.opening.specs.Opening.{all_trades}
use Rattle.rules.specs.declared.outcome.Phase.{Phase}
use Rattle.rules.specs.declared.outcome.Phase.TheVariants.{PreOpen, Continuous, Closed}
use Rattle.rules.specs.declared.outcome.Outcome.{Outcome}
use Rattle.rules.specs.declared.fault.MarketFault.{MarketFault}
use Rattle.rules.specs.Ledger.{Ledger}
use Rattle.rules.specs.Refusals.{refusal}
use Rattle.rules.specs.Market.{State, held_for, released_to, all_settled, released_by, ended_rows, all_ended, covered, recovered, amended_rows, rows_by, accepted, if_now, executed, tried, finished, rounds_in, followed, decided, step}
use Rattle.rules.specs.Laws.{RunsKeepTheRegister}

abbrev Kept : List Row → Type 0
Kept rs = lawful rs ≡ true

-- a move that is done or refused
moves : (rs : List Row) (m : Moved) → Kept rs → ((new : List Row) → m ≡ Ok new → Kept new) → Kept (rows_after rs m)
moves rs (Ok new) k f = f new refl
moves rs (Err e) k f = k

-- a move of a pair is done only where the pair is open
open_first : (o : Option (ℕ × ℕ)) (next : ℕ → ℕ → Moved) (new : List Row) → if_open o next ≡ Ok new → (p : ℕ × ℕ) × (o ≡ Some p)
open_first None next new e = absurd cc
open_first (Some p) next new e = (p, refl)

deposit_kept : (a i q : ℕ) (rs : List Row) → Kept rs → Kept (rows_after rs (deposited a i q rs))
deposit_kept a i q rs k = moves rs (deposited a i q rs) k (λ new e.
    let o = open_first (balance_of a i rs) _ new e in
    ((movers_move_what_they_name rs k).deposits a i q o.0.0 o.0.1 new o.1 e).rules)

move_kept : (m : Move) (a i q : ℕ) (rs : List Row) → Kept rs → Kept (rows_after rs (moved m a i q rs))
move_kept Withdrawing a i q rs k = moves rs (moved Withdrawing a i q rs) k (λ new e.
    let o = open_first (balance_of a i rs) _ new e in
    ((movers_move_what_they_name rs k).withdraws a i q o.0.0 o.0.1 new o.1 e).rules)
move_kept Hold a i q rs k = moves rs (moved Hold a i q rs) k (λ new e.
    let o = open_first (balance_of a i rs) _ new e in
    ((movers_move_what_they_name rs k).holds a i q o.0.0 o.0.1 new o.1 e).rules)
move_kept Release a i q rs k = moves rs (moved Release a i q rs) k (λ new e.
    let o = open_first (balance_of a i rs) _ new e in
    ((movers_move_what_they_name rs k).releases a i q o.0.0 o.0.1 new o.1 e).rules)

pub settled_kept : (ts : List Trade) (rs : List Row) → Kept rs → Kept (all_settled ts rs)
settled_kept [] rs k = k
settled_kept (t ∷ ts) rs k =
    settled_kept ts _ (moves rs (settled t.seller t.buyer t.issue t.quantity rs) k (λ new e.
    ((movers_move_what_they_name rs k).settles t.seller t.buyer t.issue t.quantity new e).rules))

-- ---- what a call changes before any trade
released_kept : (d : Side) (o : Order) (rs : List Row) → Kept rs → Kept (released_by d o rs)
released_kept Buy o rs k = k
released_kept Sell o rs k = move_kept Release _ _ _ rs k

ended_kept : (o : Option Order) (rs : List Row) → Kept rs → Kept (ended_rows o rs)
ended_kept None rs k = k
ended_kept (Some o) rs k = released_kept o.side o rs k

all_ended_kept : (b : Book) (rs : List Row) → Kept rs → Kept (all_ended b rs)
all_ended_kept [] rs k = k
all_ended_kept (o ∷ os) rs k = all_ended_kept os _ (released_kept o.side o rs k)

covered_kept : (d : Side) (e : Entry) (rs : List Row) → Kept rs → Kept (covered d e rs)
covered_kept Buy e rs k = k
covered_kept Sell e rs k = move_kept Hold _ _ _ rs k

recovered_kept : (d : Side) (o : Order) (q : ℕ) (rs : List Row) → Kept rs → Kept (recovered d o q rs)
recovered_kept Buy o q rs k = k
recovered_kept Sell o q rs k =
    cond_both (ltb o.left q) (held_for o.account o.issue (q - o.left) rs) (released_to o.account o.issue (o.left - q) rs) Kept
    (λ _. move_kept Hold _ _ _ rs k)
    (λ _. move_kept Release _ _ _ rs k)

amended_kept : (o : Option Order) (q : ℕ) (rs : List Row) → Kept rs → Kept (amended_rows o q rs)
amended_kept None q rs k = k
amended_kept (Some o) q rs k = recovered_kept o.side o q rs k

pub accepted_kept : (c : Call) (l : Ledger) (rs : List Row) → Kept rs → Kept (rows_by c l rs)
accepted_kept (Enter e) l rs k = covered_kept e.side e rs k
accepted_kept (Amend n q p t) l rs k = amended_kept (find n l.live) q rs k
accepted_kept (Cancel n) l rs k = ended_kept (find n l.live) rs k
accepted_kept (Suspend n) l rs k = k
accepted_kept (Resume n) l rs k = k
accepted_kept (Deposit a i q) l rs k = deposit_kept a i q rs k
accepted_kept (Withdraw a i q) l rs k = move_kept Withdrawing a i q rs k
accepted_kept (Reference i p) l rs k = k
accepted_kept Open l rs k = k
accepted_kept Close l rs k = all_ended_kept l.live rs k

-- ---- what follows
now_kept : (life : Life) (n : ℕ) (s : State) → Kept s.rows → Kept (if_now life n s).rows
now_kept Day n s k = k
now_kept Now n s k = ended_kept (find n s.ledger.live) s.rows k

tried_kept : (p : Phase) (life : Life) (n i : ℕ) (s : State) → Kept s.rows → Kept (tried p life n i s).1.rows
tried_kept PreOpen life n i s k = k
tried_kept Continuous life n i s k =
    let ts : List Trade = attempt_of n s.ledger.live in
    let x : State = if_now life n (executed ts s) in
    settled_kept (all_rounds i x.ledger.live).trades x.rows (now_kept life n (executed ts s) (settled_kept ts s.rows k))
tried_kept Closed life n i s k = k

finished_kept : (p : Phase) (n i : ℕ) (s : State) → Kept s.rows → Kept (finished p n i s).1.rows
finished_kept PreOpen n i s k = k
finished_kept Continuous n i s k = settled_kept (all_rounds i s.ledger.live).trades s.rows k
finished_kept Closed n i s k = k

rounds_kept : (is : List ℕ) (d : Outcome) (s : State) → Kept s.rows → Kept (rounds_in is (Ok d, s)).1.rows
rounds_kept [] d s k = k
rounds_kept (i ∷ is) d s k =
    let r : Rounds = all_rounds i s.ledger.live in
    rounds_kept is (record { number = d.number; trades = d.trades + length r.trades; rounds = d.rounds + r.count }) (executed r.trades s) (settled_kept r.trades s.rows k)

followed_kept : (l : Ledger) (c : Call) (s : State) → Kept s.rows → Kept (followed l c s).1.rows
followed_kept l (Enter e) s k = tried_kept l.phase _ _ _ s k
followed_kept l (Amend n q p t) s k = tried_kept l.phase _ _ _ s k
followed_kept l (Cancel n) s k = finished_kept l.phase _ _ s k
followed_kept l (Suspend n) s k = finished_kept l.phase _ _ s k
followed_kept l (Resume n) s k = tried_kept l.phase _ _ _ s k
followed_kept l (Deposit a i q) s k = k
followed_kept l (Withdraw a i q) s k = k
followed_kept l (Reference i p) s k = k
followed_kept l Open s k =
    let ts : List Trade = all_trades 1 s.closes s.ledger.live in
    rounds_kept issues (record { number = 0; trades = length ts; rounds = 0 }) (executed ts s) (settled_kept ts s.rows k)
followed_kept l Close s k = k

decided_kept : (o : Option MarketFault) (s : State) (c : Call) → Kept s.rows → Kept (decided o s c).1.rows
decided_kept (Some f) s c k = k
decided_kept None s c k = followed_kept s.ledger c (accepted s c) (accepted_kept c s.ledger s.rows k)

pub runs_keep_the_register : RunsKeepTheRegister
runs_keep_the_register s [] k = k
runs_keep_the_register s (c ∷ cs) k =
    runs_keep_the_register (step c.0 s c.1).1 cs (decided_kept (refusal c.0 s.ledger s.rows c.1) s c.1 k)
