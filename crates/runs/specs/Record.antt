-- The record of a run: its calls, their answers and the tape. The ledger is read off it, and nothing is matched: each call's trades are the next of
-- the tape, as many as its answer says. Assumes nothing.
use Rattle.std.specs.Prelude.{ℕ, ◌+◌, List, [], ◌∷◌, take, drop, Some, None, Ok, Err, Option}
use Rattle.orders.specs.declared.order.Trade.{Trade}
use Rattle.orders.specs.declared.order.Life.{Life}
use Rattle.orders.specs.declared.order.Life.TheVariants.{Day, Now}
use Rattle.orders.specs.declared.order.Call.{Call}
use Rattle.orders.specs.declared.order.Call.TheVariants.{Enter, Amend, Cancel, Suspend, Resume, Deposit, Withdraw, Reference, Open, Close}
use Rattle.orders.specs.Book.{after}
use Rattle.matching.specs.Laws.{dropped}
use Rattle.rules.specs.Ledger.{Ledger, noted}
use Rattle.rules.specs.Market.{Answer}

abbrev pub only_now : Life → ℕ → Option ℕ
only_now Day n = None
only_now Now n = Some n

-- the order that ends after the trades of its call: an entry whose life is now
abbrev pub now_order : Call → ℕ → Option ℕ
now_order (Enter e) n = only_now e.life n
now_order (Amend k q p t) n = None
now_order (Cancel k) n = None
now_order (Suspend k) n = None
now_order (Resume k) n = None
now_order (Deposit a i q) n = None
now_order (Withdraw a i q) n = None
now_order (Reference i p) n = None
now_order Open n = None
now_order Close n = None

abbrev pub ends_after : Call → Answer → Option ℕ
ends_after c (Ok d) = now_order c d.number
ends_after c (Err f) = None

-- the ledger as a call leaves it before its trades; a refused call changes nothing
abbrev pub before_trades : Call → Answer → Ledger → Ledger
before_trades c (Ok d) l = noted c d.number l
before_trades c (Err f) l = l

-- how many trades an answer counts
abbrev pub trades_in : Answer → ℕ
trades_in (Ok d) = d.trades
trades_in (Err f) = 0

-- each trade lowers both its orders, turns a least term plain, and ends an order that has nothing left; then a now order ends
abbrev pub traded_ledger : Option ℕ → ℕ → List Trade → Ledger → Ledger
traded_ledger g count ts l =
    record { phase = l.phase; live = dropped g (after ts l.live); number = l.number; stamp = l.stamp; used = l.used + count }

-- the ledger after a call
abbrev pub after_call : Call → Answer → List Trade → Ledger → Ledger
after_call c x ts l = traded_ledger (ends_after c x) (trades_in x) ts (before_trades c x l)

-- the ledger that a record comes to
abbrev pub replay : List Call → List Answer → List Trade → Ledger → Ledger
replay [] xs ts l = l
replay (c ∷ cs) [] ts l = l
replay (c ∷ cs) (x ∷ xs) ts l = replay cs xs (drop (trades_in x) ts) (after_call c x (take (trades_in x) ts) l)
