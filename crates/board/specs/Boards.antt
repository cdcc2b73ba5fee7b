-- The state of the rules that a board stands for, with the register's rows and the tape that it is lent. Assumes nothing.
use Rattle.std.specs.Prelude.{◌≡◌, ℕ, ◌+◌, ◌≤◌, true, false, min, List, length, take, Option}
use Rattle.register.specs.declared.holding.Row.{Row}
use Rattle.orders.specs.declared.order.Call.{Call}
use Rattle.orders.specs.declared.order.Trade.{Trade}
use Rattle.orders.specs.Strip.{clean}
use Rattle.book.specs.Table.{book_of}
use Rattle.rules.specs.declared.fault.MarketFault.{MarketFault}
use Rattle.rules.specs.Ledger.{Ledger}
use Rattle.rules.specs.declared.lent.Lent.{Lent}
use Rattle.rules.specs.Refusals.{refusal}
use Rattle.rules.specs.Market.{State}
use Rattle.board.specs.declared.Board.{Board}

-- the live orders and counters
abbrev pub ledger_of : Board → Ledger
ledger_of b = record { phase = b.phase; live = book_of b.table; number = b.table.given.number; stamp = b.table.given.stamp; used = b.used }

abbrev pub state_of : Board → List Row → List Trade → State
state_of b rows tape = record { ledger = ledger_of b; closes = b.closes; rows = rows; tape = take b.used tape }

-- a tape and a strip as they are lent to a call
abbrev pub lent_by : List Trade → List ℕ → Lent
lent_by tape strip = record { clean = clean strip; room = length tape }

-- what stands for a tape and a strip where a call is lent none
abbrev pub no_lent : Lent
no_lent = record { clean = false; room = 0 }

-- what is lent passes the checks: the strip is clean, and the tape has room for as many trades as there are live orders, and one more
pub record Usable (b : Board) (lent : Lent) : Type 0 where
  pub clean : lent.clean ≡ true
  pub fits : b.used + length (book_of b.table) + 1 ≤ min lent.room 32768

-- the records that may be read: those used, as far as the tape goes
abbrev pub readable : Board → List Trade → ℕ
readable b tape = min b.used (length tape)

-- the fault of a call on a board with what is lent and these rows
abbrev pub refused : Board → Lent → List Row → Call → Option MarketFault
refused b lent rs c = refusal lent (ledger_of b) rs c
