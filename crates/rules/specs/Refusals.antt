-- Which call is refused, and by which fault: the first condition that holds, in the order of the table. Assumes nothing.
use Rattle.std.specs.Prelude.{ℕ, ◌+◌, ◌-◌, min, Bool, true, false, cond, not, ◌&&◌, ◌||◌, List, [], ◌∷◌, length, is_some, Some, None, Option, nat_le, nat_lt}
use Rattle.register.specs.declared.holding.Row.{Row}
use Rattle.register.specs.declared.fault.RegisterFault.TheVariants.{NotOpen, ShortFree, OverTotal}
use Rattle.register.specs.Rules.{limit, balance_of, total_of}
use Rattle.orders.specs.declared.order.Order.{Order}
use Rattle.orders.specs.declared.order.Entry.{Entry}
use Rattle.orders.specs.declared.order.Side.{Side}
use Rattle.orders.specs.declared.order.Side.TheVariants.{Buy, Sell}
use Rattle.orders.specs.declared.order.Term.{Term}
use Rattle.orders.specs.declared.order.Life.{Life}
use Rattle.orders.specs.declared.order.Life.TheVariants.{Day, Now}
use Rattle.orders.specs.declared.order.Price.{Price}
use Rattle.orders.specs.declared.order.Price.TheVariants.{Limit, Market}
use Rattle.orders.specs.declared.order.Call.{Call}
use Rattle.orders.specs.declared.order.Call.TheVariants.{Enter, Amend, Cancel, Suspend, Resume, Deposit, Withdraw, Reference, Open, Close}
use Rattle.orders.specs.Orders.{breaks_price, breaks_quantity, breaks_least, never_given, stamps_out}
use Rattle.orders.specs.Book.{find, best_opposite}
use Rattle.rules.specs.declared.lent.Lent.{Lent}
use Rattle.rules.specs.declared.outcome.Phase.{Phase}
use Rattle.rules.specs.declared.outcome.Phase.TheVariants.{PreOpen, Continuous, Closed}
use Rattle.rules.specs.declared.fault.MarketFault.{MarketFault}
use Rattle.rules.specs.declared.fault.MarketFault.TheVariants.{WrongPhase, UncleanStrip, ShortTape, UnknownIssue, NeverGiven, OrderEnded, NothingToChange, BadPrice, BadQuantity, BadLeast, NoneOpposite, BookFull, StampsOut, InRegister}
use Rattle.rules.specs.Ledger.{Ledger, restamps}

abbrev pub first_refusal : List (Bool × MarketFault) → Option MarketFault
first_refusal [] = None
first_refusal (c ∷ cs) = cond c.0 (Some c.1) (first_refusal cs)

-- one group of conditions after another: a group that refuses comes first
abbrev pub or_else : Option MarketFault → Option MarketFault → Option MarketFault
or_else None next = next
or_else (Some f) next = Some f

-- Words.
abbrev pub is_pre_open : Phase → Bool
is_pre_open PreOpen = true
is_pre_open Continuous = false
is_pre_open Closed = false

abbrev pub is_continuous : Phase → Bool
is_continuous PreOpen = false
is_continuous Continuous = true
is_continuous Closed = false

abbrev pub is_closed : Phase → Bool
is_closed PreOpen = false
is_closed Continuous = false
is_closed Closed = true

abbrev pub is_market : Price → Bool
is_market (Limit p) = false
is_market Market = true

abbrev pub limit_breaks : Price → Bool
limit_breaks (Limit p) = breaks_price p
limit_breaks Market = false

abbrev pub is_now : Life → Bool
is_now Day = false
is_now Now = true

abbrev pub is_sell : Side → Bool
is_sell Buy = false
is_sell Sell = true

abbrev pub known_issue : ℕ → Bool
known_issue i = nat_le 1 i && nat_le i 16

-- free shares of a pair, 0 where it is not open
abbrev pub free_in : Option (ℕ × ℕ) → ℕ
free_in None = 0
free_in (Some p) = p.0

abbrev pub is_open : ℕ → ℕ → List Row → Bool
is_open a i rs = is_some (balance_of a i rs)

-- the pair's free shares are below q
abbrev pub too_few : ℕ → ℕ → ℕ → List Row → Bool
too_few a i q rs = nat_lt (free_in (balance_of a i rs)) q

-- the tape's length, at most 32,768, less the records used, is below live orders + 1
abbrev pub tape_short : ℕ → Ledger → Bool
tape_short room l = nat_lt (min room 32768 - l.used) (length l.live + 1)

-- a live order that works; what a live sell would need more than it has left
abbrev pub works : Option Order → Bool
works None = false
works (Some o) = o.working

abbrev pub short_for : Option Order → ℕ → List Row → Bool
short_for None q rs = false
short_for (Some o) q rs = is_sell o.side && too_few o.account o.issue (q - o.left) rs

-- Groups of conditions.
-- 2, 3 and 4 of a call that may trade
abbrev pub lent_refusal : Bool → Lent → Ledger → Option MarketFault
lent_refusal wrong lent l = first_refusal ((wrong, WrongPhase) ∷ (not lent.clean, UncleanStrip) ∷ (tape_short lent.room l, ShortTape) ∷ [])

-- 2, 3, 4, 6 and 7 of a call on an order
abbrev pub live_refusal : Lent → Ledger → ℕ → Option MarketFault
live_refusal lent l n =
    or_else (lent_refusal (is_closed l.phase) lent l)
    (first_refusal ((never_given l.number n, NeverGiven) ∷ (not (is_some (find n l.live)), OrderEnded) ∷ []))

-- 9, 10 and 11
abbrev pub terms_refusal : Price → ℕ → Term → Option MarketFault
terms_refusal p q t = first_refusal ((limit_breaks p, BadPrice) ∷ (breaks_quantity q, BadQuantity) ∷ (breaks_least t q, BadLeast) ∷ [])

-- an entry needs a phase, and market and now need continuous trading
abbrev pub wrong_to_enter : Phase → Entry → Bool
wrong_to_enter PreOpen e = is_market e.price || is_now e.life
wrong_to_enter Continuous e = false
wrong_to_enter Closed e = true

-- 12, 13, 14 and 15 of an entry
abbrev pub entry_refusal : Ledger → List Row → Entry → Option MarketFault
entry_refusal l rs e =
    first_refusal ((is_market e.price && not (is_some (best_opposite e.issue e.side l.live)), NoneOpposite)
    ∷ (is_sell e.side && too_few e.account e.issue e.quantity rs, InRegister ShortFree)
    ∷ (nat_le 256 (length l.live), BookFull)
    ∷ (stamps_out l.stamp, StampsOut)
    ∷ [])

abbrev pub refusal : Lent → Ledger → List Row → Call → Option MarketFault
refusal lent l rs (Enter e) =
    or_else (lent_refusal (wrong_to_enter l.phase e) lent l)
    (or_else (first_refusal ((not (is_open e.account e.issue rs), InRegister NotOpen) ∷ []))
    (or_else (terms_refusal e.price e.quantity e.term) (entry_refusal l rs e)))
refusal lent l rs (Amend n q p t) =
    or_else (live_refusal lent l n)
    (or_else (terms_refusal (Limit p) q t)
    (first_refusal ((short_for (find n l.live) q rs, InRegister ShortFree) ∷ (restamps (find n l.live) p t && stamps_out l.stamp, StampsOut) ∷ [])))
refusal lent l rs (Cancel n) = live_refusal lent l n
refusal lent l rs (Suspend n) = or_else (live_refusal lent l n) (first_refusal ((not (works (find n l.live)), NothingToChange) ∷ []))
refusal lent l rs (Resume n) = or_else (live_refusal lent l n) (first_refusal ((works (find n l.live), NothingToChange) ∷ (stamps_out l.stamp, StampsOut) ∷ []))
refusal lent l rs (Deposit a i q) =
    first_refusal ((is_closed l.phase, WrongPhase) ∷ (not (is_open a i rs), InRegister NotOpen) ∷ (nat_lt limit (total_of i rs + q), InRegister OverTotal) ∷ [])
refusal lent l rs (Withdraw a i q) =
    first_refusal ((is_closed l.phase, WrongPhase) ∷ (not (is_open a i rs), InRegister NotOpen) ∷ (too_few a i q rs, InRegister ShortFree) ∷ [])
refusal lent l rs (Reference i p) =
    first_refusal ((not (is_pre_open l.phase), WrongPhase) ∷ (not (known_issue i), UnknownIssue) ∷ (breaks_price p, BadPrice) ∷ [])
refusal lent l rs Open = lent_refusal (not (is_pre_open l.phase)) lent l
refusal lent l rs Close = first_refusal ((not (is_continuous l.phase), WrongPhase) ∷ [])
