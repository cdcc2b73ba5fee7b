-- What a register means, a list of rows, and what each call answers and leaves. Assumes nothing.
use Rattle.std.specs.Prelude.{ℕ, ◌+◌, ◌-◌, Bool, true, cond, ◌&&◌, ◌||◌, leb, List, [], ◌∷◌, map, Some, None, Ok, Err, sum_by, Option, Result, ◌==◌, nat_le, nat_lt}
use Rattle.std.specs.List.{range_with_len, list_all}
use Rattle.register.specs.declared.holding.Row.{Row}
use Rattle.register.specs.declared.fault.RegisterFault.{RegisterFault}
use Rattle.register.specs.declared.fault.RegisterFault.TheVariants.{NotOpen, ShortFree, ShortHeld, OverTotal, BadRows}
use Rattle.register.specs.declared.movers.Move.{Move}
use Rattle.register.specs.declared.movers.Move.TheVariants.{Withdraw, Hold, Release}

-- the number of each fault
abbrev pub fault_number : RegisterFault → ℕ
fault_number NotOpen = 1
fault_number ShortFree = 2
fault_number ShortHeld = 3
fault_number OverTotal = 4
fault_number BadRows = 5

-- what an issue's total may not pass
abbrev pub limit : ℕ
limit = 1000000000000

-- the row of the pair (a, i)?
abbrev pub names : ℕ → ℕ → Row → Bool
names a i r = r.account == a && r.issue == i

-- free and held shares of the pair (a, i), absent where it is not open
abbrev pub balance_of : ℕ → ℕ → List Row → Option (ℕ × ℕ)
balance_of a i [] = None
balance_of a i (r ∷ rs) = cond (names a i r) (Some (r.free, r.held)) (balance_of a i rs)

-- free plus held over the open pairs of issue i
abbrev pub shares : ℕ → Row → ℕ
shares i r = cond (r.issue == i) (r.free + r.held) 0

abbrev pub total_of : ℕ → List Row → ℕ
total_of i rs = sum_by (shares i) rs

-- ---- the rules that each register's rows keep

-- ascending by account, then issue, so that no pair stands twice
abbrev pub precedes : Row → Row → Bool
precedes r s = nat_lt r.account s.account || (r.account == s.account && nat_lt r.issue s.issue)

abbrev pub leads : Row → List Row → Bool
leads r [] = true
leads r (s ∷ ss) = precedes r s

abbrev pub ascending : List Row → Bool
ascending [] = true
ascending (r ∷ rs) = leads r rs && ascending rs

abbrev pub in_range : Row → Bool
in_range r = (nat_le 1 r.account && nat_le r.account 999999) && (nat_le 1 r.issue && nat_le r.issue 16)

unfoldable pub issues : List ℕ
issues = range_with_len 1 16

abbrev pub capped : List Row → Bool
capped rs = list_all (λ i. leb (total_of i rs) limit) issues

unfoldable pub lawful : List Row → Bool
lawful rs = (ascending rs && list_all in_range rs) && capped rs

-- ---- the movers: the rows after, or the fault

abbrev pub Moved : Type 0
Moved = Result (List Row) RegisterFault

abbrev pub figured : Row → ℕ → ℕ → Row
figured r free held = record { account = r.account; issue = r.issue; free = free; held = held }

-- the row of the pair (a, i) changed by g
abbrev pub change : ℕ → ℕ → (Row → Row) → List Row → List Row
change a i g rs = map (λ r. cond (names a i r) (g r) r) rs

abbrev pub gain_free : ℕ → Row → Row
gain_free q r = figured r (r.free + q) r.held

abbrev pub lose_held : ℕ → Row → Row
lose_held q r = figured r r.free (r.held - q)

-- a pair that is not open refuses first
abbrev pub if_open : Option (ℕ × ℕ) → (ℕ → ℕ → Moved) → Moved
if_open None then = Err NotOpen
if_open (Some p) then = then p.0 p.1

abbrev pub deposited : ℕ → ℕ → ℕ → List Row → Moved
deposited a i q rs = if_open (balance_of a i rs) (λ free held.
    cond (nat_le (total_of i rs + q) limit) (Ok (change a i (gain_free q) rs)) (Err OverTotal))

-- the pair's free and held shares after a move of q, or the fault
abbrev pub figures_after : Move → ℕ → ℕ → ℕ → Result (ℕ × ℕ) RegisterFault
figures_after Withdraw q free held = cond (nat_le q free) (Ok (free - q, held)) (Err ShortFree)
figures_after Hold q free held = cond (nat_le q free) (Ok (free - q, held + q)) (Err ShortFree)
figures_after Release q free held = cond (nat_le q held) (Ok (free + q, held - q)) (Err ShortHeld)

abbrev pub with_figures : ℕ → ℕ → List Row → Result (ℕ × ℕ) RegisterFault → Moved
with_figures a i rs (Ok p) = Ok (change a i (λ r. figured r p.0 p.1) rs)
with_figures a i rs (Err e) = Err e

abbrev pub moved : Move → ℕ → ℕ → ℕ → List Row → Moved
moved m a i q rs = if_open (balance_of a i rs) (λ free held. with_figures a i rs (figures_after m q free held))

-- s sells to b: q leaves the seller's held, then joins the buyer's free
abbrev pub settled : ℕ → ℕ → ℕ → ℕ → List Row → Moved
settled s b i q rs = if_open (balance_of s i rs) (λ _ held. if_open (balance_of b i rs) (λ _ _.
    cond (nat_le q held) (Ok (change b i (gain_free q) (change s i (lose_held q) rs))) (Err ShortHeld)))

-- what the call returns, and the rows that it leaves
abbrev pub answer : Moved → Result (Unit {0}) RegisterFault
answer (Ok rs) = Ok tt
answer (Err e) = Err e

abbrev pub after : List Row → Moved → List Row
after rs (Ok new) = new
after rs (Err e) = rs
