-- What the check of a caller's rows answers. Assumes nothing.
use Rattle.std.specs.Prelude.{ℕ, Bool, cond, ◌&&◌, List, [], length, Some, None, Ok, Err, Option, Result, nat_le}
use Rattle.register.specs.declared.holding.Row.{Row}
use Rattle.register.specs.declared.fault.RegisterFault.{RegisterFault}
use Rattle.register.specs.declared.fault.RegisterFault.TheVariants.{BadRows}
use Rattle.register.specs.Rules.{lawful, limit, total_of}

-- rows that a register may be made over
abbrev pub acceptable : List Row → Bool
acceptable rs = nat_le (length rs) 4096 && lawful rs

abbrev pub checked : List Row → Result (Unit {0}) RegisterFault
checked rs = cond (acceptable rs) (Ok tt) (Err BadRows)

-- what a register with the flag b means over the rows
abbrev pub meant : Bool → List Row → List Row
meant b rs = cond b rs []

abbrev pub total_if_within : ℕ → List Row → Option ℕ
total_if_within i rs = cond (nat_le (total_of i rs) limit) (Some (total_of i rs)) None

-- of a register over lent rows, what no call changes: whose the rows are, the flag, and, with the flag down, the rows
abbrev pub Lent : Type 0
Lent = ℕ × Bool × List Row

abbrev pub lent : ℕ → Bool → List Row → Lent
lent name b rs = (name, b, cond b [] rs)
