-- What is true of every call, in words. Assumes nothing.
use Rattle.std.specs.Prelude.{◌≡◌, true, List, Some, Err}
use Rattle.register.specs.Rules.{lawful}
use Rattle.orders.specs.declared.order.Call.{Call}
use Rattle.rules.specs.declared.fault.MarketFault.{MarketFault}
use Rattle.rules.specs.declared.lent.Lent.{Lent}
use Rattle.rules.specs.Refusals.{refusal}
use Rattle.rules.specs.Market.{State, step, run}

-- A call that answers a fault leaves ledger, previous closes, register and tape as they were; and that fault is the first whose condition holds.
pub record LeftAlone (lent : Lent) (s : State) (c : Call) (f : MarketFault) (new : State) : Type 0 where
  pub same : new ≡ s
  pub first : refusal lent s.ledger s.rows c ≡ Some f

abbrev pub RefusalsChangeNothing : Type 0
RefusalsChangeNothing = (lent : Lent) (s : State) (c : Call) (f : MarketFault) (new : State) → step lent s c ≡ (Err f, new) → LeftAlone lent s c f new

-- Over a register that keeps the register's rules, every run of calls keeps them: rows ascend, pairs are in range, and no issue's total passes its limit.
abbrev pub RunsKeepTheRegister : Type 0
RunsKeepTheRegister = (s : State) (calls : List (Lent × Call)) → lawful s.rows ≡ true → lawful (run s calls).1.rows ≡ true
