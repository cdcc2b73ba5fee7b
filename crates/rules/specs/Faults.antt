-- The number of each fault of the market. Assumes nothing.
use Rattle.std.specs.Prelude.{ℕ}
use Rattle.register.specs.declared.fault.RegisterFault.TheVariants.{NotOpen, ShortFree, ShortHeld, OverTotal, BadRows}
use Rattle.rules.specs.declared.fault.MarketFault.{MarketFault}
use Rattle.rules.specs.declared.fault.MarketFault.TheVariants.{WrongPhase, UncleanStrip, ShortTape, UnknownIssue, NeverGiven, OrderEnded, NothingToChange, BadPrice, BadQuantity, BadLeast, NoneOpposite, BookFull, StampsOut, InRegister}

abbrev pub fault_number : MarketFault → ℕ
fault_number WrongPhase = 2
fault_number UncleanStrip = 3
fault_number ShortTape = 4
fault_number UnknownIssue = 5
fault_number NeverGiven = 6
fault_number OrderEnded = 7
fault_number NothingToChange = 8
fault_number BadPrice = 9
fault_number BadQuantity = 10
fault_number BadLeast = 11
fault_number NoneOpposite = 12
fault_number BookFull = 14
fault_number StampsOut = 15
fault_number (InRegister NotOpen) = 5
fault_number (InRegister ShortFree) = 13
fault_number (InRegister OverTotal) = 16
fault_number (InRegister ShortHeld) = 0
fault_number (InRegister BadRows) = 0
