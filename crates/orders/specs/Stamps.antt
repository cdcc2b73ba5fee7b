-- Orders that rank by stamp alone.
use Rattle.std.specs.Prelude.{ℕ, Some, None, Option}
use Rattle.orders.specs.declared.order.Order.{Order}
use Rattle.orders.specs.declared.rank.Stamped.{Stamped}

abbrev pub stamped : Option Order → Option Stamped
stamped None = None
stamped (Some o) = Some (record { order = o })

abbrev pub unstamped : Option (ℕ × Stamped) → Option (ℕ × Order)
unstamped None = None
unstamped (Some b) = Some (b.0, b.1.order)
