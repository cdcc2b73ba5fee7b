-- The caller's tape of trades.
use Rattle.std.specs.Prelude.{ℕ, ◌+◌, List, [], ◌∷◌, ◌++◌, length, take, drop, slice_set}
use Rattle.orders.specs.declared.order.Trade.{Trade}

-- the trades stand from place u on, and each other record is as it was
abbrev pub recorded : ℕ → List Trade → List Trade → List Trade
recorded u ts tape = take u tape ++ (ts ++ drop (u + length ts) tape)

-- trades written from place u on, one by one
abbrev pub written : ℕ → List Trade → List Trade → List Trade
written u [] tape = tape
written u (t ∷ ts) tape = written (u + 1) ts (slice_set tape u t)
