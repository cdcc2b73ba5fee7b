-- Shares behind orders, and what trades move. Assumes nothing.
use Rattle.std.specs.Prelude.{◌≡◌, ℕ, ◌+◌, Bool, true, cond, ◌&&◌, List, [], ◌∷◌, is_some, Some, None, Option, ◌==◌}
use Rattle.std.specs.List.{AllByRecursion as EveryOne}
use Rattle.register.specs.declared.holding.Row.{Row}
use Rattle.register.specs.Rules.{lawful, balance_of}
use Rattle.orders.specs.declared.order.Order.{Order}
use Rattle.orders.specs.declared.order.Trade.{Trade}
use Rattle.orders.specs.Book.{Book, after}
use Rattle.orders.specs.Laws.{AllFair}
use Rattle.rules.specs.Refusals.{is_sell, is_open}
use Rattle.rules.specs.Market.{all_settled}

-- held shares of a balance, and free and held together; a pair that is not open counts as 0
abbrev pub held_in : Option (ℕ × ℕ) → ℕ
held_in None = 0
held_in (Some p) = p.1

abbrev pub shares_in : Option (ℕ × ℕ) → ℕ
shares_in None = 0
shares_in (Some p) = p.0 + p.1

-- the pair (a, i) is that of account c in issue j
abbrev pub same_pair : ℕ → ℕ → ℕ → ℕ → Bool
same_pair c j a i = c == a && j == i

-- what the pair's live sells have left
abbrev pub sells_of : ℕ → ℕ → Order → Bool
sells_of a i o = is_sell o.side && same_pair o.account o.issue a i

abbrev pub backing : ℕ → ℕ → Book → ℕ
backing a i [] = 0
backing a i (o ∷ os) = cond (sells_of a i o) o.left 0 + backing a i os

-- what the pair buys and sells by trades
abbrev pub bought : ℕ → ℕ → List Trade → ℕ
bought a i [] = 0
bought a i (t ∷ ts) = cond (same_pair t.buyer t.issue a i) t.quantity 0 + bought a i ts

abbrev pub sold : ℕ → ℕ → List Trade → ℕ
sold a i [] = 0
sold a i (t ∷ ts) = cond (same_pair t.seller t.issue a i) t.quantity 0 + sold a i ts

-- Each live order's pair is open, and a pair's held shares are `extra`, which no order stands behind, and what its live sells have left.
pub record Covered (extra : ℕ → ℕ → ℕ) (b : Book) (rs : List Row) : Type 0 where
  pub pairs : EveryOne (λ o. is_open o.account o.issue rs ≡ true) b
  pub held : (a i : ℕ) → held_in (balance_of a i rs) ≡ extra a i + backing a i b

-- Fair trades over a register that covers the live sells: every one is settled in full, so that a pair's shares change by what it buys and
-- sells alone, and the live sells are covered still.
pub record SettledInFull (extra : ℕ → ℕ → ℕ) (ts : List Trade) (b : Book) (rs : List Row) : Type 0 where
  pub covered : Covered extra (after ts b) (all_settled ts rs)
  pub shares : (a i : ℕ) → shares_in (balance_of a i (all_settled ts rs)) + sold a i ts ≡ shares_in (balance_of a i rs) + bought a i ts
  pub opened : (a i : ℕ) → is_some (balance_of a i (all_settled ts rs)) ≡ is_some (balance_of a i rs)

abbrev pub TradesSettle : Type 0
TradesSettle = (extra : ℕ → ℕ → ℕ) (ts : List Trade) (b : Book) (rs : List Row) → lawful rs ≡ true → AllFair ts b → Covered extra b rs → SettledInFull extra ts b rs
