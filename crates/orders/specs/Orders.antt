-- What bounds an order, and the words for sides, limits and terms.
use Rattle.std.specs.Prelude.{◌≡◌, ℕ, ◌%◌, ◌≤◌, Bool, true, false, not, ◌&&◌, ◌||◌, ◌==◌, nat_le, nat_lt}
use Rattle.orders.specs.declared.order.Order.{Order}
use Rattle.orders.specs.declared.order.Side.{Side}
use Rattle.orders.specs.declared.order.Side.TheVariants.{Buy, Sell}
use Rattle.orders.specs.declared.order.Term.{Term}
use Rattle.orders.specs.declared.order.Term.TheVariants.{Plain, All, Least}

-- Bounds: a price is a multiple of 10 from 10 to 1,000,000, a quantity is 1 to 100,000,000, and m of a least order is from 1 to its quantity.
pub record Valid (o : Order) : Type 0 where
  pub low : 10 ≤ o.price
  pub high : o.price ≤ 1000000
  pub tens : o.price % 10 ≡ 0
  pub some : 1 ≤ o.left
  pub most : o.left ≤ 100000000
  pub least : (m : ℕ) → o.term ≡ Least m → (1 ≤ m) × (m ≤ o.left)

-- the same as tests
abbrev pub breaks_price : ℕ → Bool
breaks_price p = nat_lt p 10 || (nat_lt 1000000 p || not (p % 10 == 0))

abbrev pub breaks_quantity : ℕ → Bool
breaks_quantity q = nat_lt q 1 || nat_lt 100000000 q

abbrev pub breaks_least : Term → ℕ → Bool
breaks_least Plain q = false
breaks_least All q = false
breaks_least (Least m) q = m == 0 || nat_lt q m

-- a limit, a quantity and a term within their bounds
abbrev pub Bounded : ℕ → ℕ → Term → Type 0
Bounded p q t = (breaks_price p ≡ false) × ((breaks_quantity q ≡ false) × (breaks_least t q ≡ false))

abbrev pub in_bounds : Order → Bool
in_bounds o = not (breaks_price o.price || (breaks_quantity o.left || breaks_least o.term o.left))

-- Sides, limits and terms.
abbrev pub opposed : Side → Side → Bool
opposed Buy Buy = false
opposed Buy Sell = true
opposed Sell Buy = true
opposed Sell Sell = false

-- the price p is within the limit of an order on this side
abbrev pub within : Side → ℕ → ℕ → Bool
within Buy limit p = nat_le p limit
within Sell limit p = nat_le limit p

abbrev pub special : Term → Bool
special Plain = false
special All = true
special (Least m) = true

-- a working order of the issue on the side
abbrev pub working_in : ℕ → Side → Order → Bool
working_in i s o = o.issue == i && (not (opposed s o.side) && o.working)

-- a working plain order of the issue on the side
abbrev pub plain_in : ℕ → Side → Order → Bool
plain_in i s o = working_in i s o && not (special o.term)

-- a working order of the issue on the other side
abbrev pub working_opposite : ℕ → Side → Order → Bool
working_opposite i s o = o.issue == i && (opposed s o.side && o.working)

-- Numbers and stamps each count up from 1, stamps to 1,000,000; `last` is the last given.
abbrev pub never_given : ℕ → ℕ → Bool
never_given last n = n == 0 || nat_lt last n

abbrev pub stamps_out : ℕ → Bool
stamps_out last = nat_le 1000000 last
