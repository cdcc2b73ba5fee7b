-- What each mover does to balances and totals, in words. Assumes nothing.
use Rattle.std.specs.Prelude.{◌≡◌, ℕ, ◌+◌, ◌-◌, ◌≤◌, true, List, Some, Ok, ◌≢◌}
use Rattle.register.specs.declared.holding.Row.{Row}
use Rattle.register.specs.declared.movers.Move.TheVariants.{Withdraw, Hold, Release}
use Rattle.register.specs.Rules.{lawful, balance_of, total_of, deposited, moved, settled}

-- the pair (a, i) is open, with these shares
abbrev pub Has : ℕ → ℕ → ℕ → ℕ → List Row → Type 0
Has a i free held rs = balance_of a i rs ≡ Some (free, held)

-- the pairs (a, i) and (b, i) apart, each pair has the shares that it had, and is open if it was
abbrev pub OthersStay : ℕ → ℕ → ℕ → List Row → List Row → Type 0
OthersStay a b i old new = (c j : ℕ) → (c ≡ a → j ≢ i) → (c ≡ b → j ≢ i) → balance_of c j new ≡ balance_of c j old

abbrev pub OtherTotalsStay : ℕ → List Row → List Row → Type 0
OtherTotalsStay i old new = (j : ℕ) → (j ≢ i) → total_of j new ≡ total_of j old

-- A mover of one pair, done: the pair has these shares, the issue this total, and all else stays.
pub record Done (a i free held sum : ℕ) (old new : List Row) : Type 0 where
  pub pair : Has a i free held new
  pub others : OthersStay a a i old new
  pub total : total_of i new ≡ sum
  pub totals : OtherTotalsStay i old new
  pub rules : lawful new ≡ true

-- A settlement, done: the seller's held shares are fewer by q and the buyer's free shares more, also where they are one; no share is made or lost.
pub record Settlement (s b i q : ℕ) (old new : List Row) : Type 0 where
  pub seller : (free held : ℕ) → (s ≢ b) → Has s i free held old → Has s i free (held - q) new
  pub buyer : (free held : ℕ) → (s ≢ b) → Has b i free held old → Has b i (free + q) held new
  pub one_account : (free held : ℕ) → s ≡ b → Has s i free held old → Has s i (free + q) (held - q) new
  pub covered : (free held : ℕ) → Has s i free held old → q ≤ held
  pub others : OthersStay s b i old new
  pub total : total_of i new ≡ total_of i old
  pub totals : OtherTotalsStay i old new
  pub rules : lawful new ≡ true

-- Over rows that keep the rules, whatever the numbers.
pub record MoversLaw (rs : List Row) : Type 0 where
  pub deposits : (a i q free held : ℕ) (new : List Row) → Has a i free held rs → deposited a i q rs ≡ Ok new → Done a i (free + q) held (total_of i rs + q) rs new
  pub withdraws : (a i q free held : ℕ) (new : List Row) → Has a i free held rs → moved Withdraw a i q rs ≡ Ok new → Done a i (free - q) held (total_of i rs - q) rs new
  pub holds : (a i q free held : ℕ) (new : List Row) → Has a i free held rs → moved Hold a i q rs ≡ Ok new → Done a i (free - q) (held + q) (total_of i rs) rs new
  pub releases : (a i q free held : ℕ) (new : List Row) → Has a i free held rs → moved Release a i q rs ≡ Ok new → Done a i (free + q) (held - q) (total_of i rs) rs new
  pub settles : (s b i q : ℕ) (new : List Row) → settled s b i q rs ≡ Ok new → Settlement s b i q rs new

abbrev pub MoversMoveWhatTheyName : Type 0
MoversMoveWhatTheyName = (rs : List Row) → lawful rs ≡ true → MoversLaw rs
