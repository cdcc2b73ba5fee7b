-- The first by rank among places.
use Rattle.std.specs.Prelude.{◌≡◌, ℕ, ◌<◌, Bool, true, false, cond, ◌⊎◌, List, [], ◌∷◌, Some, None, Option, MatchOption}

-- x is one of the list
abbrev pub In : {X : Type 0} → X → List X → Type 0
In x [] = ⊥
In x (y ∷ ys) = (y ≡ x) ⊎ In x ys

-- of the entries at the places below n, which `at` gives, the one at place b is x, and no other comes before it
abbrev pub Leads : {X : Type 0} → (X → X → Bool) → (ℕ → Option X) → ℕ → ℕ → X → Type 0
Leads {X} before at n b x = (b < n) × (at b ≡ Some x) × ((k : ℕ) (y : X) → k < n → at k ≡ Some y → before y x ≡ false)

abbrev pub Empty : {X : Type 0} → (ℕ → Option X) → ℕ → Type 0
Empty at n = (k : ℕ) → k < n → at k ≡ None

abbrev pub First : {X : Type 0} → (X → X → Bool) → (ℕ → Option X) → ℕ → Option (ℕ × X) → Type 0
First before at n best = MatchOption best (Empty at n) (λ b. Leads before at n b.0 b.1)

-- there is no entry so far, or x comes before the best of them
abbrev pub leads : {X : Type 0} → (X → X → Bool) → Option (ℕ × X) → X → Bool
leads before None x = true
leads before (Some b) x = before x b.1

-- the best so far, or the entry x at place i if it comes before that
abbrev pub chosen : {X : Type 0} → (X → X → Bool) → Option (ℕ × X) → ℕ → X → Option (ℕ × X)
chosen before best i x = cond (leads before best x) (Some (i, x)) best

-- an entry that passes a test
abbrev pub passing : {X : Type 0} → (X → Bool) → Option X → Option X
passing p None = None
passing p (Some x) = cond (p x) (Some x) None
