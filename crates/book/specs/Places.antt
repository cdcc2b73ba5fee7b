-- What the places of the table stand for.
use Rattle.std.specs.Prelude.{◌≡◌, ℕ, ◌<◌, Bool, true, false, cond, List, [], ◌∷◌, Some, None, Option, ◌==◌, ◌≢◌, nat_lt, slice_index_or}
use Rattle.std.specs.List.{list_all}
use Rattle.orders.specs.declared.order.Order.{Order}
use Rattle.orders.specs.Orders.{in_bounds}
use Rattle.orders.specs.Search.{In}
use Rattle.orders.specs.Book.{Book, number_of}

abbrev pub Slots : Type 0
Slots = List (Option Order)

-- the slot at a place, free past the end
abbrev pub at : Slots → ℕ → Option Order
at ss i = slice_index_or ss i None

-- an order put into a book that ascends by number
abbrev pub insert : Order → Book → Book
insert o [] = o ∷ []
insert o (p ∷ ps) = cond (nat_lt o.number p.number) (o ∷ (p ∷ ps)) (p ∷ insert o ps)

abbrev pub insert_slot : Option Order → Book → Book
insert_slot None b = b
insert_slot (Some o) b = insert o b

-- the orders of the places, ascending by number
abbrev pub book : Slots → Book
book [] = []
book (s ∷ ss) = insert_slot s (book ss)

-- What the places keep to.
-- two slots that hold orders with one key
abbrev pub Clash : (Order → ℕ) → Option Order → Option Order → Type 0
Clash key None t = ⊥
Clash key (Some o) None = ⊥
Clash key (Some o) (Some p) = key o ≡ key p

-- no two places hold orders with one key
abbrev pub Apart : (Order → ℕ) → Slots → Type 0
Apart key ss = (i j : ℕ) → Clash key (at ss i) (at ss j) → i ≡ j

-- no place but i holds an order with the key of s
abbrev pub Alone : (Order → ℕ) → Slots → ℕ → Option Order → Type 0
Alone key ss i s = (j : ℕ) → (j ≢ i) → Clash key s (at ss j) → ⊥

-- every key of the book is below n
abbrev pub Under : (Order → ℕ) → ℕ → Book → Type 0
Under key n b = (o : Order) → In o b → key o < n

-- the orders of other numbers have not o's stamp
abbrev pub OwnStamp : Order → Book → Type 0
OwnStamp o b = (x : Order) → In x b → x.stamp ≡ o.stamp → x.number ≡ o.number

-- an order in the slot is within its bounds
abbrev pub bounded : Option Order → Bool
bounded None = true
bounded (Some o) = in_bounds o

abbrev pub all_bounded : Slots → Bool
all_bounded ss = list_all bounded ss

-- the slot holds the order of number n
abbrev pub holds : ℕ → Option Order → Bool
holds n None = false
holds n (Some o) = o.number == n

-- The row decides nothing: places that hold the same orders, in whatever rows, stand for one book.
abbrev pub PlacesFree : Type 0
PlacesFree = (ss ts : Slots) → Apart number_of ss → Apart number_of ts →
    ((i : ℕ) (o : Order) → at ss i ≡ Some o → (j : ℕ) × (at ts j ≡ Some o)) → ((j : ℕ) (o : Order) → at ts j ≡ Some o → (i : ℕ) × (at ss i ≡ Some o)) → book ss ≡ book ts
