-- What the table stands for.
use Rattle.std.specs.Prelude.{◌≡◌, ℕ, ◌+◌, ◌≤◌, List, length, Some, Option}
use Rattle.orders.specs.declared.order.Order.{Order}
use Rattle.book.specs.declared.table.Table.{Table}
use Rattle.orders.specs.declared.order.Trade.{Trade}
use Rattle.orders.specs.Book.{Book, after}
use Rattle.orders.specs.Tape.{recorded}
use Rattle.book.specs.Places.{at, book}
use Rattle.orders.specs.Laws.{Sound}

-- the live orders, ascending by number
abbrev pub book_of : Table → Book
book_of t = book t.places.slots

-- the order at a place
abbrev pub at_place : Table → ℕ → Option Order
at_place t i = at t.places.slots i

-- The table keeps a sound book.
abbrev pub TablesSound : Type 0
TablesSound = (t : Table) → Sound (book_of t)

-- The row decides nothing: two tables that hold the same orders, in whatever places, stand for one book.
abbrev pub TablesAlike : Type 0
TablesAlike = (t u : Table) → ((i : ℕ) (o : Order) → at_place t i ≡ Some o → (j : ℕ) × (at_place u j ≡ Some o)) →
    ((j : ℕ) (o : Order) → at_place u j ≡ Some o → (i : ℕ) × (at_place t i ≡ Some o)) → book_of t ≡ book_of u

-- The trades ts, n of them, are made on the table, and stand at the start of the tape's free part: no more trades than orders end.
pub record Made (ts : List Trade) (n : ℕ) (t t' : Table) (free free' : List Trade) : Type 0 where
  pub book : book_of t' ≡ after ts (book_of t)
  pub given : t'.given ≡ t.given
  pub tape : free' ≡ recorded 0 ts free
  pub count : n ≡ length ts
  pub few : n + length (book_of t') ≤ length (book_of t)
