-- What the places keep to lets one place be written, and what the write does to their book.
use Rattle.std.proofs.Common.{◌≡◌, ℕ, ◌<◌, ◌≤◌, length, set, Some, None, sym, ap, ◌∙◌, arith}
use Rattle.orders.specs.declared.order.Order.{Order}
use Rattle.orders.specs.Book.{number_of, stamp_of, find, changed, replaced, without, lowered, reduced}
use Rattle.book.specs.declared.places.Places.{Places}
use Rattle.book.specs.Places.{at, book, Alone, OwnStamp}
use Rattle.orders.proofs.Changes.{replaced_changed}
use Rattle.book.proofs.Slots.{alone_like, alone_stamp, book_changed, book_freed, book_ended, book_lowered, book_distinct}

module _ (t : Places) (i : ℕ) (p : Order) (h : i < 256) (e : at t.slots i ≡ Some p) where
  within : i < length t.slots
  within = omega (arith, t.long)

  -- an order of the same number, with a stamp of its own, stands alone
  pub number_alone : (o : Order) → p.number ≡ o.number → Alone number_of t.slots i (Some o)
  number_alone o n = alone_like number_of t.slots i p o e n t.numbers

  pub stamp_alone : (o : Order) → p.number ≡ o.number → OwnStamp o (book t.slots) → Alone stamp_of t.slots i (Some o)
  stamp_alone o n own = alone_stamp t.slots i p o e n t.numbers own

  pub book_written : (o : Order) → p.number ≡ o.number → book (set t.slots i (Some o)) ≡ replaced o (book t.slots)
  book_written o n = book_changed (λ _. o) t.slots i p within e (sym n) t.numbers ∙ ap (λ n. changed n (λ _. o) (book t.slots)) n

  pub book_without : (n : ℕ) → p.number ≡ n → book (set t.slots i None) ≡ without n (book t.slots)
  book_without n k = book_freed t.slots i p within e t.numbers ∙ ap (λ n. without n (book t.slots)) k

  pub book_traded : (q : ℕ) → p.left ≤ q → book (set t.slots i None) ≡ reduced p.number q (book t.slots)
  book_traded q l = book_ended t.slots i q p within e t.numbers l

  pub book_less : (q : ℕ) → q < p.left → book (set t.slots i (Some (lowered q p))) ≡ reduced p.number q (book t.slots)
  book_less q l = book_lowered t.slots i q p within e t.numbers l

-- a change of the order of number n, if there is one
pub change_found : (t : Places) (f : Order → Order) (n : ℕ) (o : Order) → Some o ≡ find n (book t.slots) → (f o).number ≡ o.number → replaced (f o) (book t.slots) ≡ changed n f (book t.slots)
change_found t f n o e k = replaced_changed f n o (book t.slots) (book_distinct number_of t.slots t.numbers) (sym e) k
