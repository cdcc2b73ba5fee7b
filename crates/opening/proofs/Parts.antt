-- Which orders take part: the test and the words.
use Rattle.std.proofs.Common.{◌≡◌, ℕ, arith, true, false}
use Rattle.std.proofs.lemmas.Bool.Decides.{nat_tests}
use Rattle.orders.specs.declared.order.Order.{Order}
use Rattle.orders.specs.declared.order.Side.{Side}
use Rattle.orders.specs.declared.order.Side.TheVariants.{Buy, Sell}
use Rattle.orders.specs.declared.order.Term.TheVariants.{Plain}
use Rattle.orders.specs.Orders.{opposed}
use Rattle.orders.specs.Book.{lowered}
use Rattle.orders.proofs.Words.{plain_term, plain_says}
use Rattle.opening.specs.Opening.{takes_part, plain_of}
use Rattle.opening.specs.Laws.{TakesPart}

pub part_says : (i p : ℕ) (s : Side) (o : Order) → takes_part i p s o ≡ true → TakesPart i p s o
part_says i p Buy o e = grind (arith, nat_tests, plain_says)
part_says i p Sell o e = grind (arith, nat_tests, plain_says)

pub says_part : (i p : ℕ) (s : Side) (o : Order) → TakesPart i p s o → takes_part i p s o ≡ true
says_part i p Buy o h = grind (arith, nat_tests)
says_part i p Sell o h = grind (arith, nat_tests)

pub no_part : (i p : ℕ) (s : Side) (o : Order) → (TakesPart i p s o → ⊥) → takes_part i p s o ≡ false
no_part i p s o n = grind (arith, part_says)

pub part_side : (i p : ℕ) (s : Side) (o : Order) → takes_part i p s o ≡ true → o.side ≡ s
part_side i p s o e = (part_says i p s o e).side

-- an order of the other side takes no part on this one
pub other_side : (i p : ℕ) (s : Side) (o : Order) → opposed s o.side ≡ true → takes_part i p s o ≡ false
other_side i p s o e = grind arith

-- a plain order that trades takes part as before
pub part_lowered : (i p q : ℕ) (s : Side) (o : Order) → o.term ≡ Plain → takes_part i p s (lowered q o) ≡ takes_part i p s o
part_lowered i p q s o e = grind arith

-- ---- the orders whose limits are candidates
pub plain_words : (i : ℕ) (o : Order) → plain_of i o ≡ true → (o.issue ≡ i) × (o.working ≡ true) × (o.term ≡ Plain)
plain_words i o e = grind (arith, nat_tests, plain_term)

pub words_plain : (i : ℕ) (o : Order) → o.issue ≡ i → o.working ≡ true → o.term ≡ Plain → plain_of i o ≡ true
words_plain i o e w t = grind (arith, nat_tests)
