-- What the tests of sides and terms say in words.
use Rattle.std.proofs.Common.{◌≡◌, ℕ, true, not, arith}
use Rattle.std.proofs.lemmas.Grind.{common_steps}
use Rattle.orders.specs.declared.order.Order.{Order}
use Rattle.orders.specs.declared.order.Side.{Side}
use Rattle.orders.specs.declared.order.Term.{Term}
use Rattle.orders.specs.declared.order.Term.TheVariants.{Plain}
use Rattle.orders.specs.Orders.{opposed, special, plain_in, working_opposite}

pub plain_term : (t : Term) → not (special t) ≡ true → t ≡ Plain
plain_term t e = grind (arith, common_steps)

pub record PlainIn (i : ℕ) (s : Side) (o : Order) : Type 0 where
  pub issue : o.issue ≡ i
  pub side : o.side ≡ s
  pub working : o.working ≡ true
  pub plain : o.term ≡ Plain

pub plain_says : (i : ℕ) (s : Side) (o : Order) → plain_in i s o ≡ true → PlainIn i s o
plain_says i s o e = grind (arith, common_steps)

pub record OppositeIn (i : ℕ) (s : Side) (o : Order) : Type 0 where
  pub issue : o.issue ≡ i
  pub against : opposed s o.side ≡ true
  pub working : o.working ≡ true

pub opposite_says : (i : ℕ) (s : Side) (o : Order) → working_opposite i s o ≡ true → OppositeIn i s o
opposite_says i s o e = grind (arith, common_steps)
