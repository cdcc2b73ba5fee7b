-- The limit of an entry whose own price is within its bounds is within them: a market limit is the price of a live order. Assumes nothing.
use Rattle.std.proofs.Common.{◌≡◌, ℕ, false, not, ◌&&◌, is_some, Some, None, filter, Option, sym}
use Rattle.std.proofs.lemmas.Bool.{or_parts, not-true}
use Rattle.std.specs.List.{AllByRecursion as EveryOne}
use Rattle.orders.specs.declared.order.Order.{Order}
use Rattle.orders.specs.declared.order.Side.{Side}
use Rattle.orders.specs.declared.order.Price.{Price}
use Rattle.orders.specs.declared.order.Price.TheVariants.{Limit, Market}
use Rattle.orders.specs.Orders.{Valid, working_opposite, breaks_price}
use Rattle.orders.specs.Book.{Book, best_opposite}
use Rattle.orders.specs.Lists.{all_in, in_kept}
use Rattle.orders.specs.Firsts.{first_tops}
use Rattle.orders.specs.Ranks.{ahead_ranks}
use Rattle.orders.proofs.Validity.{valid_bounds}
use Rattle.rules.specs.Ledger.{limit_for}
use Rattle.rules.specs.Refusals.{is_market, limit_breaks}

best_bounded : (b : Book) → EveryOne Valid b → (i : ℕ) (s : Side) (o : Order) → best_opposite i s b ≡ Some o → breaks_price o.price ≡ false
best_bounded b h i s o e =
    let lives = (in_kept (working_opposite i s) b o (first_tops ahead_ranks (filter (working_opposite i s) b) o e).0).0 in
    (or_parts _ _ (not-true _ (valid_bounds o (all_in Valid b h o lives)))).0

pub limit_bounded : (b : Book) → EveryOne Valid b → (i : ℕ) (s : Side) (p : Price) (best : Option Order) → best ≡ best_opposite i s b →
    (is_market p && not (is_some best)) ≡ false → limit_breaks p ≡ false → breaks_price (limit_for p best) ≡ false
limit_bounded b v i s (Limit p) best e h k = k
limit_bounded b v i s Market None e h k = cc
limit_bounded b v i s Market (Some o) e h k = best_bounded b v i s o (sym e)
