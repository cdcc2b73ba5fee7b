-- The ledger: the live orders and counters, and what an accepted call does to them before its trades. Assumes nothing.
use Rattle.std.specs.Prelude.{ℕ, ◌+◌, Bool, true, false, cond, not, ◌&&◌, [], ◌∷◌, ◌++◌, Some, None, Option, ◌==◌}
use Rattle.orders.specs.declared.order.Order.{Order}
use Rattle.orders.specs.declared.order.Entry.{Entry}
use Rattle.orders.specs.declared.order.Term.{Term}
use Rattle.orders.specs.declared.order.Term.TheVariants.{Plain, All, Least}
use Rattle.orders.specs.declared.order.Price.{Price}
use Rattle.orders.specs.declared.order.Price.TheVariants.{Limit, Market}
use Rattle.orders.specs.declared.order.Call.{Call}
use Rattle.orders.specs.declared.order.Call.TheVariants.{Enter, Amend, Cancel, Suspend, Resume, Deposit, Withdraw, Reference, Open, Close}
use Rattle.orders.specs.Book.{Book, find, placed, amended, suspended, resumed, changed, without, best_opposite}
use Rattle.rules.specs.declared.outcome.Phase.{Phase}
use Rattle.rules.specs.declared.outcome.Phase.TheVariants.{PreOpen, Continuous, Closed}

pub record Ledger : Type 0 where
  pub phase : Phase
  -- the live orders, ascending by number
  pub live : Book
  -- the last number and the last stamp given
  pub number : ℕ
  pub stamp : ℕ
  -- the records of the tape that are used
  pub used : ℕ

-- at set-up
abbrev pub blank : Ledger
blank = record { phase = PreOpen; live = []; number = 0; stamp = 0; used = 0 }

abbrev pub with_live : Book → Ledger → Ledger
with_live b l = record { phase = l.phase; live = b; number = l.number; stamp = l.stamp; used = l.used }

-- a market limit is the price of the best-ranked working order opposite
abbrev pub limit_for : Price → Option Order → ℕ
limit_for (Limit p) best = p
limit_for Market None = 0
limit_for Market (Some o) = o.price

-- the order of an accepted entry under the number n
abbrev pub listed : ℕ → Entry → Ledger → Order
listed n e l = placed e (limit_for e.price (best_opposite e.issue e.side l.live)) n (l.stamp + 1)

abbrev pub same_term : Term → Term → Bool
same_term Plain Plain = true
same_term Plain All = false
same_term Plain (Least n) = false
same_term All Plain = false
same_term All All = true
same_term All (Least n) = false
same_term (Least m) Plain = false
same_term (Least m) All = false
same_term (Least m) (Least n) = m == n

-- a changed price, term or m gives a new stamp; quantity alone does not
abbrev pub restamps : Option Order → ℕ → Term → Bool
restamps None p t = false
restamps (Some o) p t = not (o.price == p && same_term o.term t)

-- what an accepted call does before its trades; n is the number in its answer
abbrev pub noted : Call → ℕ → Ledger → Ledger
noted (Enter e) n l = record { phase = l.phase; live = l.live ++ (listed n e l ∷ []); number = n; stamp = l.stamp + 1; used = l.used }
noted (Amend k q p t) n l =
    let again : Bool = restamps (find k l.live) p t in
    record { phase = l.phase; live = changed k (amended q p t again (l.stamp + 1)) l.live; number = l.number; stamp = cond again (l.stamp + 1) l.stamp; used = l.used }
noted (Cancel k) n l = with_live (without k l.live) l
noted (Suspend k) n l = with_live (changed k suspended l.live) l
noted (Resume k) n l =
    record { phase = l.phase; live = changed k (resumed (l.stamp + 1)) l.live; number = l.number; stamp = l.stamp + 1; used = l.used }
noted (Deposit a i q) n l = l
noted (Withdraw a i q) n l = l
noted (Reference i p) n l = l
noted Open n l = record { phase = Continuous; live = l.live; number = l.number; stamp = l.stamp; used = l.used }
noted Close n l = record { phase = Closed; live = []; number = l.number; stamp = l.stamp; used = l.used }
