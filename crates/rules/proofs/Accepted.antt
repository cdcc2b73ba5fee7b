-- An accepted call answers no fault. Assumes nothing.
use Rattle.std.proofs.Common.{◌≡◌, ℕ, List, [], ◌∷◌, Some, None, Ok, Err, Option, sym, refl, ap, ◌∙◌}
use Rattle.register.specs.Rules.{issues}
use Rattle.orders.specs.declared.order.Life.{Life}
use Rattle.orders.specs.declared.order.Call.{Call}
use Rattle.orders.specs.declared.order.Call.TheVariants.{Enter, Amend, Cancel, Suspend, Resume, Deposit, Withdraw, Reference, Open, Close}
use Rattle.rules.specs.declared.outcome.Phase.{Phase}
use Rattle.rules.specs.declared.outcome.Phase.TheVariants.{PreOpen, Continuous, Closed}
use Rattle.rules.specs.declared.outcome.Outcome.{Outcome}
use Rattle.rules.specs.declared.fault.MarketFault.{MarketFault}
use Rattle.rules.specs.Ledger.{Ledger}
use Rattle.rules.specs.Refusals.{refusal}
use Rattle.rules.specs.Market.{State, Answer, tried, finished, rounds_in, followed, accepted, decided}
use Rattle.rules.specs.Laws.{LeftAlone, RefusalsChangeNothing}

abbrev Answered : Answer × State → Type 0
Answered x = (d : Outcome) × (x.0 ≡ Ok d)

tried_answers : (p : Phase) (life : Life) (n i : ℕ) (s : State) → Answered (tried p life n i s)
tried_answers PreOpen life n i s = (_, refl)
tried_answers Continuous life n i s = (_, refl)
tried_answers Closed life n i s = (_, refl)

finished_answers : (p : Phase) (n i : ℕ) (s : State) → Answered (finished p n i s)
finished_answers PreOpen n i s = (_, refl)
finished_answers Continuous n i s = (_, refl)
finished_answers Closed n i s = (_, refl)

rounds_answer : (is : List ℕ) (d : Outcome) (s : State) → Answered (rounds_in is (Ok d, s))
rounds_answer [] d s = (d, refl)
rounds_answer (i ∷ is) d s = rounds_answer is _ _

followed_answers : (l : Ledger) (c : Call) (s : State) → Answered (followed l c s)
followed_answers l (Enter e) s = tried_answers l.phase _ _ _ s
followed_answers l (Amend n q p t) s = tried_answers l.phase _ _ _ s
followed_answers l (Cancel n) s = finished_answers l.phase _ _ s
followed_answers l (Suspend n) s = finished_answers l.phase _ _ s
followed_answers l (Resume n) s = tried_answers l.phase _ _ _ s
followed_answers l (Deposit a i q) s = (_, refl)
followed_answers l (Withdraw a i q) s = (_, refl)
followed_answers l (Reference i p) s = (_, refl)
followed_answers l Open s = rounds_answer issues _ _
followed_answers l Close s = (_, refl)

no_fault : (x : Answer × State) → Answered x → (f : MarketFault) (new : State) → x ≡ (Err f, new) → ⊥
no_fault x a f new e = let k : x.0 ≡ Err f = ap (λ y. y.0) e in let o : x.0 ≡ Ok a.0 = a.1 in cc

pub refusals_change_nothing : RefusalsChangeNothing
refusals_change_nothing lent s c f new e = by (refusal lent s.ledger s.rows c) refl e
  where
    by : (o : Option MarketFault) → refusal lent s.ledger s.rows c ≡ o → decided o s c ≡ (Err f, new) → LeftAlone lent s c f new
    by None k e = absurd (no_fault _ (followed_answers s.ledger c (accepted s c)) f new e)
    by (Some g) k e =
        let fault : Err g ≡ Err f = ap (λ (y : Answer × State). y.0) e in
        let same : g ≡ f = cc in
        record { same = sym (ap (λ (y : Answer × State). y.1) e); first = k ∙ ap Some same }
