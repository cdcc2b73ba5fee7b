-- The steps of a call, one after another. Assumes nothing.
use Rattle.std.proofs.Common.{◌≡◌, ℕ, suc, ◌+◌, ◌-◌, ◌<◌, ◌≤◌, List, ◌∷◌, length, None, Ok, sym, refl, ap, ◌∙◌, arith}
use Rattle.std.specs.List.{range_with_len}
use Rattle.register.specs.Rules.{issues}
use Rattle.orders.specs.declared.order.Trade.{Trade}
use Rattle.orders.specs.declared.order.Call.TheVariants.{Open}
use Rattle.opening.specs.Opening.{all_trades}
use Rattle.rules.specs.declared.outcome.Outcome.{Outcome}
use Rattle.rules.specs.Market.{State, Answer, done, executed, by_rounds, rounds_in, opened, accepted, decided, step}
use Rattle.rules.specs.declared.lent.Lent.{Lent}
use Rattle.rules.specs.Refusals.{refusal}

abbrev pub answered : Outcome → Answer
answered d = Ok d

-- the issues from i up
unfoldable pub issues_from : ℕ → List ℕ
issues_from i = range_with_len i (17 - i)

pub from_first : issues_from 1 ≡ issues
unfolding issues_from issues
from_first = refl

pub from_past : (i : ℕ) (x : Answer × State) → 17 ≤ i → rounds_in (issues_from i) x ≡ x
unfolding issues_from
from_past i x h = let e : 17 - i ≡ 0 = omega arith in ap (λ (k : ℕ). rounds_in (range_with_len i k) x) e

from_more : (i : ℕ) → i < 17 → issues_from i ≡ i ∷ issues_from (i + 1)
unfolding issues_from
from_more i h = let e : 17 - i ≡ suc (17 - (i + 1)) = omega arith in ap (λ (k : ℕ). range_with_len i k) e

pub rounds_turn : (i : ℕ) (d : Outcome) (s : State) (x : Answer × State) → i < 17 → x ≡ by_rounds d.number i d.trades d.rounds s →
    rounds_in (issues_from (i + 1)) x ≡ rounds_in (issues_from i) (answered d, s)
rounds_turn i d s x h e = ap (rounds_in (issues_from (i + 1))) e ∙ sym (ap (λ is. rounds_in is (answered d, s)) (from_more i h))

pub open_does : (lent : Lent) (s s₁ : State) (made : ℕ) (x : Answer × State) → None ≡ refusal lent s.ledger s.rows Open →
    s₁ ≡ executed (all_trades 1 s.closes s.ledger.live) (accepted s Open) → made ≡ length (all_trades 1 s.closes s.ledger.live) →
    x ≡ rounds_in issues (done 0 made 0, s₁) → x ≡ step lent s Open
open_does lent s s₁ made x ok e m r =
    let ts : List Trade = all_trades 1 s.closes s.ledger.live in
    let a : x ≡ opened (accepted s Open) =
    r ∙ (ap (λ (k : ℕ). rounds_in issues (done 0 k 0, s₁)) m ∙ ap (λ (z : State). rounds_in issues (done 0 (length ts) 0, z)) e) in
    a ∙ ap (λ o. decided o s Open) ok
