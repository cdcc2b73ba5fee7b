-- Calls, one after another. Assumes nothing.
use Rattle.std.proofs.Common.{◌≡◌, ℕ, ◌+◌, ◌<◌, ◌≤◌, List, [], ◌∷◌, ◌++◌, length, get_or, drop, sym, ap, ◌∙◌, append_assoc, append-nil}
use Rattle.std.proofs.lemmas.List.{at_drop_more, at_drop_all}
use Rattle.orders.specs.declared.order.Trade.{Trade}
use Rattle.orders.specs.declared.order.Call.{Call}
use Rattle.orders.specs.declared.order.Call.TheVariants.{Enter}
use Rattle.orders.specs.declared.order.Side.TheVariants.{Buy}
use Rattle.orders.specs.declared.order.Price.TheVariants.{Limit}
use Rattle.orders.specs.declared.order.Term.TheVariants.{Plain}
use Rattle.orders.specs.declared.order.Life.TheVariants.{Day}
use Rattle.rules.specs.declared.lent.Lent.{Lent}
use Rattle.rules.specs.Market.{State, Answer, step, run}
use Rattle.board.specs.Boards.{lent_by}
use Rattle.market.specs.Calls.{lent_calls}

-- for a place that is not read
abbrev pub no_call : Call
no_call = Enter (record { account = 0; issue = 0; side = Buy; quantity = 0; price = Limit 0; term = Plain; life = Day })

pub same_lent : (tape tape' : List Trade) (strip strip' : List ℕ) → length tape ≡ length tape' → strip ≡ strip' → lent_by tape strip ≡ lent_by tape' strip'
same_lent tape tape' strip strip' e f = cc

-- the answers so far, and then a run
abbrev pub so_far : List Answer → List Answer × State → List Answer × State
so_far xs r = (xs ++ r.0, r.1)

run_turn : (xs : List Answer) (s t : State) (lent : Lent) (c : Call) (cs : List (Lent × Call)) (a : Answer) → (a, t) ≡ step lent s c →
    so_far (xs ++ (a ∷ [])) (run t cs) ≡ so_far xs (run s ((lent, c) ∷ cs))
run_turn xs s t lent c cs a e =
    let x : so_far (xs ++ (a ∷ [])) (run t cs) ≡ so_far xs (a ∷ (run t cs).0, (run t cs).1) = ap (λ l. (l, (run t cs).1)) (append_assoc xs (a ∷ []) (run t cs).0) in
    x ∙ ap (λ (y : Answer × State). so_far xs (y.0 ∷ (run y.1 cs).0, (run y.1 cs).1)) e

-- one call more, by what it answered and left
pub run_more : (xs ys : List Answer) (a : Answer) (lent lent' : Lent) (s t : State) (calls : List Call) (i : ℕ) → i < length calls →
    ys ≡ xs ++ (a ∷ []) → (a, t) ≡ step lent' s (get_or calls i no_call) → lent' ≡ lent →
    so_far ys (run t (lent_calls lent (drop (i + 1) calls))) ≡ so_far xs (run s (lent_calls lent (drop i calls)))
run_more xs ys a lent lent' s t calls i h p d l =
    let c : Call = get_or calls i no_call in
    let rest : List (Lent × Call) = lent_calls lent (drop (i + 1) calls) in
    let more = at_drop_more (λ cs. so_far xs (run s (lent_calls lent cs))) calls i no_call h in
    let e : (a, t) ≡ step lent s c = d ∙ ap (λ (z : Lent). step z s c) l in
    ap (λ (x : List Answer). so_far x (run t rest)) p ∙ (run_turn xs s t lent c rest a e ∙ sym more)

-- no call is left
pub run_all : (xs : List Answer) (lent : Lent) (s : State) (calls : List Call) (i : ℕ) → length calls ≤ i → so_far xs (run s (lent_calls lent (drop i calls))) ≡ (xs, s)
run_all xs lent s calls i h = at_drop_all (λ cs. so_far xs (run s (lent_calls lent cs))) calls i h ∙ ap (λ (l : List Answer). (l, s)) (append-nil xs)
