use Rattle.std.proofs.Common.{sym, refl, ap, ◌∙◌, arith, rules}
use Rattle.orders.specs.declared.order.Call.TheVariants.{Open}
use Rattle.rules.specs.declared.lent.Lent.{Lent}
use Rattle.rules.specs.Market.{step}
use Rattle.board.specs.Boards.{state_of}
use Rattle.market.proofs.Steps.{open_does}
use Rattle.market.proofs.Tapes.{lasts_on}
use Rattle.market.proofs.Market.open.Goals as goal

pub returns-clause-called : goal.returns-clause-called
returns-clause-called g c =
    let s = state_of c.args.self.now.board (g.R.Register.rows c.args.self.now.register.now) c.args.tape.now in
    let k = c.in_ok-check_open.ensures in
    let p = c.execute_opening-made.ensures c.args.strip.now in
    let q = c.rounds_in_all.ensures in
    let f = p.lasts in
    record {
      does = open_does c.lent.result s _ c.execute_opening-made.result _ k.refusal p.state p.count q.does ∙ ap (λ l. step l s Open) c.lent.ensures;
      kept = search rules;
      lasts = lasts_on g.R.Register.rest _ c.execute_opening-made.new.self _ _ _ _ _ _ _ _ (record { strip = refl; tape = f.tape; register = f.register; named = f.named }) refl refl refl q.lasts;
    }

pub rounds_in_all-requires-clause-ready : goal.rounds_in_all-requires-clause-ready
rounds_in_all-requires-clause-ready g c =
    let k = c.in_ok-check_open.ensures in
    let p = c.execute_opening-made.ensures c.args.strip.now in
    let lent = c.lent.ensures in
    record { clean = sym (ap (λ (l : Lent). l.clean) lent) ∙ k.usable.clean; room = (let room = ap (λ (l : Lent). l.room) lent in omega (arith, k.usable.fits, p.fewer)) }

pub rounds_in_all-requires-clause-made : goal.rounds_in_all-requires-clause-made
rounds_in_all-requires-clause-made g c = let used = (c.execute_opening-made.ensures c.args.strip.now).used in omega arith
