use Rattle.std.proofs.Common.{vec_items, sym, refl, ◌∙◌, arith, rules}
use Rattle.board.specs.Boards.{state_of, lent_by}
use Rattle.market.proofs.Turns.{same_lent, run_more, run_all}
use Rattle.market.proofs.Tapes.{lasts_on}
use Rattle.market.proofs.Market.make_all.Goals as goal

pub loop-call-preserved : goal.loop-call-preserved
loop-call-preserved g c =
    let i = c.loop-call.invariant in
    let p = c.make-outcome.ensures in
    let rows = g.R.Register.rows in
    let s = state_of c.loop-call.self.board (rows c.loop-call.self.register.now) c.loop-call.tape in
    let t = state_of c.make-outcome.new.self.board (rows c.make-outcome.new.self.register.now) c.make-outcome.new.tape in
    let l = same_lent c.loop-call.tape c.args.tape.now c.loop-call.strip c.args.strip.now c.loop-call.auto.tape i.lasts.strip in
    record {
      whole = run_more (vec_items c.loop-call.outcomes) (vec_items c.push_reserved.new.self) c.make-outcome.result _ _ s t c.args.calls.now c.loop-call.call-index (omega arith) c.push_reserved.ensures.items p.does l ∙ i.whole;
      count = search rules;
      room = search rules;
      lasts = lasts_on g.R.Register.rest _ _ _ _ _ _ _ _ _ _ i.lasts refl refl refl p.lasts;
    }

pub returns-clause-does : goal.returns-clause-does
returns-clause-does g c =
    let s = state_of c.loop-call.self.board (g.R.Register.rows c.loop-call.self.register.now) c.loop-call.tape in
    sym (run_all (vec_items c.loop-call.outcomes) (lent_by c.args.tape.now c.args.strip.now) s c.args.calls.now c.loop-call.call-index (omega arith)) ∙ c.loop-call.invariant.whole
