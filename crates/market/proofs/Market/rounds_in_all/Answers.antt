use Rattle.std.proofs.Common.{sym, refl, ap, ◌∙◌, arith}
use Rattle.rules.specs.declared.outcome.Outcome.{Outcome}
use Rattle.rules.specs.Market.{done, rounds_in}
use Rattle.board.specs.Boards.{state_of}
use Rattle.market.proofs.Steps.{answered, issues_from, from_first, from_past, rounds_turn}
use Rattle.market.proofs.Tapes.{lasts_on}
use Rattle.market.proofs.Market.rounds_in_all.Goals as goal

pub loop-issue-init : goal.loop-issue-init
loop-issue-init g c =
    let s = state_of c.args.self.now.board (g.R.Register.rows c.args.self.now.register.now) c.args.tape.now in
    let first = λ (d : Outcome). rounds_in (issues_from 1) (answered (record { number = d.number; trades = c.args.made; rounds = d.rounds }), s) in
    record {
      whole = ap first c.of.ensures ∙ ap (λ is. rounds_in is (done 0 c.args.made 0, s)) from_first;
      counted = (let e = ap (λ (d : Outcome). d.rounds) c.of.ensures in omega arith, omega arith);
      fewer = omega arith;
      lasts = record { strip = refl; tape = (omega arith, refl); register = refl; named = refl };
    }

pub loop-issue-preserved : goal.loop-issue-preserved
loop-issue-preserved g c =
    let i = c.loop-issue.invariant in
    let p = c.by_rounds-outcome.ensures in
    let s = state_of c.loop-issue.self.board (g.R.Register.rows c.loop-issue.self.register.now) c.loop-issue.tape in
    record {
      whole = rounds_turn c.loop-issue.issue c.loop-issue.outcome s _ (omega arith) p.does ∙ i.whole;
      counted = p.after;
      fewer = omega arith;
      lasts = lasts_on g.R.Register.rest _ _ _ _ _ _ _ _ _ _ i.lasts refl refl refl p.lasts;
    }

pub returns-clause-does : goal.returns-clause-does
returns-clause-does g c = sym (from_past c.loop-issue.issue _ (omega arith)) ∙ c.loop-issue.invariant.whole
