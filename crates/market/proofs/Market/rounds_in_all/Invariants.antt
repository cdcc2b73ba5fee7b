use Rattle.std.proofs.Common.{◌≡◌, ◌≤◌}
use Rattle.register.specs.Rules.{issues}
use Rattle.rules.specs.Market.{done, rounds_in}
use Rattle.board.specs.Boards.{state_of}
use Rattle.market.specs.Calls.{needed, Counted, Lasts}
use Rattle.market.proofs.Steps.{answered, issues_from}
use Rattle.market.proofs.Market.rounds_in_all.Given as goal

-- the rounds that are left give the whole
abbrev pub invariant-loop-issue : goal.invariant-loop-issue
invariant-loop-issue g l = record {
  whole : rounds_in (issues_from l.issue) (answered l.outcome, state_of l.self.board (g.R.Register.rows l.self.register.now) l.tape)
      ≡ rounds_in issues (done 0 l.made 0, state_of l.initial.self.board (g.R.Register.rows l.initial.self.register.now) l.initial.tape);
  counted : Counted l.outcome l.self.board;
  fewer : needed l.self.board ≤ needed l.initial.self.board;
  lasts : Lasts g.R.Register.rest l.initial.self l.self l.initial.tape l.tape l.initial.strip l.strip;
}
