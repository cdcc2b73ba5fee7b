use Rattle.std.proofs.Common.{◌≡◌, ◌≤◌, length, drop, vec_items, vec_len, vec_capacity}
use Rattle.rules.specs.Market.{run}
use Rattle.board.specs.Boards.{state_of, lent_by}
use Rattle.market.specs.Calls.{Lasts, lent_calls}
use Rattle.market.proofs.Turns.{so_far}
use Rattle.market.proofs.Market.make_all.Given as goal

-- the answers so far, and then a run of the calls left
abbrev pub invariant-loop-call : goal.invariant-loop-call
invariant-loop-call g l = record {
  whole : so_far (vec_items l.outcomes) (run (state_of l.self.board (g.R.Register.rows l.self.register.now) l.tape) (lent_calls (lent_by l.initial.tape l.initial.strip) (drop l.call-index l.calls)))
      ≡ run (state_of l.initial.self.board (g.R.Register.rows l.initial.self.register.now) l.initial.tape) (lent_calls (lent_by l.initial.tape l.initial.strip) l.calls);
  count : vec_len l.outcomes ≡ l.call-index;
  room : length l.calls ≤ vec_capacity l.outcomes;
  lasts : Lasts g.R.Register.rest l.initial.self l.self l.initial.tape l.tape l.initial.strip l.strip;
}
