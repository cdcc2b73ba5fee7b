use Rattle.market.proofs.Tapes.{executed_by}
use Rattle.market.proofs.Market.execute_rounds.Goals as goal

pub returns-clause-executed : goal.returns-clause-executed
returns-clause-executed g c =
    let e = c.rounds-made.ensures in
    let s = c.settle_next.ensures in
    executed_by g.R.Register.rest c.args.self.now c.settle_next.new.self g.R.Register.rows c.rounds-made.result.0 _ c.args.tape.now c.rounds-made.new.free _ _ c.rounds-made.new.table
    c.requires.room e.made e.strip s.board.0 s.board.1 s.board.2 s.used s.rows s.register s.named
