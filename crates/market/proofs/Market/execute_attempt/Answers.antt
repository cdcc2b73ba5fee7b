use Rattle.market.proofs.Tapes.{executed_by}
use Rattle.market.proofs.Market.execute_attempt.Goals as goal

pub returns : goal.returns
returns g c =
    let e = c.attempt-made.ensures in
    let s = c.settle_next.ensures in
    executed_by g.R.Register.rest c.args.self.now c.settle_next.new.self g.R.Register.rows c.attempt-made.result _ c.args.tape.now c.attempt-made.new.free _ _ c.attempt-made.new.table
    c.requires.room e.made e.strip s.board.0 s.board.1 s.board.2 s.used s.rows s.register s.named
