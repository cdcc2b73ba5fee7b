use Rattle.std.proofs.Common.{refl}
use Rattle.market.proofs.Tapes.{executed_by}
use Rattle.market.proofs.Market.execute_opening.Goals as goal

pub returns : goal.returns
returns g c = λ strip.
    let e = c.open_all-made.ensures in
    let s = c.settle_next.ensures in
    executed_by g.R.Register.rest c.args.self.now c.settle_next.new.self g.R.Register.rows c.open_all-made.result _ c.args.tape.now c.open_all-made.new.free strip strip c.open_all-made.new.table
    c.requires e.made refl s.board.0 s.board.1 s.board.2 s.used s.rows s.register s.named
