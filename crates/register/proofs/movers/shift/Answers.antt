use Rattle.std.proofs.Common.{arith}
use Rattle.register.proofs.Places.{read_at, read_le}
use Rattle.register.proofs.movers.shift.Goals as goal

pub figures-requires : goal.figures-requires
figures-requires g c = omega (arith, read_le (read_at c.args.account c.args.issue _ _ _ _ (g.T.Store.lawfully c.args.t.now) c.find.ensures c.in_ok-k.ensures.ok_part c.figures-free.ensures))
