use Rattle.register.proofs.Places.{read_at, read_balance}
use Rattle.std.proofs.Common.{rules}
use Rattle.register.proofs.movers.AnyRegister.balance.Goals as goal

pub returns : goal.returns
returns g c = search (rules, read_balance, read_at)
