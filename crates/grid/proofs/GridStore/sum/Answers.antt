use Rattle.std.proofs.Common.{rules}
use Rattle.register.proofs.Places.{total_unknown, lawful_ranged}
use Rattle.grid.proofs.GridStore.sum.Goals as goal

pub returns : goal.returns
returns c = search (rules, total_unknown, lawful_ranged)
