use Rattle.std.proofs.Common.{◌≡◌, ◌≤◌, true}
use Rattle.orders.specs.Strip.{clean}
use Rattle.rounds_bench.proofs.times_due.Given as goal

abbrev pub invariant-loop : goal.invariant-loop
invariant-loop l = (clean l.strip ≡ true) × (l.due ≤ l.counter)
