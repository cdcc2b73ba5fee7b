use Rattle.std.proofs.Common.{◌≡◌, ◌≤◌, take}
use Rattle.register.specs.Rules.{total_of, limit}
use Rattle.rows.proofs.scan.total_within.Given as goal

abbrev pub invariant-loop-r : goal.invariant-loop-r
invariant-loop-r l = (l.sum ≡ total_of l.issue (take l.r-index l.rows)) × (l.sum ≤ limit)
