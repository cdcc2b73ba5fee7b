use Rattle.std.proofs.Common.{rules}
use Rattle.orders.specs.Firsts.{first_skip, first_choose}
use Rattle.orders.proofs.ranked.first.Goals as goal
use Rattle.orders.proofs.ranked.first.Goals.{in-Some, in_default}

pub loop-place-preserved : goal.loop-place-preserved
loop-place-preserved g c = λ at says.
    let o = g.met.T.Ranked.ranks in
    let found = says c.loop-place.place c.look.result (search rules) (search rules) in
    let before = c.loop-place.invariant at says in
    elim c.match-look.branch [
      | in-Some w ↦ rw (w.best-is, w.choose.ensures) (first_choose o at c.loop-place.place w.in-Some.x c.loop-place.best (search rules) before)
      | in_default w ↦ rw w.best-is (first_skip o at c.loop-place.place c.loop-place.best (search rules) before)
    ]
