use Rattle.std.proofs.Common.{◌≡◌, ◌+◌, ◌≤◌, length, drop, filter}
use Rattle.std.proofs.lemmas.Iterator.{YieldsList}
use Rattle.orders.specs.Tape.{written}
use Rattle.matching.specs.Attempt.{trades_of}
use Rattle.matching.specs.Walk.{walk}
use Rattle.matching.specs.Listing.{orders_in, meets}
use Rattle.matching.proofs.plan.walk_on.Given as goal

abbrev pub invariant-loop-o : goal.invariant-loop-o
invariant-loop-o l =
    let all = filter (meets l.fn.skip l.a) (orders_in l.rows) in
    let rest = drop (length l.yielded) all in
    YieldsList (goal.iterator-loop-o).next_gives (λ o. o) l.initial.o-iterator all
    × (l.end + length rest ≤ length l.free)
    × (written l.end (trades_of l.a (walk l.left rest)) l.free ≡ written l.fn.from (trades_of l.a (walk l.wanted all)) l.initial.free)
    × (l.end + length (trades_of l.a (walk l.left rest)) ≡ l.fn.from + length (trades_of l.a (walk l.wanted all)))
