use Rattle.std.proofs.Common.{◌≡◌}
use Rattle.matching.specs.Listing.{ready_on, first_row}
use Rattle.matching.proofs.listing.Listing.ready_place.Given as goal

abbrev pub invariant-loop-row : goal.invariant-loop-row
invariant-loop-row l =
    let p = ready_on l.self.issue l.side l.self.rows.now in
    first_row p l.rest.rest.now ≡ first_row p l.self.rows.now
