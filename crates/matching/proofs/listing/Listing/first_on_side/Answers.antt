use Rattle.std.proofs.Common.{sym, ◌∙◌}
use Rattle.matching.proofs.Readiness.{side_placed, side_absent}
use Rattle.matching.proofs.listing.Listing.first_on_side.Goals as goal

pub returns-in_err-place : goal.returns-in_err-place
returns-in_err-place c = c.from_residual.ensures ∙ side_absent c.args.self.now.table.now c.args.self.now.issue c.args.side c.args.self.now.rows.now c.args.self.now.lists (sym c.in_err-place.was ∙ c.ready_place.ensures)

pub returns : goal.returns
returns c = c.get.ensures ∙ (side_placed c.args.self.now.table.now c.args.self.now.issue c.args.side c.args.self.now.rows.now c.args.self.now.lists c.in_ok-place.place (sym c.in_ok-place.was ∙ c.ready_place.ensures)).1
