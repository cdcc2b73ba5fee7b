use Rattle.rows.proofs.Scans.{new_meant}
use Rattle.rows.proofs.RowRegister.new.Goals as goal

pub invariant_of-result : goal.invariant_of-result
invariant_of-result c = record { ruled = new_meant c.args.rows.now _ c.are_acceptable-usable.ensures }
