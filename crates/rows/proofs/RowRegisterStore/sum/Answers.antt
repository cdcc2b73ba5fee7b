use Rattle.rows.proofs.Scans.{sum_is}
use Rattle.rows.proofs.RowRegisterStore.sum.Goals as goal

pub returns : goal.returns
returns c = sum_is _ c.args.issue _ _ c.args.self.now.ruled (rw c.open_rows.ensures at c.total_within.ensures) c.unwrap_or.ensures
