use Rattle.std.proofs.Common.{rules}
use Rattle.grid.proofs.Cells.{grid_placed, grid_no_account, grid_no_issue}
use Rattle.grid.proofs.GridStore.find.Goals as goal

pub returns-in_err-offset : goal.returns-in_err-offset
returns-in_err-offset c =
    let no = grid_no_account c.args.self.now.cells c.args.account c.args.issue c.args.self.now.wide c.in_err-offset.ensures in
    search rules

pub returns-in_err-offset-2 : goal.returns-in_err-offset-2
returns-in_err-offset-2 c =
    let no = grid_no_issue c.args.self.now.cells c.args.account c.args.issue c.args.self.now.wide c.in_err-offset-2.ensures in
    search rules

pub returns : goal.returns
returns c = grid_placed _ _ _ _ _ c.args.self.now.wide c.in_ok-offset.ensures c.in_ok-offset-2.ensures
