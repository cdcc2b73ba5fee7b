use Rattle.std.proofs.Common.{rules, subst, sym, ◌≤◌, ◌≡◌}
use Rattle.book.specs.Table.{at_place}
use Rattle.opening.specs.Opening.{share}
use Rattle.opening.proofs.Sums.{share_small}
use Rattle.opening.proofs.level.Level.share.Goals as goal

pub returns-clause-small : goal.returns-clause-small
returns-clause-small c =
    let is : c.map_or.result ≡ share c.args.self.issue c.args.self.price c.args.side (at_place c.args.table.now c.args.place) = search rules in
    subst (λ n. n ≤ 100000000) (sym is) (share_small c.args.self.issue c.args.self.price c.args.side c.args.table.now c.args.place)
