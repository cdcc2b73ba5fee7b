use Rattle.std.proofs.Common.{◌≡◌, false, not, ◌&&◌, is_some, ap, ◌∙◌, rules}
use Rattle.orders.specs.Orders.{breaks_price}
use Rattle.rules.specs.Refusals.{is_market}
use Rattle.book.specs.Table.{book_of}
use Rattle.book.proofs.Tables.{sound_table}
use Rattle.rules.proofs.Limits.{limit_bounded}
use Rattle.board.proofs.Board.check_entry.Goals as goal

pub returns-clause-price : goal.returns-clause-price
returns-clause-price g c =
    let e = c.args.entry in
    let t = c.args.self.now.table in
    let best = c.best_opposite-best.result in
    let found : (is_market e.price && not (is_some best)) ≡ false = search rules in
    λ h. ap breaks_price c.limit_for.ensures ∙ limit_bounded (book_of t) (sound_table t).valid e.issue e.side e.price best c.best_opposite-best.ensures found h
