use Rattle.std.proofs.Common.{rules}
use Rattle.book.specs.Table.{book_of}
use Rattle.book.proofs.Tables.{table_numbers}
use Rattle.opening.proofs.Turns.{next, no_buy, no_sell}
use Rattle.opening.proofs.level.Level.next_trade.Goals as goal

pub returns-in_err-buy-clause-trades : goal.returns-in_err-buy-clause-trades
returns-in_err-buy-clause-trades c =
    let none = no_buy c.args.self.issue c.args.self.price (book_of c.args.table.now) (search rules) in
    search rules

pub returns-in_err-sell-clause-trades : goal.returns-in_err-sell-clause-trades
returns-in_err-sell-clause-trades c =
    let none = no_sell c.args.self.issue c.args.self.price (book_of c.args.table.now) (search rules) in
    search rules

pub returns-clause-trades : goal.returns-clause-trades
returns-clause-trades c =
    let t = c.args.table.now in
    let e = c.pair.ensures in
    let n = next c.args.self.issue c.args.self.price (book_of t) (table_numbers t) c.in_ok-buy.buy c.in_ok-sell.sell (search rules) (search rules) in
    cc
