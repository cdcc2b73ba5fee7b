use Rattle.std.proofs.Common.{◌+◌, sym}
use Rattle.orders.specs.Book.{number_of, stamp_of}
use Rattle.book.specs.Places.{book}
use Rattle.book.proofs.Counters.{under_is, under_rest}
use Rattle.book.proofs.table.Table.take_first.Goals as goal

pub invariant_of-self-clause-numbered : goal.invariant_of-self-clause-numbered
invariant_of-self-clause-numbered c =
    let t = c.args.self.now in
    under_rest number_of (t.given.number + 1) c.take_first.result (book c.take_first.new.self.slots) (under_is number_of (t.given.number + 1) (sym c.take_first.ensures.book) t.numbered)

pub invariant_of-self-clause-stamped : goal.invariant_of-self-clause-stamped
invariant_of-self-clause-stamped c =
    let t = c.args.self.now in
    under_rest stamp_of (t.given.stamp + 1) c.take_first.result (book c.take_first.new.self.slots) (under_is stamp_of (t.given.stamp + 1) (sym c.take_first.ensures.book) t.stamped)
