use Rattle.std.proofs.Common.{◌+◌, length, ap, arith}
use Rattle.orders.specs.Book.{number_of, stamp_of}
use Rattle.book.specs.Table.{book_of}
use Rattle.orders.proofs.Changes.{length_without}
use Rattle.book.proofs.Counters.{under_is, under_without}
use Rattle.book.proofs.table.Table.remove.Goals as goal

pub invariant_of-self-clause-numbered : goal.invariant_of-self-clause-numbered
invariant_of-self-clause-numbered c =
    let t = c.args.self.now in
    under_is number_of (t.given.number + 1) c.remove.ensures.book (under_without number_of (t.given.number + 1) c.args.number (book_of t) t.numbered)

pub invariant_of-self-clause-stamped : goal.invariant_of-self-clause-stamped
invariant_of-self-clause-stamped c =
    let t = c.args.self.now in
    under_is stamp_of (t.given.stamp + 1) c.remove.ensures.book (under_without stamp_of (t.given.stamp + 1) c.args.number (book_of t) t.stamped)

pub returns-clause-live : goal.returns-clause-live
returns-clause-live c = omega (arith, ap length c.remove.ensures.book, length_without c.args.number (book_of c.args.self.now))
