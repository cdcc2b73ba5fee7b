use Rattle.std.proofs.Common.{◌+◌, arith}
use Rattle.orders.specs.Book.{number_of, stamp_of, placed}
use Rattle.book.specs.Table.{book_of}
use Rattle.book.proofs.Counters.{under_is, under_more, under_push}
use Rattle.book.proofs.table.Table.place.Goals as goal

pub invariant_of-self-clause-numbered : goal.invariant_of-self-clause-numbered
invariant_of-self-clause-numbered c =
    let t = c.args.self.now in
    let b = book_of t in
    let n = t.given.number + 1 in
    let o = placed c.args.entry c.args.price n (t.given.stamp + 1) in
    under_is number_of (n + 1) c.add.ensures (under_push number_of (n + 1) b o (under_more number_of n (n + 1) b (omega arith) t.numbered) (omega arith))

pub invariant_of-self-clause-stamped : goal.invariant_of-self-clause-stamped
invariant_of-self-clause-stamped c =
    let t = c.args.self.now in
    let b = book_of t in
    let k = t.given.stamp + 1 in
    let o = placed c.args.entry c.args.price (t.given.number + 1) k in
    under_is stamp_of (k + 1) c.add.ensures (under_push stamp_of (k + 1) b o (under_more stamp_of k (k + 1) b (omega arith) t.stamped) (omega arith))
