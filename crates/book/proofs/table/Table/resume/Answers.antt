use Rattle.std.proofs.Common.{◌+◌, length, ap, ◌∙◌, arith}
use Rattle.orders.specs.Book.{number_of, stamp_of, resumed}
use Rattle.book.specs.Table.{book_of}
use Rattle.orders.proofs.Changes.{length_changed}
use Rattle.book.proofs.Counters.{under_is, under_more, under_changed}
use Rattle.book.proofs.table.Table.resume.Goals as goal

pub invariant_of-self-clause-numbered : goal.invariant_of-self-clause-numbered
invariant_of-self-clause-numbered c =
    let t = c.args.self.now in
    under_is number_of (t.given.number + 1) c.resume.ensures (under_changed number_of (t.given.number + 1) c.args.number (resumed (t.given.stamp + 1)) (book_of t) t.numbered (λ o h. h))

pub invariant_of-self-clause-stamped : goal.invariant_of-self-clause-stamped
invariant_of-self-clause-stamped c =
    let t = c.args.self.now in
    let b = book_of t in
    let k = t.given.stamp + 1 in
    under_is stamp_of (k + 1) c.resume.ensures (under_changed stamp_of (k + 1) c.args.number (resumed k) b (under_more stamp_of k (k + 1) b (omega arith) t.stamped) (λ o h. omega arith))

pub returns-clause-live : goal.returns-clause-live
returns-clause-live c =
    let t = c.args.self.now in
    ap length c.resume.ensures ∙ length_changed c.args.number (resumed (t.given.stamp + 1)) (book_of t)
