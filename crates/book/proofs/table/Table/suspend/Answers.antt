use Rattle.std.proofs.Common.{◌+◌, length, ap, ◌∙◌}
use Rattle.orders.specs.Book.{number_of, stamp_of, suspended}
use Rattle.book.specs.Table.{book_of}
use Rattle.orders.proofs.Changes.{length_changed}
use Rattle.book.proofs.Counters.{under_is, under_changed}
use Rattle.book.proofs.table.Table.suspend.Goals as goal

pub invariant_of-self-clause-numbered : goal.invariant_of-self-clause-numbered
invariant_of-self-clause-numbered c =
    let t = c.args.self.now in
    under_is number_of (t.given.number + 1) c.suspend.ensures (under_changed number_of (t.given.number + 1) c.args.number suspended (book_of t) t.numbered (λ o h. h))

pub invariant_of-self-clause-stamped : goal.invariant_of-self-clause-stamped
invariant_of-self-clause-stamped c =
    let t = c.args.self.now in
    under_is stamp_of (t.given.stamp + 1) c.suspend.ensures (under_changed stamp_of (t.given.stamp + 1) c.args.number suspended (book_of t) t.stamped (λ o h. h))

pub returns-clause-live : goal.returns-clause-live
returns-clause-live c = ap length c.suspend.ensures ∙ length_changed c.args.number suspended (book_of c.args.self.now)
