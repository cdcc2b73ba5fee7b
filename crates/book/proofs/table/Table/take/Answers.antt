use Rattle.std.proofs.Common.{◌+◌, length, refl, ap, arith}
use Rattle.orders.specs.Book.{number_of, stamp_of}
use Rattle.book.specs.Table.{book_of}
use Rattle.orders.proofs.Trades.{length_reduced}
use Rattle.book.proofs.Counters.{under_is, under_reduced}
use Rattle.book.proofs.table.Table.take.Goals as goal

pub invariant_of-self-clause-numbered : goal.invariant_of-self-clause-numbered
invariant_of-self-clause-numbered c =
    let t = c.args.self.now in
    under_is number_of (t.given.number + 1) c.take.ensures (under_reduced number_of (t.given.number + 1) c.args.number c.args.q (book_of t) (λ o. refl) t.numbered)

pub invariant_of-self-clause-stamped : goal.invariant_of-self-clause-stamped
invariant_of-self-clause-stamped c =
    let t = c.args.self.now in
    under_is stamp_of (t.given.stamp + 1) c.take.ensures (under_reduced stamp_of (t.given.stamp + 1) c.args.number c.args.q (book_of t) (λ o. refl) t.stamped)

pub returns-clause-live : goal.returns-clause-live
returns-clause-live c = omega (arith, ap length c.take.ensures, length_reduced c.args.number c.args.q (book_of c.args.self.now))
