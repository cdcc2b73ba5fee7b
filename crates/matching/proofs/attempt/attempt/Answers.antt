use Rattle.std.proofs.Common.{sym, ap, ◌∙◌}
use Rattle.orders.specs.Book.{find}
use Rattle.book.specs.Table.{book_of}
use Rattle.orders.proofs.Changes.{found_number}
use Rattle.matching.proofs.attempt.attempt.Goals as goal

pub attempt_live-requires-clause-live : goal.attempt_live-requires-clause-live
attempt_live-requires-clause-live c =
    let b = book_of c.args.table.now in
    let e = sym c.in-Some.ensures in
    (ap (λ n. find n b) (found_number c.args.number b c.in-Some.a e) ∙ e, c.if-a.true)
