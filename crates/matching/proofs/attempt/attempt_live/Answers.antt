use Rattle.std.proofs.Common.{◌≡◌, ◌+◌, ◌≤◌, length, take, drop, refl, ap, ◌∙◌, arith}
use Rattle.std.proofs.lemmas.List.{take_at, length-take-le}
use Rattle.orders.specs.Book.{after}
use Rattle.orders.specs.Tape.{recorded}
use Rattle.orders.proofs.Tapes.{length_written, written_is}
use Rattle.book.specs.Table.{book_of}
use Rattle.matching.specs.Attempt.{attempt}
use Rattle.matching.proofs.Fairness.{attempt_few}
use Rattle.matching.proofs.attempt.attempt_live.Goals as goal

pub slice_bounds-make-end : goal.slice_bounds-make-end
slice_bounds-make-end c =
    let ts = attempt c.args.a.now (book_of c.args.table.now) in
    omega (arith, c.planned-made.ensures.count, ap length c.planned-made.ensures.free, length_written 0 ts c.args.free.now, attempt_few c.args.table.now c.args.a.now c.requires.live, c.requires.room)

pub slice_bounds-make-end-2 : goal.slice_bounds-make-end-2
slice_bounds-make-end-2 c =
    let ts = attempt c.args.a.now (book_of c.args.table.now) in
    let fits : c.planned-made.result ≤ length c.planned-made.new.free =
    omega (arith, c.planned-made.ensures.count, ap length c.planned-made.ensures.free, length_written 0 ts c.args.free.now, attempt_few c.args.table.now c.args.a.now c.requires.live, c.requires.room) in
    omega (arith, length-take-le c.planned-made.result c.planned-made.new.free fits)

pub returns-clause-made : goal.returns-clause-made
returns-clause-made c =
    let b = book_of c.args.table.now in
    let ts = attempt c.args.a.now b in
    let free = c.args.free.now in
    let few = attempt_few c.args.table.now c.args.a.now c.requires.live in
    let room : 0 + length ts ≤ length free = omega (arith, few, c.requires.room) in
    let on_tape : c.planned-made.new.free ≡ recorded 0 ts free = c.planned-made.ensures.free ∙ written_is 0 ts free room in
    let count = c.planned-made.ensures.count in
    let part : take (c.planned-made.result) (recorded 0 ts free) ≡ ts = ap (λ n. take n (recorded 0 ts free)) count ∙ take_at ts (drop (0 + length ts) free) (length ts) refl in
    let books : book_of c.make.new.table ≡ after ts b = c.make.ensures.book ∙ ap (λ l. after (take c.planned-made.result l) b) on_tape ∙ ap (λ l. after l b) part in
    record {
      book = books;
      given = c.make.ensures.given;
      tape = on_tape;
      count = count;
      few = omega (arith, count, ap length books, few);
    }
