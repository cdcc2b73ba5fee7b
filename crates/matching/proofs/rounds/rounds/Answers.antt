use Rattle.std.proofs.Common.{◌+◌, length, sym, refl, ap, ◌∙◌, arith}
use Rattle.book.specs.Table.{book_of}
use Rattle.book.proofs.Tables.{sound_table}
use Rattle.matching.specs.Attempt.{attempt_of}
use Rattle.matching.proofs.Settling.{stands_start, one_round, stands_turn, stands_end}
use Rattle.orders.proofs.Tapes.{recorded_part}
use Rattle.matching.proofs.rounds.rounds.Goals as goal

pub loop-a-init : goal.loop-a-init
loop-a-init c =
    let t = c.args.table.now in
    (refl, refl, stands_start c.args.issue (book_of t) c.args.free.now (sound_table t) c.requires.room)

pub loop-a-smaller : goal.loop-a-smaller
loop-a-smaller c =
    let one = one_round c.args.issue (book_of c.loop-a.table) c.in-Some.a c.loop-a.invariant.2.sound (sym c.in-Some.ensures.order) in
    omega (arith, one.some, ap length one.same, c.attempt-end.ensures.made.count, c.attempt-end.ensures.made.few)

pub loop-a-preserved : goal.loop-a-preserved
loop-a-preserved c =
    let h = c.loop-a.invariant.2 in
    let done = c.attempt-end.ensures.made in
    let on_tape = recorded_part c.loop-a.end _ (attempt_of c.in-Some.a.number (book_of c.loop-a.table)) c.loop-a.free c.attempt-end.new.free refl done.tape in (
      c.attempt-end.ensures.strip ∙ c.active.ensures.strip ∙ c.loop-a.invariant.0,
      done.given ∙ c.loop-a.invariant.1,
      stands_turn c.args.issue (book_of c.args.table.now) (book_of c.loop-a.table) (book_of c.attempt-end.new.table) c.args.free.now c.loop-a.free _
          c.loop-a.end (c.loop-a.end + c.attempt-end.result) c.loop-a.count c.attempt-end.result c.in-Some.a h (sym c.in-Some.ensures.order)
          on_tape done.count refl done.book,
    )

pub returns : goal.returns
returns c =
    let h = c.loop-a.invariant.2 in
    let e = stands_end c.args.issue (book_of c.args.table.now) (book_of c.loop-a.table) c.args.free.now c.loop-a.free c.loop-a.end c.loop-a.count h
    c.loop-a.auto.free (sym c.active.ensures.order ∙ c.in_default.is) in
    record {
      made = record {
        book = e.books;
        given = c.loop-a.invariant.1;
        tape = e.on_tape;
        count = e.ends;
        few = h.traded;
      };
      rounds = e.counts;
      each = h.each;
      quiet = e.quiet;
      strip = c.active.ensures.strip ∙ c.loop-a.invariant.0;
    }
