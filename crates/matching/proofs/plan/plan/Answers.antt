use Rattle.std.proofs.Common.{◌-◌, length, set, None, sym, ap, ◌∙◌, arith, length-set}
use Rattle.orders.specs.Book.{without}
use Rattle.orders.specs.Tape.{written}
use Rattle.matching.specs.Walk.{faces, walk}
use Rattle.matching.specs.Attempt.{trades_of}
use Rattle.matching.specs.Listing.{facing, meets}
use Rattle.matching.proofs.Walking.{giving_shorter, least_made}
use Rattle.matching.proofs.Listings.{few_facing, one_out}
use Rattle.matching.proofs.plan.plan.Goals as goal

pub walk_on-requires-in-Plain : goal.walk_on-requires-in-Plain
walk_on-requires-in-Plain c = omega (arith, few_facing (meets None c.args.a.now) c.args.rows.now, c.requires)

pub bounds-free-0 : goal.bounds-free-0
bounds-free-0 c =
    let a = c.args.a.now in
    let rows = c.args.rows.now in
    omega (arith, giving_shorter c.in-Least.m a.left (facing a rows) c.in-Some.o (sym c.in-Some.ensures), few_facing (faces a) rows, c.requires)

pub walk_on-requires : goal.walk_on-requires
walk_on-requires c =
    let a = c.args.a.now in
    let rows = c.args.rows.now in
    omega (arith, giving_shorter c.in-Least.m a.left (facing a rows) c.in-Some.o (sym c.in-Some.ensures), few_facing (faces a) rows, ap length (one_out c.in-Some.o.number a rows), c.requires, length-set c.args.free.now 0 c.trade.result)

pub returns-in-Some : goal.returns-in-Some
returns-in-Some c =
    let a = c.args.a.now in
    let rows = c.args.rows.now in
    let o = c.in-Some.o in
    let q = c.offer-q.result in
    let tape = c.args.free.now in
    let made = least_made a (facing a rows) c.in-Least.m q o c.in-Least.is c.in-Some.ensures c.offer-q.ensures.is in
    let out = ap (λ l. trades_of a (walk (a.left - q) l)) (one_out o.number a rows) in
    let rest = trades_of a (walk (a.left - q) (without o.number (facing a rows))) in
    record {
      free = c.walk_on.ensures.free
          ∙ ap (λ ts. written 1 ts (set tape 0 c.trade.result)) out
          ∙ ap (λ t. written 1 rest (set tape 0 t)) c.trade.ensures
          ∙ sym (ap (λ ps. written 0 (trades_of a ps) tape) made);
      count = omega (arith, c.walk_on.ensures.end, ap length out, ap (λ ps. length (trades_of a ps)) made);
    }
