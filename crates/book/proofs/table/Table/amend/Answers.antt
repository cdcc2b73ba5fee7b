use Rattle.std.proofs.Common.{◌≡◌, ◌+◌, cond, is_some, unwrap_or, length, ap, ◌∙◌, arith}
use Rattle.orders.specs.Book.{number_of, stamp_of, changed, amended}
use Rattle.book.specs.Places.{book}
use Rattle.book.specs.Table.{book_of}
use Rattle.orders.proofs.Changes.{length_changed}
use Rattle.book.proofs.Counters.{under_is, under_changed, under_amended, fresh_under, fresh_amends, fresh_stamp, next_stamp}
use Rattle.book.proofs.table.Table.amend.Goals as goal

pub amend-requires-clause-stamp : goal.amend-requires-clause-stamp
amend-requires-clause-stamp c = rw c.then_some-fresh.ensures (fresh_under c.args.self.now.given.stamp c.args.again (book_of c.args.self.now) c.args.self.now.stamped)

pub invariant_of-self : goal.invariant_of-self
invariant_of-self c =
    let a = c.args in
    let t = a.self.now in
    let s = t.given.stamp in
    let b = book_of t in
    let stamp : c.unwrap_or-self.result ≡ cond a.again (s + 1) s = c.unwrap_or-self.ensures ∙ ap (λ r. unwrap_or r s) c.then_some-fresh.ensures ∙ fresh_stamp s (s + 1) a.again in
    let is : book c.amend.new.self.slots ≡ changed a.number (amended a.quantity a.price a.term a.again (s + 1)) b =
    c.amend.ensures ∙ ap (λ r. changed a.number (amended a.quantity a.price a.term (is_some r) (unwrap_or r 0)) b) c.then_some-fresh.ensures
    ∙ ap (λ f. changed a.number f b) (fresh_amends s a.quantity a.price a.term a.again) in
    let next = next_stamp s c.unwrap_or-self.result a.again stamp c.requires.stamp t.stamps in
    record {
      numbers = omega (arith, t.numbers, next.0);
      stamps = next.1;
      numbered = under_is number_of (t.given.number + 1) is (under_changed number_of (t.given.number + 1) a.number (amended a.quantity a.price a.term a.again (s + 1)) b t.numbered (λ o h. h));
      stamped = under_is stamp_of (c.unwrap_or-self.result + 1) is (rw stamp (under_amended s a.number a.quantity a.price a.term a.again b t.stamped));
    }

pub returns-clause-live : goal.returns-clause-live
returns-clause-live c = ap length c.amend.ensures ∙ length_changed c.args.number _ (book_of c.args.self.now)
