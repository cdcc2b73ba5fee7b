-- Trade after trade, and issue after issue: what is left to do gives the whole.
use Rattle.std.proofs.Common.{◌≡◌, ℕ, ◌+◌, ◌-◌, ◌≤◌, List, [], ◌∷◌, length, take, drop, sym, refl, ap, ◌∙◌, arith}
use Rattle.std.proofs.lemmas.List.{length-append}
use borrow.Rule.Slice.PartMut.{put_mid}
use Rattle.orders.specs.declared.order.Trade.{Trade}
use Rattle.book.specs.declared.table.Table.{Table}
use Rattle.orders.specs.Book.{Book, after}
use Rattle.orders.specs.Tape.{written, recorded}
use Rattle.orders.proofs.Trades.{after_append, count_trades}
use Rattle.orders.proofs.Tapes.{written_append, written_is, recorded_part}
use Rattle.book.specs.Table.{book_of, Made}
use Rattle.book.proofs.Tables.{sound_table}
use Rattle.opening.specs.Opening.{trades_at, opening_trades, all_trades}
use Rattle.opening.proofs.Fairness.{trades_at_fair, all_fair}

-- the trades ts from place u on do the same to tape and book as all of them did from the start
pub record Rest (u : ℕ) (ts tape : List Trade) (b : Book) (all tape₀ : List Trade) (b₀ : Book) : Type 0 where
  pub count : u + length ts ≡ length all
  pub tapes : written u ts tape ≡ written 0 all tape₀
  pub books : after ts b ≡ after all b₀

-- no more
pub none_left : (i : ℕ) (closes : List ℕ) (b : Book) → length closes ≡ 0 → all_trades i closes b ≡ []
none_left i [] b e = refl
none_left i (close ∷ closes) b e = absurd (omega arith)

-- there are no more trades than orders end
pub few_at : (i p : ℕ) (t : Table) → length (trades_at i p (book_of t)) + length (after (trades_at i p (book_of t)) (book_of t)) ≤ length (book_of t)
few_at i p t = count_trades (trades_at i p (book_of t)) (book_of t) (trades_at_fair i p (book_of t) (sound_table t))

pub few_all : (i : ℕ) (closes : List ℕ) (t : Table) → length (all_trades i closes (book_of t)) + length (after (all_trades i closes (book_of t)) (book_of t)) ≤ length (book_of t)
few_all i closes t = count_trades (all_trades i closes (book_of t)) (book_of t) (all_fair i closes (book_of t) (sound_table t))

-- so where no more is left, all of them are made
pub finish : (u : ℕ) (ts tape : List Trade) (b : Book) (all tape₀ : List Trade) (t₀ t : Table) → ts ≡ [] → book_of t ≡ b → t.given ≡ t₀.given →
    length all + length (after all (book_of t₀)) ≤ length (book_of t₀) → length (book_of t₀) ≤ length tape₀ →
    Rest u ts tape b all tape₀ (book_of t₀) → Made all u t₀ t tape₀ tape
finish u ts tape b all tape₀ t₀ t z e given few room r =
    let n = ap length z in
    let c = r.count in
    let book : book_of t ≡ after all (book_of t₀) = e ∙ sym (ap (λ l. after l b) z) ∙ r.books in
    let l = ap length book in
    record {
      book = book;
      given = given;
      tape = sym (ap (λ l. written u l tape) z) ∙ r.tapes ∙ written_is 0 all tape₀ (omega arith);
      count = omega arith;
      few = omega arith;
    }

-- one issue more
pub one_more : (i close : ℕ) (closes : List ℕ) (u k n : ℕ) (tape part : List Trade) (t t' : Table) (all tape₀ : List Trade) (b₀ : Book) →
    u + length (book_of t) ≤ length tape → k ≡ length tape - u → Made (opening_trades i close (book_of t)) n t t' (take k (drop u tape)) part →
    Rest u (all_trades i (close ∷ closes) (book_of t)) tape (book_of t) all tape₀ b₀ →
    Rest (u + n) (all_trades (i + 1) closes (book_of t')) (put_mid u k tape part) (book_of t') all tape₀ b₀
one_more i close closes u k n tape part t t' all tape₀ b₀ room ek m r =
    let b = book_of t in
    let ts = opening_trades i close b in
    let us = all_trades (i + 1) closes (after ts b) in
    let few = m.few in
    let count = m.count in
    let fits : u + length ts ≤ length tape = omega arith in
    let l = length-append ts us in
    let c = r.count in
    rw (m.count, m.tape, m.book) (record {
      count = omega arith;
      tapes = ap (written (u + length ts) us) (recorded_part u k ts tape (recorded 0 ts (take k (drop u tape))) ek refl ∙ sym (written_is u ts tape fits)) ∙ sym (written_append u ts us tape) ∙ r.tapes;
      books = sym (after_append ts us b) ∙ r.books;
    })
