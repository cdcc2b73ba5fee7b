-- Tapes, and what lasts from one step of a call to the next. Assumes nothing.
use Rattle.std.proofs.Common.{◌≡◌, ℕ, ◌+◌, ◌-◌, ◌≤◌, min, List, length, take, drop, refl, sym, ap, ◌∙◌, arith}
use Rattle.std.proofs.lemmas.Grind.{common_steps}
use Rattle.std.proofs.lemmas.List.{drop-drop}
use borrow.Rule.Slice.PartMut.{mid_of, put_mid}
use Rattle.register.specs.declared.holding.Row.{Row}
use Rattle.orders.specs.declared.order.Trade.{Trade}
use Rattle.orders.specs.Tape.{recorded}
use Rattle.orders.proofs.Tapes.{drop_recorded, recorded_part}
use Rattle.book.specs.declared.table.Table.{Table}
use Rattle.book.specs.Table.{book_of, Made}
use Rattle.rules.specs.Market.{all_settled}
use Rattle.market.specs.declared.Market.{Market}
use Rattle.market.specs.Calls.{needed, Grown, Lasts, Executed}

-- trades recorded in the free part of the tape leave each record past them as it was
grown_by : (u k v : ℕ) (ts tape part : List Trade) → u + length ts ≤ length tape → k ≡ length ts → v ≡ u + k → part ≡ recorded 0 ts (mid_of u (length tape - u) tape) →
    Grown u tape v (put_mid u (length tape - u) tape part)
grown_by u k v ts tape part room count end e =
    let last : v ≡ u + length ts = omega arith in
    let past = drop_recorded u ts tape room ∙ sym (ap (λ n. drop n tape) last) in
    (omega arith, ap (drop v) (recorded_part u _ ts tape part refl e) ∙ ap (λ n. drop n (recorded u ts tape)) last ∙ past)

dropped : (m n : ℕ) (x y : List Trade) → m ≤ n → drop m x ≡ drop m y → drop n x ≡ drop n y
dropped m n x y h e =
    let d : m + (n - m) ≡ n = omega arith in
    let f : (z : List Trade) → drop n z ≡ drop (n - m) (drop m z) = λ z. ap (λ (k : ℕ). drop k z) (sym d) ∙ sym (drop-drop (n - m) m z) in
    f x ∙ (ap (drop (n - m)) e ∙ sym (f y))

pub grown_more : (u v v' w : ℕ) (a b c : List Trade) → Grown u a v b → v' ≡ v → Grown v' b w c → Grown u a w c
grown_more u v v' w a b c g e h = (omega arith, h.1 ∙ dropped v w b a (omega arith) g.1)

module _ {R S : Type 0} (rest : R → S) (m n : Market R) where
  -- trades are made on the table, recorded in the free part of the tape and settled
  pub executed_by : (rows : R → List Row) (k : ℕ) (ts t part : List Trade) (s s' : List ℕ) (table : Table) → needed m.board ≤ min (length t) 32768 → Made ts k m.board.table table (mid_of m.board.used (length t - m.board.used) t) part → s' ≡ s →
      n.board.table ≡ table → n.board.phase ≡ m.board.phase → n.board.closes ≡ m.board.closes → n.board.used ≡ m.board.used + k →
      rows n.register.now ≡ all_settled (take k (drop m.board.used (put_mid m.board.used (length t - m.board.used) t part))) (rows m.register.now) →
      rest n.register.now ≡ rest m.register.now → n.register.ghost_name ≡ m.register.ghost_name →
      Executed rows rest ts k m n t (put_mid m.board.used (length t - m.board.used) t part) s s'
  executed_by rows k ts t part s s' table room made same tb phase closes used settled register named =
      let count = made.count in
      let few = made.few in
      let e = made.tape in
      let book = made.book in
      let given = made.given in
      let live = ap (λ x. length (book_of x)) tb in
      record {
        state = grind (arith, common_steps);
        count = count;
        used = used;
        fewer = omega arith;
        lasts = record { strip = same; tape = grown_by m.board.used k n.board.used ts t part (omega arith) count used e; register = register; named = named };
      }

  -- one step after another, where what lies between them touches neither the tape nor what lasts of the register
  pub lasts_on : (n' o : Market R) (a b c : List Trade) (x y z : List ℕ) → Lasts rest m n a b x y → n'.board.used ≡ n.board.used → rest n'.register.now ≡ rest n.register.now →
      n'.register.ghost_name ≡ n.register.ghost_name → Lasts rest n' o b c y z → Lasts rest m o a c x z
  lasts_on n' o a b c x y z l used register named h =
      record { strip = h.strip ∙ l.strip; tape = grown_more _ _ _ _ a b c l.tape used h.tape; register = h.register ∙ (register ∙ l.register); named = h.named ∙ (named ∙ l.named) }
