-- The opening trades in words.
use Rattle.std.proofs.Common.{◌≡◌, ℕ, ◌≤◌, false, [], Some, None, sum_by, Option, sym, refl, ap, ◌∙◌, subst, arith}
use Rattle.orders.specs.declared.order.Order.{Order}
use Rattle.orders.specs.declared.order.Side.{Side}
use Rattle.orders.specs.declared.order.Side.TheVariants.{Buy, Sell}
use Rattle.orders.specs.Rank.{first_by, ahead}
use Rattle.orders.specs.Search.{In}
use Rattle.orders.specs.Book.{Book, stamp_of, after}
use Rattle.orders.specs.Laws.{Sound}
use Rattle.orders.specs.Lists.{in_kept, kept_in}
use Rattle.orders.specs.Firsts.{first_tops, first_none}
use Rattle.orders.specs.Ranking.{one_of}
use Rattle.orders.specs.Ranks.{ahead_ranks, ahead_ties, rank_said}
use Rattle.orders.proofs.Changes.{distinct_ascending}
use Rattle.book.proofs.Tables.{tables_alike}
use Rattle.opening.specs.Opening.{takes_part, matched_at, opening_price, trades_at, trades_if, opening_trades, all_trades}
use Rattle.opening.specs.Laws.{Limit, TakesPart, TradesAddUp, Best, BestFirst, RowsFree}
use Rattle.opening.proofs.Parts.{part_says, says_part}
use Rattle.opening.proofs.Openings.{prices_open}
use Rattle.opening.proofs.Pairs.{trades_sum}
use Rattle.opening.proofs.Turns.{in_part, next, no_buy, no_sell}

-- ---- the trades add up
pub trades_add_up : TradesAddUp
trades_add_up i close b = record { sum = λ p e. sum p e; most = λ l h. most (opening_price i close b) refl l h }
  where
    sum : (p : ℕ) → opening_price i close b ≡ Some p → sum_by (λ t. t.quantity) (opening_trades i close b) ≡ matched_at i b p
    sum p e = ap (λ r. sum_by (λ t. t.quantity) (trades_if i b r)) e ∙ trades_sum i p b

    most : (r : Option ℕ) → opening_price i close b ≡ r → (l : ℕ) → Limit i b l → matched_at i b l ≤ sum_by (λ t. t.quantity) (opening_trades i close b)
    most None e l h = let z = (prices_open i close b).absent e l h in omega arith
    most (Some p) e l h = let z = ((prices_open i close b).present p e).most l h in let s = sum p e in omega arith

-- ---- best first
module _ (i p : ℕ) (b : Book) (h : Sound b) where
  -- the best-ranked in words is the first by rank
  best_first_by : (s : Side) (x : Order) → Best i p s b x → first_by ahead (in_part i p s b) ≡ Some x
  best_first_by s x w = go (first_by ahead (in_part i p s b)) refl
    where
      mine : In x (in_part i p s b)
      mine = kept_in (takes_part i p s) b x w.live (says_part i p s x w.part)

      not_ahead : (y : Order) → In y (in_part i p s b) → ahead y x ≡ false
      not_ahead y m =
          let k = in_kept (takes_part i p s) b y m in
          let t = part_says i p s y k.1 in
          let first = w.first y k.0 t in
          let said = (rank_said y x (t.side ∙ sym w.part.side)).0 in
          grind arith

      go : (r : Option Order) → first_by ahead (in_part i p s b) ≡ r → first_by ahead (in_part i p s b) ≡ Some x
      go None e = absurd (subst (In x) (first_none ahead (in_part i p s b) e) mine)
      go (Some y) e =
          let t = first_tops ahead_ranks (in_part i p s b) y e in
          e ∙ ap Some (one_of stamp_of b h.stamps y x (in_kept (takes_part i p s) b y t.0).0 w.live (ahead_ties y x (not_ahead y t.0) (t.1 x mine)))

  none_first : (s : Side) → ((o : Order) → In o b → TakesPart i p s o → ⊥) → first_by ahead (in_part i p s b) ≡ None
  none_first s n = go (first_by ahead (in_part i p s b)) refl
    where
      go : (r : Option Order) → first_by ahead (in_part i p s b) ≡ r → r ≡ None
      go None e = refl
      go (Some y) e = let k = in_kept (takes_part i p s) b y (first_tops ahead_ranks (in_part i p s b) y e).0 in absurd (n y k.0 (part_says i p s y k.1))

  none_at : (s : Side) → ((o : Order) → In o b → TakesPart i p s o → ⊥) → trades_at i p b ≡ []
  none_at Buy n = no_buy i p b (none_first Buy n)
  none_at Sell n = no_sell i p b (none_first Sell n)

pub best_first : BestFirst
best_first i close b h = record {
  priced = λ p e. (
    ap (trades_if i b) e,
    record {
      next = λ x y bx by. next i p b (distinct_ascending b h.ascending) x y (best_first_by i p b h Buy x bx) (best_first_by i p b h Sell y by);
      none = none_at i p b h;
    },
  );
  unpriced = λ e. ap (trades_if i b) e;
}

-- ---- the row decides nothing
pub rows_free : RowsFree
rows_free t u to from =
    let e = tables_alike t u to from in
    record {
      price = λ i close. ap (opening_price i close) e;
      trades = λ i close. ap (opening_trades i close) e;
      orders = λ i close. ap (λ b. after (opening_trades i close b) b) e;
      all_issues = λ i closes. ap (all_trades i closes) e;
      all_orders = λ i closes. ap (λ b. after (all_trades i closes b) b) e;
    }
