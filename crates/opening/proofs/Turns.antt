-- The next trade at a price joins the first buy and the first sell by rank, and the others follow on the book that it leaves.
use Rattle.std.proofs.Common.{◌≡◌, ℕ, suc, ◌+◌, min, true, false, List, [], ◌∷◌, length, Some, None, filter, sym, refl, ap, ◌∙◌, arith}
use Rattle.std.proofs.ByRecursion.{kept_by_passes, All-weaker}
use Rattle.std.specs.List.{AllByRecursion as EveryOne}
use Rattle.orders.specs.declared.order.Order.{Order}
use Rattle.orders.specs.declared.order.Side.{Side}
use Rattle.orders.specs.declared.order.Side.TheVariants.{Buy, Sell}
use Rattle.orders.specs.declared.order.Term.TheVariants.{Plain}
use Rattle.orders.specs.Orders.{opposed}
use Rattle.orders.specs.Rank.{first_by, in_rank, ahead}
use Rattle.orders.specs.Search.{In}
use Rattle.orders.specs.Book.{Book, number_of, loosened, lowered, if_left, reduced, after_trade, without}
use Rattle.orders.specs.Laws.{Distinct}
use Rattle.orders.specs.Lists.{in_all, in_kept}
use Rattle.orders.specs.Firsts.{first_tops, first_none}
use Rattle.orders.specs.Ranking.{distinct_kept, one_of, in_turn}
use Rattle.orders.specs.Ranks.{ahead_ranks}
use Rattle.orders.proofs.Trades.{all_reduced}
use Rattle.orders.proofs.Reductions.{kept_own, kept_other, KeepsTerm, onwards}
use Rattle.opening.specs.Opening.{takes_part, taking_part, pairing, paired, trades_at}
use Rattle.opening.proofs.Parts.{part_says, part_side, other_side, part_lowered}
use Rattle.opening.proofs.Pairs.{ends, paired_enough, no_buys, no_sells}

module _ (i p : ℕ) where
  -- the orders of a side that take part, as the book lists them
  abbrev pub in_part : Side → Book → List Order
  in_part s b = filter (takes_part i p s) b

  pub first_part : (s : Side) (b : Book) (w : Order) → first_by ahead (in_part s b) ≡ Some w → In w b × (takes_part i p s w ≡ true)
  first_part s b w e = in_kept (takes_part i p s) b w (first_tops ahead_ranks (in_part s b) w e).0

  -- ---- what a trade of the order of number n does to those that take part
  -- the order of the number n takes part on this side
  abbrev Own : Side → ℕ → Order → Type 0
  Own s n o = o.number ≡ n → (o.term ≡ Plain) × (takes_part i p s o ≡ true)

  own_lowered : (s : Side) (n q : ℕ) (o : Order) → Own s n o → Own s n (lowered q o)
  own_lowered s n q o h e = let k = h e in (ap loosened k.0, part_lowered i p q s o k.0 ∙ k.1)

  -- it is on the other side
  abbrev Other : Side → ℕ → Order → Type 0
  Other s n o = o.number ≡ n → opposed s o.side ≡ true

  owns : (s : Side) (b : Book) → Distinct number_of b → (w : Order) → In w b → takes_part i p s w ≡ true → EveryOne (Own s w.number) b
  owns s b d w m t =
      in_all (Own s w.number) b
      (λ o j e. let same = one_of number_of b d o w j m e in let plain = (part_says i p s w t).plain in (cc, cc))

  others : (s d : Side) (b : Book) → Distinct number_of b → (w : Order) → In w b → w.side ≡ d → opposed s d ≡ true → EveryOne (Other s w.number) b
  others s d b di w m e t =
      in_all (Other s w.number) b (λ o j k. let same = one_of number_of b di o w j m k in cc)

  kept_owned : (s : Side) (n q : ℕ) (b : Book) → EveryOne (Own s n) b → in_part s (reduced n q b) ≡ reduced n q (in_part s b)
  kept_owned s n q b h =
      kept_own (takes_part i p s) n q b
      (All-weaker (Own s n) (λ o. o.number ≡ n → (takes_part i p s o ≡ true) × (takes_part i p s (lowered q o) ≡ true))
      (λ o f e. let k = f e in (k.1, part_lowered i p q s o k.0 ∙ k.1)) b h)

  kept_others : (s : Side) (n q : ℕ) (b : Book) → EveryOne (Other s n) b → in_part s (reduced n q b) ≡ in_part s b
  kept_others s n q b h =
      kept_other (takes_part i p s) n q b
      (All-weaker (Other s n) (λ o. o.number ≡ n → (takes_part i p s o ≡ false) × (takes_part i p s (lowered q o) ≡ false))
      (λ o f e. (other_side i p s o (f e), other_side i p s (lowered q o) (f e))) b h)

  -- ---- one trade
  module _ (b : Book) (di : Distinct number_of b) where
    apart : (s : Side) → Distinct number_of (in_part s b)
    apart s = distinct_kept number_of (takes_part i p s) b di

    terms : (s : Side) → EveryOne KeepsTerm (in_part s b)
    terms s =
        All-weaker (λ o. takes_part i p s o ≡ true) KeepsTerm
        (λ o t. let e = (part_says i p s o t).plain in ap loosened e ∙ sym e) (in_part s b) (kept_by_passes (takes_part i p s) b)

    headed : (s : Side) (w : Order) → first_by ahead (in_part s b) ≡ Some w → taking_part i p s b ≡ w ∷ in_rank ahead (without w.number (in_part s b))
    headed s w e = in_turn ahead_ranks number_of (in_part s b) (apart s) w e

    turned : (s : Side) (q : ℕ) (w : Order) (c : Book) → first_by ahead (in_part s b) ≡ Some w → in_part s c ≡ reduced w.number q (in_part s b) →
        taking_part i p s c ≡ if_left (lowered q w) (in_rank ahead (without w.number (in_part s b)))
    turned s q w c e k = ap (in_rank ahead) k ∙ onwards (in_part s b) (apart s) (terms s) q w e

    pub next : (x y : Order) → first_by ahead (in_part Buy b) ≡ Some x → first_by ahead (in_part Sell b) ≡ Some y →
        trades_at i p b ≡ pairing p x y ∷ trades_at i p (after_trade (pairing p x y) b)
    next x y ex ey =
        let q = min x.left y.left in
        let fx = first_part Buy b x ex in
        let fy = first_part Sell b y ey in
        let c = reduced y.number q b in
        let d = reduced x.number q c in
        let bs = in_rank ahead (without x.number (in_part Buy b)) in
        let ss = in_rank ahead (without y.number (in_part Sell b)) in
        let buys : in_part Buy d ≡ reduced x.number q (in_part Buy b) =
        kept_owned Buy x.number q c (all_reduced (Own Buy x.number) y.number q b (λ o _ h. own_lowered Buy x.number q o h) (owns Buy b di x fx.0 fx.1))
        ∙ ap (reduced x.number q) (kept_others Buy y.number q b (others Buy Sell b di y fy.0 (part_side i p Sell y fy.1) refl)) in
        let sells : in_part Sell d ≡ reduced y.number q (in_part Sell b) =
        kept_others Sell x.number q c (all_reduced (Other Sell x.number) y.number q b (λ o _ h. h) (others Sell Buy b di x fx.0 (part_side i p Buy x fx.1) refl))
        ∙ kept_owned Sell y.number q b (owns Sell b di y fy.0 fy.1) in
        let B = if_left (lowered q x) bs in
        let S = if_left (lowered q y) ss in
        let tb : taking_part i p Buy d ≡ B = turned Buy q x d ex buys in
        let ts : taking_part i p Sell d ≡ S = turned Sell q y d ey sells in
        let e = ends x y bs ss in
        let n = length bs + suc (length ss) in
        let bx = headed Buy x ex in
        let sy = headed Sell y ey in
        let k : length (x ∷ bs) + length (y ∷ ss) ≡ suc n = omega arith in
        let one : paired (suc n) p (x ∷ bs) (y ∷ ss) ≡ pairing p x y ∷ paired n p B S = refl in
        let more = paired_enough p n (length B + length S) B S (omega arith) (omega arith) in
        cc

  -- ---- none where a side has none
  pub no_buy : (b : Book) → first_by ahead (in_part Buy b) ≡ None → trades_at i p b ≡ []
  no_buy b e =
      let z : taking_part i p Buy b ≡ [] = ap (in_rank ahead) (first_none ahead (in_part Buy b) e) in
      rw z (no_buys _ p (taking_part i p Sell b))

  pub no_sell : (b : Book) → first_by ahead (in_part Sell b) ≡ None → trades_at i p b ≡ []
  no_sell b e =
      let z : taking_part i p Sell b ≡ [] = ap (in_rank ahead) (first_none ahead (in_part Sell b) e) in
      rw z (no_sells _ p (taking_part i p Buy b))
