-- Which order a round makes active, in words.
use Rattle.std.proofs.Common.{◌≡◌, ℕ, ◌≤◌, true, false, not, ◌&&◌, eqb, ◌⊎◌, List, [], Some, None, filter, Option, sym, refl, ◌∙◌, subst, inl, inr, arith}
use Rattle.std.specs.Option.{option_or}
use Rattle.std.proofs.lemmas.Bool.Decides.{nat_tests}
use Rattle.std.proofs.lemmas.Bool.{and_parts, eqb-true, ltb-false}
use Rattle.orders.specs.declared.order.Order.{Order}
use Rattle.orders.specs.declared.order.Trade.{Trade}
use Rattle.orders.specs.declared.order.Side.{Side}
use Rattle.orders.specs.declared.order.Side.TheVariants.{Buy, Sell}
use Rattle.orders.specs.declared.order.Term.TheVariants.{Plain}
use Rattle.orders.specs.Orders.{opposed, special}
use Rattle.orders.specs.Rank.{first_by, ahead, earlier}
use Rattle.orders.specs.Search.{In}
use Rattle.orders.specs.Book.{Book}
use Rattle.orders.specs.Laws.{Ahead}
use Rattle.orders.specs.Lists.{none_some, in_kept, kept_in}
use Rattle.orders.specs.Firsts.{first_none, first_tops}
use Rattle.orders.specs.Ranks.{ahead_ranks, earlier_ranks, rank_said}
use Rattle.matching.specs.Attempt.{attempt}
use Rattle.matching.specs.Rounds.{best_plain, crossing, any_trade, special_in, ready, on_side, by_sides, first_ready}
use Rattle.matching.specs.Laws.{ReadyOrder, BestOrder, Crossed, ActiveSaid, other}
use Rattle.matching.proofs.Settling.{same_side, plain_test, not_plain, none_in, no_cross, any_none, best_says, active_acts}

-- a rank that does not put x before y leaves x not ahead of y
not_ahead : (x y : Order) → x.side ≡ y.side → ahead x y ≡ false → Ahead x y → ⊥
not_ahead x y s f a = grind (arith, rank_said)

best_order : (i : ℕ) (s : Side) (b : Book) (w : Order) → best_plain i s b ≡ Some w → BestOrder i s b w
best_order i s b w e =
    let h = best_says i s b w e in
    let p = h.plain in
    record {
      live = h.live;
      plain = record { issue = p.issue; side = p.side; working = p.working; plain = p.plain };
      first = λ x j q. not_ahead x w (q.side ∙ sym p.side) (h.top x j (plain_test i s x q));
    }

-- ---- the best plain orders cross
crossed : (i : ℕ) (b : Book) (x y : Option Order) → best_plain i Buy b ≡ x → best_plain i Sell b ≡ y → (a : Order) → crossing x y ≡ Some a → Crossed i b a
crossed i b None y ex ey a e = none_some a e
crossed i b (Some x) None ex ey a e = none_some a e
crossed i b (Some x) (Some y) ex ey a e =
    record {
      buy = x;
      sell = y;
      best_buy = best_order i Buy b x ex;
      best_sell = best_order i Sell b y ey;
      meet = grind (arith, nat_tests);
      later = grind (arith, nat_tests);
    }

-- ---- ready orders by the test and in words
some_trade : (ts : List Trade) → any_trade ts ≡ true → ts ≡ [] → ⊥
some_trade ts t e = grind arith

special_not_plain : (o : Order) → special o.term ≡ true → o.term ≡ Plain → ⊥
special_not_plain o t e = grind arith

module _ (i : ℕ) (b : Book) where
  says : (o : Order) → In o (filter (ready i b) b) → (s : Side) → o.side ≡ s → ReadyOrder i s b o
  says o j s e =
      let k = in_kept (ready i b) b o j in
      let p = and_parts (special_in i o) (any_trade (attempt o b)) k.1 in
      let q = and_parts (eqb o.issue i) (special o.term && o.working) p.0 in
      let r = and_parts (special o.term) o.working q.1 in
      record { live = k.0; issue = eqb-true _ _ q.0; side = e; working = r.1; special = special_not_plain o r.0; trades = some_trade (attempt o b) p.1 }

  told : (s : Side) (o : Order) → ReadyOrder i s b o → In o (filter (ready i b) b)
  told s o h = kept_in (ready i b) b o h.live (grind (arith, nat_tests, not_plain, any_none))

  told_on : (s : Side) (o : Order) → ReadyOrder i s b o → In o (filter (on_side s) (filter (ready i b) b))
  told_on s o h = kept_in (on_side s) (filter (ready i b) b) o (told s o h) (subst (λ x. not (opposed s x) ≡ true) (sym h.side) (same_side s))

  -- the side of an order that passes the test of a side
  side_of : (s : Side) (o : Order) → on_side s o ≡ true → o.side ≡ s
  side_of s o e = grind arith

  -- what is to be said of the ready order that is active
  abbrev Called : Order → Type 0
  Called a =
      ReadyOrder i a.side b a
      × (((o : Order) → ReadyOrder i (other a.side) b o → ⊥) → (o : Order) → ReadyOrder i a.side b o → Ahead o a → ⊥)
      × ((o : Order) → ReadyOrder i (other a.side) b o → (s : Side) (x : Order) → ReadyOrder i s b x → a.stamp ≤ x.stamp)

  -- one side alone has ready orders
  one_sided : (s : Side) (a : Order) → first_by ahead (filter (on_side s) (filter (ready i b) b)) ≡ Some a → first_by ahead (filter (on_side (other s)) (filter (ready i b) b)) ≡ None → Called a
  one_sided s a e none =
      let rs = filter (ready i b) b in
      let t = first_tops ahead_ranks (filter (on_side s) rs) a e in
      let k = in_kept (on_side s) rs a t.0 in
      let d = side_of s a k.1 in (
        says a k.0 a.side refl,
        λ _ o h. not_ahead o a h.side (t.1 o (told_on s o (subst (λ z. ReadyOrder i z b o) d h))),
        λ o h. absurd (none_in o (filter (on_side (other s)) rs) (first_none ahead (filter (on_side (other s)) rs) none) (told_on (other s) o (subst (λ z. ReadyOrder i (other z) b o) d h))),
      )

  -- both sides have ready orders
  two_sided : (x y a : Order) → first_by ahead (filter (on_side Buy) (filter (ready i b) b)) ≡ Some x → first_by ahead (filter (on_side Sell) (filter (ready i b) b)) ≡ Some y → first_by earlier (filter (ready i b) b) ≡ Some a → Called a
  two_sided x y a ex ey e =
      let rs = filter (ready i b) b in
      let t = first_tops earlier_ranks rs a e in
      let on = λ (s : Side) (w : Order) (f : first_by ahead (filter (on_side s) rs) ≡ Some w). in_kept (on_side s) rs w (first_tops ahead_ranks (filter (on_side s) rs) w f).0 in
      let opposite : (s : Side) → ((o : Order) → ReadyOrder i (other s) b o → ⊥) → ⊥ = λ s. elim s as (λ z. ((o : Order) → ReadyOrder i (other z) b o → ⊥) → ⊥) [
        | Buy ↦ λ none. none y (says y (on Sell y ey).0 Sell (side_of Sell y (on Sell y ey).1))
        | Sell ↦ λ none. none x (says x (on Buy x ex).0 Buy (side_of Buy x (on Buy x ex).1))
      ] in (
        says a t.0 a.side refl,
        λ none o h. absurd (opposite a.side none),
        λ o h s z r. ltb-false z.stamp a.stamp (t.1 z (told s z r)),
      )

  by_side : (x y : Option Order) → first_by ahead (filter (on_side Buy) (filter (ready i b) b)) ≡ x → first_by ahead (filter (on_side Sell) (filter (ready i b) b)) ≡ y → (a : Order) → by_sides x y (first_by earlier (filter (ready i b) b)) ≡ Some a → Called a
  by_side None y ex ey a e = one_sided Sell a (ey ∙ e) ex
  by_side (Some x) None ex ey a e = one_sided Buy a (ex ∙ e) ey
  by_side (Some x) (Some y) ex ey a e = two_sided x y a ex ey e

-- ---- the law
no_crossing : (i : ℕ) (b : Book) (a : Order) → option_or (crossing (best_plain i Buy b) (best_plain i Sell b)) (first_ready (filter (ready i b) b)) ≡ Some a → Crossed i b a ⊎ ((crossing (best_plain i Buy b) (best_plain i Sell b) ≡ None) × (first_ready (filter (ready i b) b) ≡ Some a))
no_crossing i b a e = by (crossing (best_plain i Buy b) (best_plain i Sell b)) refl e
  where
    by : (c : Option Order) → crossing (best_plain i Buy b) (best_plain i Sell b) ≡ c → option_or c (first_ready (filter (ready i b) b)) ≡ Some a → Crossed i b a ⊎ ((crossing (best_plain i Buy b) (best_plain i Sell b) ≡ None) × (first_ready (filter (ready i b) b) ≡ Some a))
    by None k e = inr (k, e)
    by (Some x) k e = inl (crossed i b _ _ refl refl a (k ∙ e))

pub active_said : ActiveSaid
active_said i b s a e = record {
  who = elim (no_crossing i b a e) [
    | inl c ↦ inl c
    | inr p ↦ let r = by_side i b _ _ refl refl a p.1 in inr (record { apart = no_cross i b _ _ refl refl p.0; is_ready = r.0; one_side = r.1; both_sides = r.2 })
  ];
  trades = some_trade (attempt a b) (active_acts i b s a e).trades;
}
