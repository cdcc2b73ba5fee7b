-- The rank of orders is a rank, orders that tie have one stamp, and so rank decides.
use Rattle.std.specs.Prelude.{◌≡◌, ℕ, ◌≤◌, Bool, true, false, nat_lt, refl}
use Rattle.std.proofs.Common.{arith}
use Prim.Native.Nat.{compare}
use Rattle.std.proofs.lemmas.Bool.{true≢false}
use Rattle.std.proofs.lemmas.Bool.Decides.{nat_tests}
use Rattle.std.proofs.lemmas.Grind.{common_steps}
use Rattle.std.proofs.lemmas.List.MinMax.{IsStrictWeakOrder-by_number}
use Rattle.std.specs.Cmp.{IsStrictWeakOrder}
use Rattle.orders.specs.declared.order.Order.{Order}
use Rattle.orders.specs.declared.order.Side.{Side}
use Rattle.orders.specs.declared.order.Side.TheVariants.{Buy, Sell}
use Rattle.orders.specs.Rank.{lex, by_price, class, ahead, earlier}
use Rattle.orders.specs.Search.{In}
use Rattle.orders.specs.Book.{number_of, stamp_of}
use Rattle.orders.specs.Laws.{RankSaid, RankDecides}
use Rattle.orders.specs.Firsts.{same_first}
use Rattle.orders.specs.Ranking.{one_of, same_order, in_turn}

ahead_not : (x y : Order) → ahead x y ≡ true → ahead y x ≡ false
ahead_not x y h = grind (arith, common_steps)

-- by side and price, then by two numbers
abbrev before_by : Side → Side → ℕ → ℕ → ℕ → ℕ → ℕ → ℕ → Bool
before_by d e p a s q b t = lex (by_price d e p q) (lex (compare a b) (nat_lt s t))

before_chain : (d e f : Side) (p a s q b t r c u : ℕ) → before_by d e p a s q b t ≡ false → before_by e f q b t r c u ≡ false → before_by d f p a s r c u ≡ false
before_chain Buy Buy Buy p a s q b t r c u h k = grind (arith, nat_tests)
before_chain Sell Sell Sell p a s q b t r c u h k = grind (arith, nat_tests)
before_chain Buy Buy Sell p a s q b t r c u h k = absurd (true≢false k)
before_chain Buy Sell f p a s q b t r c u h k = absurd (true≢false h)
before_chain Sell Buy Buy p a s q b t r c u h k = refl
before_chain Sell Buy Sell p a s q b t r c u h k = absurd (true≢false k)
before_chain Sell Sell Buy p a s q b t r c u h k = refl

pub ahead_ranks : IsStrictWeakOrder ahead
ahead_ranks = record {
  one_way = ahead_not;
  chain = λ x y z h k. before_chain x.side y.side z.side x.price (class x.term) x.stamp y.price (class y.term) y.stamp z.price (class z.term) z.stamp h k;
}

-- orders that tie by rank have one stamp
abbrev pub Ties : (Order → Order → Bool) → Type 0
Ties before = (x y : Order) → before x y ≡ false → before y x ≡ false → x.stamp ≡ y.stamp

pub ahead_ties : Ties ahead
ahead_ties x y h k = grind (arith, common_steps)

pub earlier_ranks : IsStrictWeakOrder earlier
earlier_ranks = IsStrictWeakOrder-by_number stamp_of

pub earlier_ties : Ties earlier
earlier_ties x y h k = grind (arith, nat_tests)

-- ---- on one side, what does not come before has no better price
lex_no : (p q : ℕ) (t : Bool) → lex (compare p q) t ≡ false → q ≤ p
lex_no p q t e = grind (arith, nat_tests)

pub buy_price : (x w : Order) → x.side ≡ Buy → w.side ≡ Buy → ahead x w ≡ false → x.price ≤ w.price
buy_price x w a b e = lex_no w.price x.price _ (rw (a, b) at e)

pub sell_price : (x w : Order) → x.side ≡ Sell → w.side ≡ Sell → ahead x w ≡ false → w.price ≤ x.price
sell_price x w a b e = lex_no x.price w.price _ (rw (a, b) at e)

-- ---- the rank in words
pub rank_said : RankSaid
rank_said x y e = grind (arith, common_steps)

pub rank_decides : RankDecides
rank_decides xs ys to from nx ny sx =
    let tie : (x y : Order) → In x xs → In y xs → ahead x y ≡ false → ahead y x ≡ false → x ≡ y = λ x y i j h k. one_of stamp_of xs sx x y i j (ahead_ties x y h k) in
    record { same_first = same_first ahead_ranks xs ys to from tie; same_order = same_order ahead_ranks number_of xs ys nx ny to from tie; in_turn = in_turn ahead_ranks number_of xs nx }
