-- Trades and the orders that they do not touch; an order that is dropped from a book. Assumes nothing.
use Rattle.std.proofs.Common.{◌≡◌, ℕ, ◌≤◌, true, false, eqb, List, [], ◌∷◌, Some, None, Option, sym, refl, ap, ◌∙◌, subst, inl, inr, arith}
use Rattle.std.proofs.lemmas.Bool.{cases_Bool, cases_eq, eqb-true, eqb-false, or_cases, or_parts, cond-false}
use Rattle.std.proofs.lemmas.Bool.Decides.{nat_tests}
use Rattle.orders.specs.declared.order.Order.{Order}
use Rattle.orders.specs.declared.order.Trade.{Trade}
use Rattle.orders.specs.declared.order.Term.TheVariants.{Least}
use Rattle.orders.specs.Book.{Book, find, lowered, if_left, reduced, without, after_trade, after}
use Rattle.orders.specs.Laws.{Fair, AllFair}
use Rattle.orders.specs.Lists.{none_some, some_none, cond_either}
use Rattle.orders.proofs.Trades.{find_other}
use Rattle.matching.specs.Laws.{is_of, dropped}
use Rattle.matching.proofs.Wholes.{Whole}
use Rattle.runs.specs.Promise.{first_of}

-- ---- an order that no trade touches stays
find_past : (n : ℕ) (t : Trade) (b : Book) → is_of n t ≡ false → find n (after_trade t b) ≡ find n b
find_past n t b f =
    let p = or_parts (eqb t.buy n) (eqb t.sell n) f in
    find_other n t.buy t.quantity (reduced t.sell t.quantity b) (λ s. eqb-false t.buy n p.0 (sym s))
    ∙ find_other n t.sell t.quantity b (λ s. eqb-false t.sell n p.1 (sym s))

pub untouched : (n : ℕ) (ts : List Trade) (b : Book) → first_of n ts ≡ None → find n (after ts b) ≡ find n b
untouched n [] b e = refl
untouched n (t ∷ ts) b e =
    cond_either (is_of n t) (Some t) (first_of n ts) (λ r. r ≡ None) e
    (λ _ k. some_none t k)
    (λ f k. untouched n ts (after_trade t b) k ∙ find_past n t b f)

-- a trade touches live orders alone
pub never_touched : (n : ℕ) (ts : List Trade) (b : Book) → AllFair ts b → find n b ≡ None → first_of n ts ≡ None
never_touched n [] b h e = refl
never_touched n (t ∷ ts) b h e =
    elim (cases_Bool (is_of n t)) [
      | inl y ↦ elim (or_cases (eqb t.buy n) (eqb t.sell n) y) [
        | inl x ↦ some_none h.0.buy (sym h.0.buy_live ∙ ap (λ j. find j b) (eqb-true _ _ x) ∙ e)
        | inr x ↦ some_none h.0.sell (sym h.0.sell_live ∙ ap (λ j. find j b) (eqb-true _ _ x) ∙ e)
      ]
      | inr f ↦ cond-false (is_of n t) (Some t) (first_of n ts) f ∙ never_touched n ts (after_trade t b) h.1 (find_past n t b f ∙ e)
    ]

-- the first trade of a least m order is at least m
least_here : (n m : ℕ) (o : Order) (t : Trade) (b : Book) → Fair t b → find n b ≡ Some o → o.term ≡ Least m → is_of n t ≡ true → m ≤ t.quantity
least_here n m o t b f e l y = elim (or_cases (eqb t.buy n) (eqb t.sell n) y) [
  | inl x ↦ let same : f.buy ≡ o = (let k : find n b ≡ Some f.buy = ap (λ j. find j b) (sym (eqb-true _ _ x)) ∙ f.buy_live in cc) in f.buy_least m (ap (λ (z : Order). z.term) same ∙ l)
  | inr x ↦ let same : f.sell ≡ o = (let k : find n b ≡ Some f.sell = ap (λ j. find j b) (sym (eqb-true _ _ x)) ∙ f.sell_live in cc) in f.sell_least m (ap (λ (z : Order). z.term) same ∙ l)
]

pub least_kept : (ts : List Trade) (b : Book) → AllFair ts b → (n m : ℕ) (o : Order) (t : Trade) → find n b ≡ Some o → o.term ≡ Least m → first_of n ts ≡ Some t → m ≤ t.quantity
least_kept [] b h n m o t e l k = none_some t k
least_kept (u ∷ ts) b h n m o t e l k =
    cond_either (is_of n u) (Some u) (first_of n ts) (λ r. r ≡ Some t) k
    (λ y k2. let same : u ≡ t = cc in subst (λ v. m ≤ v.quantity) same (least_here n m o u b h.0 e l y))
    (λ f k2. least_kept ts (after_trade u b) h.1 n m o t (find_past n u b f ∙ e) l k2)

-- ---- a dropped order: trades between the others go on as if it stood there still
pub find_without_other : (m n : ℕ) (b : Book) → (m ≡ n → ⊥) → find m (without n b) ≡ find m b
find_without_other m n [] ne = refl
find_without_other m n (x ∷ os) ne = let ih = find_without_other m n os ne in grind (arith, nat_tests)

pub find_without_itself : (n : ℕ) (b : Book) → find n (without n b) ≡ None
find_without_itself n [] = refl
find_without_itself n (x ∷ os) = let ih = find_without_itself n os in grind (arith, nat_tests)

find_without : (m n : ℕ) (b : Book) (o : Order) → find m (without n b) ≡ Some o → find m b ≡ Some o
find_without m n b o e = elim (cases_eq m n) [
  | inl same ↦ none_some o (sym (subst (λ k. find k (without n b) ≡ None) (sym same) (find_without_itself n b)) ∙ e)
  | inr ne ↦ sym (find_without_other m n b ne) ∙ e
]

without_if_left : (n : ℕ) (o : Order) (os : Book) → (o.number ≡ n → ⊥) → without n (if_left o os) ≡ if_left o (without n os)
without_if_left n o os ne = grind (arith, nat_tests)

without_reduced : (n m q : ℕ) (b : Book) → (m ≡ n → ⊥) → reduced m q (without n b) ≡ without n (reduced m q b)
without_reduced n m q [] ne = refl
without_reduced n m q (o ∷ os) ne = let ih = without_reduced n m q os ne in let k = without_if_left n (lowered q o) os in grind (arith, nat_tests)

not_there : (n : ℕ) (b : Book) (m : ℕ) (o : Order) → find m (without n b) ≡ Some o → m ≡ n → ⊥
not_there n b m o e same = none_some o (sym (find_without_itself n b) ∙ ap (λ k. find k (without n b)) (sym same) ∙ e)

fair_without : (n : ℕ) (t : Trade) (b : Book) → Fair t (without n b) → Fair t b
fair_without n t b f =
    record {
      buy = f.buy;
      sell = f.sell;
      buy_live = find_without t.buy n b f.buy f.buy_live;
      sell_live = find_without t.sell n b f.sell f.sell_live;
      buy_works = f.buy_works;
      sell_works = f.sell_works;
      buys = f.buys;
      sells = f.sells;
      buy_issue = f.buy_issue;
      sell_issue = f.sell_issue;
      buyer = f.buyer;
      seller = f.seller;
      lesser = f.lesser;
      some = f.some;
      low = f.low;
      high = f.high;
      buy_least = f.buy_least;
      sell_least = f.sell_least;
    }

trade_without : (n : ℕ) (t : Trade) (b : Book) → Fair t (without n b) → after_trade t (without n b) ≡ without n (after_trade t b)
trade_without n t b f =
    ap (reduced t.buy t.quantity) (without_reduced n t.sell t.quantity b (not_there n b t.sell f.sell f.sell_live))
    ∙ without_reduced n t.buy t.quantity (reduced t.sell t.quantity b) (not_there n b t.buy f.buy f.buy_live)

all_without : (n : ℕ) (ts : List Trade) (b : Book) → AllFair ts (without n b) → AllFair ts b × (after ts (without n b) ≡ without n (after ts b))
all_without n [] b h = (tt, refl)
all_without n (t ∷ ts) b h =
    let e = trade_without n t b h.0 in
    let r = all_without n ts (after_trade t b) (subst (AllFair ts) e h.1) in
    ((fair_without n t b h.0, r.0), ap (after ts) e ∙ r.1)

pub fair_dropped : (g : Option ℕ) (ts : List Trade) (b : Book) → AllFair ts (dropped g b) → AllFair ts b × (after ts (dropped g b) ≡ dropped g (after ts b))
fair_dropped None ts b h = (h, refl)
fair_dropped (Some n) ts b h = all_without n ts b h

pub whole_dropped : (g : Option ℕ) (ts : List Trade) (b : Book) → AllFair ts (dropped g b) → Whole (dropped g b) (after ts (dropped g b)) → Whole b (after ts b)
whole_dropped None ts b f h m o e all = h m o e all
whole_dropped (Some n) ts b f h m o e all = elim (cases_eq m n) [
  | inl same ↦
      let none : find m (without n b) ≡ None = ap (λ k. find k (without n b)) same ∙ find_without_itself n b in
      sym (untouched m ts b (never_touched m ts (without n b) f none)) ∙ e
  | inr ne ↦
      let there : find m (after ts (without n b)) ≡ Some o = ap (find m) (all_without n ts b f).1 ∙ find_without_other m n (after ts b) ne ∙ e in
      find_without m n b o (h m o there all)
]

pub none_dropped : (g : Option ℕ) (n : ℕ) (b : Book) → find n b ≡ None → find n (dropped g b) ≡ None
none_dropped None n b e = e
none_dropped (Some k) n b e = elim (cases_eq n k) [
  | inl same ↦ ap (λ j. find j (without k b)) same ∙ find_without_itself k b
  | inr ne ↦ find_without_other n k b ne ∙ e
]

pub dropped_ends : (g : Option ℕ) (n : ℕ) (b : Book) (o : Order) → find n b ≡ Some o → find n (dropped g b) ≡ None → g ≡ Some n
dropped_ends None n b o h z = none_some o (sym z ∙ h)
dropped_ends (Some k) n b o h z = elim (cases_eq n k) [
  | inl same ↦ ap Some (sym same)
  | inr ne ↦ none_some o (sym z ∙ find_without_other n k b ne ∙ h)
]
