-- Books with the same orders of an issue open it alike: the order of a list plays no part, and no more do other issues.
use Rattle.std.proofs.Common.{◌≡◌, ℕ, ◌+◌, ◌<◌, Bool, true, false, List, [], ◌∷◌, ◌++◌, map, Some, None, filter, Option, sym, refl, ap, ◌∙◌, subst, arith}
use Rattle.std.proofs.ByRecursion.{All-weaker}
use Rattle.std.specs.List.{AllByRecursion as EveryOne}
use Rattle.orders.specs.declared.order.Order.{Order}
use Rattle.orders.specs.declared.order.Side.{Side}
use Rattle.opening.specs.declared.candidate.Candidate.{Candidate}
use Rattle.orders.specs.declared.order.Side.TheVariants.{Buy, Sell}
use Rattle.orders.specs.Rank.{first_by, in_rank, ahead}
use Rattle.orders.specs.Search.{In}
use Rattle.orders.specs.Book.{Book, number_of, stamp_of, lowered, reduced, after}
use Rattle.orders.specs.Laws.{Distinct, Sound}
use Rattle.orders.specs.Lists.{in_all, in_kept, kept_in}
use Rattle.orders.specs.Firsts.{same_first}
use Rattle.orders.specs.Ranking.{distinct_kept}
use Rattle.orders.specs.Ranks.{rank_decides}
use Rattle.orders.proofs.Changes.{distinct_ascending, found_only}
use Rattle.orders.proofs.Trades.{all_reduced, sound_after}
use Rattle.orders.proofs.Reductions.{kept_other}
use Rattle.opening.specs.Opening.{takes_part, taking_part, figures, wins, plain_of, candidates, if_matched, opening_price, pairing, trades_at, trades_if, opening_trades}
use Rattle.opening.specs.Laws.{each_alone, IssuesApart, ListsAlike}
use Rattle.opening.proofs.Parts.{part_says, plain_words}
use Rattle.opening.specs.Prices.{wins_ranks, wins_tie, order_candidate, candidate_order}
use Rattle.opening.proofs.Fairness.{Live, trade_by_trade}

-- ---- what takes part decides figures and trades
module _ (i : ℕ) (b c : Book) (parts : (p : ℕ) (s : Side) → taking_part i p s b ≡ taking_part i p s c) where
  same_figures : (close p : ℕ) → figures i b close p ≡ figures i c close p
  same_figures close p = let x = parts p Buy in let y = parts p Sell in cc

  same_trades : (r : Option ℕ) → trades_if i b r ≡ trades_if i c r
  same_trades None = refl
  same_trades (Some p) =
      let x = parts p Buy in let y = parts p Sell in cc

  same_opening : (close : ℕ) → opening_price i close b ≡ opening_price i close c → opening_trades i close b ≡ opening_trades i close c
  same_opening close e = let s = same_trades (opening_price i close b) in cc

-- a limit of one book is a limit of another with the same orders and figures
candidates_in : (i close : ℕ) (b c : Book) → ((p : ℕ) → figures i b close p ≡ figures i c close p) → ((o : Order) → In o b → In o c) → (x : Candidate) → In x (candidates i close b) → In x (candidates i close c)
candidates_in i close b c same to x m =
    let r = candidate_order i close b x m in
    subst (λ y. In y (candidates i close c)) (sym (same r.0.price) ∙ r.3) (order_candidate i close c r.0 (to r.0 r.1) r.2)

-- ---- the order of a list plays no part
module _ (b c : Book) (to : (o : Order) → In o b → In o c) (from : (o : Order) → In o c → In o b) (nb : Distinct number_of b) (nc : Distinct number_of c) (sb : Distinct stamp_of b) where
  same_part : (i p : ℕ) (s : Side) → taking_part i p s b ≡ taking_part i p s c
  same_part i p s =
      let T = takes_part i p s in
      (rank_decides (filter T b) (filter T c)
      (λ o m. let k = in_kept T b o m in kept_in T c o (to o k.0) k.1) (λ o m. let k = in_kept T c o m in kept_in T b o (from o k.0) k.1)
      (distinct_kept number_of T b nb) (distinct_kept number_of T c nc) (distinct_kept stamp_of T b sb)).same_order

  same_price : (i close : ℕ) → opening_price i close b ≡ opening_price i close c
  same_price i close =
      let fig = same_figures i b c (same_part i) close in
      ap if_matched (same_first wins_ranks (candidates i close b) (candidates i close c)
      (candidates_in i close b c fig to) (candidates_in i close c b (λ p. sym (fig p)) from) (λ x y _ _ h k. wins_tie x y h k))

pub lists_alike : ListsAlike
lists_alike i close b c to from nb nc sb =
    let e = same_price b c to from nb nc sb i close in
    record { price = e; trades = same_opening i b c (same_part b c to from nb nc sb i) close e }

-- ---- the trades of one issue change nothing of another
-- the test passes orders of the issue j only
abbrev Only : ℕ → (Order → Bool) → Type 0
Only j T = (o : Order) → T o ≡ true → o.issue ≡ j

module _ (i j : ℕ) (ne : i ≡ j → ⊥) (T : Order → Bool) (only : Only j T) where
  fails : (o : Order) → o.issue ≡ i → T o ≡ false
  fails o e = grind (arith, only)

  -- the order of number n is of the issue i
  abbrev Own : ℕ → Order → Type 0
  Own n o = o.number ≡ n → o.issue ≡ i

  owns : (p : ℕ) (s : Side) (b : Book) → Sound b → (x : Order) → Live i p s b x → EveryOne (Own x.number) b
  owns p s b h x l =
      in_all (Own x.number) b (λ o m e. ap (λ z. z.issue) (found_only x.number b x (distinct_ascending b h.ascending) l.live o m e) ∙ l.part.issue)

  kept_one : (n q : ℕ) (b : Book) → EveryOne (Own n) b → filter T (reduced n q b) ≡ filter T b
  kept_one n q b h =
      kept_other T n q b
      (All-weaker (Own n) (λ o. o.number ≡ n → (T o ≡ false) × (T (lowered q o) ≡ false)) (λ o f e. (fails o (f e), fails (lowered q o) (f e))) b h)

  kept_at : (p : ℕ) (b : Book) → Sound b → filter T (after (trades_at i p b) b) ≡ filter T b
  kept_at p =
      trade_by_trade i p (λ ts b. filter T (after ts b) ≡ filter T b) (λ b. refl) (λ b h x y hx hy ts rest.
      let q = (pairing p x y).quantity in
      rest
      ∙ kept_one x.number q (reduced y.number q b) (all_reduced (Own x.number) y.number q b (λ o _ f. f) (owns p Buy b h x hx))
      ∙ kept_one y.number q b (owns p Sell b h y hy))

  kept_open : (close : ℕ) (b : Book) → Sound b → filter T (after (opening_trades i close b) b) ≡ filter T b
  kept_open close b h = go (opening_price i close b)
    where
      go : (r : Option ℕ) → filter T (after (trades_if i b r) b) ≡ filter T b
      go None = refl
      go (Some p) = kept_at p b h

map_alike : {X Y : Type 0} (f g : X → Y) (xs : List X) → ((x : X) → f x ≡ g x) → map f xs ≡ map g xs
map_alike f g [] e = refl
map_alike f g (x ∷ xs) e = let h = e x in let t = map_alike f g xs e in cc

-- so another issue opens as it would have opened before
other_issue : (i j : ℕ) → (i ≡ j → ⊥) → (close c : ℕ) (b : Book) → Sound b → opening_trades j c (after (opening_trades i close b) b) ≡ opening_trades j c b
other_issue i j ne close c b h = same_opening j d b parts c price
  where
    d : Book
    d = after (opening_trades i close b) b

    parts : (p : ℕ) (s : Side) → taking_part j p s d ≡ taking_part j p s b
    parts p s = ap (in_rank ahead) (kept_open i j ne (takes_part j p s) (λ o t. (part_says j p s o t).issue) close b h)

    price : opening_price j c d ≡ opening_price j c b
    price =
        ap (λ l. if_matched (first_by wins l))
        (ap (map (λ o. figures j d c o.price)) (kept_open i j ne (plain_of j) (λ o t. (plain_words j o t).0) close b h)
        ∙ map_alike (λ o. figures j d c o.price) (λ o. figures j b c o.price) (filter (plain_of j) b) (λ o. same_figures j d b parts c o.price))

later_issues : (i j : ℕ) → i < j → (close : ℕ) (closes : List ℕ) (b : Book) → Sound b → each_alone j closes (after (opening_trades i close b) b) ≡ each_alone j closes b
later_issues i j l close [] b h = refl
later_issues i j l close (c ∷ cs) b h =
    ap (λ ts. ts ++ each_alone (j + 1) cs (after (opening_trades i close b) b)) (other_issue i j (λ e. omega arith) close c b h)
    ∙ ap (λ ts. opening_trades j c b ++ ts) (later_issues i (j + 1) (omega arith) close cs b h)

pub issues_apart : IssuesApart
issues_apart i [] b h = refl
issues_apart i (c ∷ cs) b h =
    let ts = opening_trades i c b in
    ap (λ l. ts ++ l) (issues_apart (i + 1) cs (after ts b) (sound_after ts b h) ∙ later_issues i (i + 1) (omega arith) c cs b h)
