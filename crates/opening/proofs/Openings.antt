-- The opening price in words.
use Rattle.std.proofs.Common.{◌≡◌, ℕ, ◌≤◌, false, List, Some, None, Option, sym, refl, ap, ◌∙◌, subst, arith, MatchOption}
use Rattle.std.proofs.lemmas.Bool.Decides.{nat_tests}
use Rattle.orders.specs.Rank.{first_by}
use Rattle.orders.specs.Search.{In}
use Rattle.orders.specs.Book.{Book}
use Rattle.orders.specs.Lists.{none_some}
use Rattle.orders.specs.Firsts.{first_tops, first_none}
use Rattle.opening.specs.declared.candidate.Candidate.{Candidate}
use Rattle.opening.specs.Opening.{distance, matched_at, surplus_at, figures, wins, candidates, if_matched, opening_price}
use Rattle.opening.specs.Laws.{Limit, Opens, Unmatched, PricesOpen}
use Rattle.opening.proofs.Parts.{plain_words, words_plain}
use Rattle.opening.specs.Prices.{wins_ranks, order_candidate, candidate_order}

-- what it means that x does not win against y
record Behind (x y : Candidate) : Type 0 where
  most : x.matched ≤ y.matched
  least : x.matched ≡ y.matched → y.surplus ≤ x.surplus
  nearest : x.matched ≡ y.matched → x.surplus ≡ y.surplus → y.away ≤ x.away
  highest : x.matched ≡ y.matched → x.surplus ≡ y.surplus → x.away ≡ y.away → x.price ≤ y.price

behind : (x y : Candidate) → wins x y ≡ false → Behind x y
behind x y h = record {
  most = grind (arith, nat_tests);
  least = λ m. grind (arith, nat_tests);
  nearest = λ m s. grind (arith, nat_tests);
  highest = λ m s d. grind (arith, nat_tests);
}

module _ (i close : ℕ) (b : Book) where
  abbrev cs : List Candidate
  cs = candidates i close b

  limit_in : (l : ℕ) → Limit i b l → In (figures i b close l) cs
  limit_in l h = subst (λ p. In (figures i b close p) cs) h.5 (order_candidate i close b h.0 h.1 (words_plain i h.0 h.2 h.3 h.4))

  in_limit : (c : Candidate) → In c cs → Limit i b c.price × (c ≡ figures i b close c.price)
  in_limit c m =
      let r = candidate_order i close b c m in
      let e : r.0.price ≡ c.price = ap (λ x. x.price) r.3 in
      let w = plain_words i r.0 r.2 in
      ((r.0, r.1, w.0, w.1, w.2, e), sym r.3 ∙ ap (figures i b close) e)

  -- the winner
  record Winner (c : Candidate) : Type 0 where
    limit : Limit i b c.price
    figured : c ≡ figures i b close c.price
    over : (l : ℕ) → Limit i b l → Behind (figures i b close l) c

  winner : (c : Candidate) → first_by wins cs ≡ Some c → Winner c
  winner c e =
      let t = first_tops wins_ranks cs c e in
      let k = in_limit c t.0 in
      record { limit = k.0; figured = k.1; over = λ l h. behind (figures i b close l) c (t.1 (figures i b close l) (limit_in l h)) }

  winner_opens : (c : Candidate) → Winner c → 1 ≤ c.matched → Opens i close b c.price
  winner_opens c w some =
      let m : c.matched ≡ matched_at i b c.price = ap (λ x. x.matched) w.figured in
      let s : c.surplus ≡ surplus_at i b c.price = ap (λ x. x.surplus) w.figured in
      let a : c.away ≡ distance c.price close = ap (λ x. x.away) w.figured in
      record {
        limit = w.limit;
        trades = omega arith;
        most = λ l h. let v = w.over l h in omega arith;
        least = λ l h e. let v = w.over l h in omega arith;
        nearest = λ l h e f. let v = w.over l h in omega arith;
        highest = λ l h e f g. let v = w.over l h in omega arith;
      }

  chosen : (c : Candidate) (p : ℕ) → if_matched (Some c) ≡ Some p → (c.price ≡ p) × (1 ≤ c.matched)
  chosen c p e =
      (grind (arith, nat_tests), grind (arith, nat_tests))

  present : (o : Option Candidate) → first_by wins cs ≡ o → (p : ℕ) → if_matched o ≡ Some p → Opens i close b p
  present None e p k = none_some p k
  present (Some c) e p k = let h = chosen c p k in subst (Opens i close b) h.0 (winner_opens c (winner c e) h.1)

  absent : (o : Option Candidate) → first_by wins cs ≡ o → if_matched o ≡ None → Unmatched i b
  absent None e k l h = absurd (subst (In (figures i b close l)) (first_none wins cs e) (limit_in l h))
  absent (Some c) e k l h =
      let w = ((winner c e).over l h).most in grind (arith, nat_tests)

  nothing : (o : Option Candidate) → first_by wins cs ≡ o → Unmatched i b → if_matched o ≡ None
  nothing None e h = refl
  nothing (Some c) e h =
      let w = winner c e in
      let m = ap (λ x. x.matched) w.figured ∙ h c.price w.limit in grind (arith, nat_tests)

  only : (o : Option Candidate) → first_by wins cs ≡ o → (p : ℕ) → Opens i close b p → if_matched o ≡ Some p
  only None e p h = absurd (subst (In (figures i b close p)) (first_none wins cs e) (limit_in p h.limit))
  only (Some c) e p h =
      let w = winner c e in
      let l = c.price in
      let m : c.matched ≡ matched_at i b l = ap (λ x. x.matched) w.figured in
      let s : c.surplus ≡ surplus_at i b l = ap (λ x. x.surplus) w.figured in
      let a : c.away ≡ distance l close = ap (λ x. x.away) w.figured in
      let v = w.over p h.limit in
      let most = h.most l w.limit in
      let least = h.least l w.limit in
      let nearest = h.nearest l w.limit in
      let highest = h.highest l w.limit in
      let ep : c.price ≡ p = grind arith in
      let some = h.trades in
      grind (arith, nat_tests)

pub prices_open : PricesOpen
prices_open i close b =
    let o = first_by wins (candidates i close b) in
    record { present = present i close b o refl; absent = absent i close b o refl; nothing = nothing i close b o refl; only = only i close b o refl }

pub opens_said : (i close : ℕ) (b : Book) (r : Option ℕ) → r ≡ opening_price i close b → MatchOption r (Unmatched i b) (λ p. Opens i close b p)
opens_said i close b None e = (prices_open i close b).absent (sym e)
opens_said i close b (Some p) e = (prices_open i close b).present p (sym e)
