-- What holds of opening trades: they are fair, and leave the orders that take no part as they are.
use Rattle.std.proofs.Common.{◌≡◌, ℕ, zero, suc, ◌+◌, ◌≤◌, List, [], ◌∷◌, length, Some, None, Option, sym, refl, ap, ◌∙◌, subst, inl, inr, arith}
use Rattle.std.specs.List.{AllByRecursion as EveryOne}
use Rattle.orders.specs.declared.order.Order.{Order}
use Rattle.orders.specs.declared.order.Trade.{Trade}
use Rattle.orders.specs.declared.order.Side.{Side}
use Rattle.orders.specs.declared.order.Side.TheVariants.{Buy, Sell}
use Rattle.orders.specs.Orders.{Valid}
use Rattle.orders.specs.Rank.{first_by, ahead}
use Rattle.orders.specs.Search.{In}
use Rattle.orders.specs.Book.{Book, find, reduced, after_trade, after}
use Rattle.orders.specs.Laws.{Sound, Fair, AllFair}
use Rattle.orders.specs.Lists.{all_in}
use Rattle.orders.proofs.Changes.{in_found, distinct_ascending}
use Rattle.orders.proofs.Trades.{find_other, sound_after, after_append, fair_append}
use Rattle.opening.specs.Opening.{pairing, trades_at, trades_if, opening_price, opening_trades, all_trades}
use Rattle.opening.specs.Laws.{TakesPart, TradesFair, Waits, OthersStay}
use Rattle.opening.proofs.Parts.{part_says}
use Rattle.opening.proofs.Turns.{in_part, first_part, next, no_buy, no_sell}

-- a live order that takes part
pub record Live (i p : ℕ) (s : Side) (b : Book) (o : Order) : Type 0 where
  pub live : find o.number b ≡ Some o
  pub part : TakesPart i p s o
  pub left : 1 ≤ o.left

live_first : (i p : ℕ) (s : Side) (b : Book) → Sound b → (w : Order) → first_by ahead (in_part i p s b) ≡ Some w → Live i p s b w
live_first i p s b h w e =
    let f = first_part i p s b w e in
    record { live = in_found b (distinct_ascending b h.ascending) w f.0; part = part_says i p s w f.1; left = (all_in Valid b h.valid w f.0).some }

-- ---- trade by trade: what holds of no trades, and of one more trade between two live orders that take part, holds of the trades at a price
module _ (i p : ℕ) (P : List Trade → Book → Type 0) (nil : (b : Book) → P [] b)
    (cons : (b : Book) → Sound b → (x y : Order) → Live i p Buy b x → Live i p Sell b y → (ts : List Trade) → P ts (after_trade (pairing p x y) b) → P (pairing p x y ∷ ts) b) where
  step : (k : ℕ) → ((c : Book) → Sound c → suc (length (trades_at i p c)) ≤ k → P (trades_at i p c) c) → (b : Book) → Sound b → length (trades_at i p b) ≤ k →
      (r s : Option Order) → first_by ahead (in_part i p Buy b) ≡ r → first_by ahead (in_part i p Sell b) ≡ s → P (trades_at i p b) b
  step k ih b h l None s e f = subst (λ ts. P ts b) (sym (no_buy i p b e)) (nil b)
  step k ih b h l (Some x) None e f = subst (λ ts. P ts b) (sym (no_sell i p b f)) (nil b)
  step k ih b h l (Some x) (Some y) e f =
      let t = pairing p x y in
      let c = after_trade t b in
      let n : trades_at i p b ≡ t ∷ trades_at i p c = next i p b (distinct_ascending b h.ascending) x y e f in
      let m : length (trades_at i p b) ≡ suc (length (trades_at i p c)) = ap length n in
      subst (λ ts. P ts b) (sym n)
      (cons b h x y (live_first i p Buy b h x e) (live_first i p Sell b h y f) (trades_at i p c) (ih c (sound_after (t ∷ []) b h) (omega arith)))

  up_to : (k : ℕ) (b : Book) → Sound b → length (trades_at i p b) ≤ k → P (trades_at i p b) b
  up_to zero b h l = step 0 (λ c _ m. absurd (omega arith)) b h l (first_by ahead (in_part i p Buy b)) (first_by ahead (in_part i p Sell b)) refl refl
  up_to (suc k) b h l =
      step (suc k) (λ c hc m. up_to k c hc (omega arith)) b h l (first_by ahead (in_part i p Buy b)) (first_by ahead (in_part i p Sell b)) refl refl

  pub trade_by_trade : (b : Book) → Sound b → P (trades_at i p b) b
  trade_by_trade b h = up_to (length (trades_at i p b)) b h (omega arith)

-- ---- fair
pair_fair : (i p : ℕ) (b : Book) (x y : Order) → Live i p Buy b x → Live i p Sell b y → Fair (pairing p x y) b
pair_fair i p b x y hx hy =
    let lx = hx.left in
    let ly = hy.left in
    record {
      buy = x;
      sell = y;
      buy_live = hx.live;
      sell_live = hy.live;
      buy_works = hx.part.working;
      sell_works = hy.part.working;
      buys = hx.part.side;
      sells = hy.part.side;
      buy_issue = refl;
      sell_issue = hy.part.issue ∙ sym hx.part.issue;
      buyer = refl;
      seller = refl;
      lesser = refl;
      some = omega arith;
      low = hy.part.meets;
      high = hx.part.meets;
      buy_least = λ m e. cc;
      sell_least = λ m e. cc;
    }

pub trades_at_fair : (i p : ℕ) (b : Book) → Sound b → AllFair (trades_at i p b) b
trades_at_fair i p = trade_by_trade i p AllFair (λ b. tt) (λ b h x y hx hy ts rest. (pair_fair i p b x y hx hy, rest))

pub opening_fair : (i close : ℕ) (b : Book) → Sound b → AllFair (opening_trades i close b) b
opening_fair i close b h = go (opening_price i close b)
  where
    go : (r : Option ℕ) → AllFair (trades_if i b r) b
    go None = tt
    go (Some p) = trades_at_fair i p b h

pub all_fair : (i : ℕ) (closes : List ℕ) (b : Book) → Sound b → AllFair (all_trades i closes b) b
all_fair i [] b h = tt
all_fair i (c ∷ cs) b h =
    let ts = opening_trades i c b in
    fair_append ts (all_trades (i + 1) cs (after ts b)) b (opening_fair i c b h) (all_fair (i + 1) cs (after ts b) (sound_after ts b h))

-- at the price, and of the issue
trades_at_priced : (i p : ℕ) (b : Book) → Sound b → EveryOne (λ t. (t.issue ≡ i) × (t.price ≡ p)) (trades_at i p b)
trades_at_priced i p =
    trade_by_trade i p (λ ts b. EveryOne (λ t. (t.issue ≡ i) × (t.price ≡ p)) ts) (λ b. tt) (λ b h x y hx hy ts rest. ((hx.part.issue, refl), rest))

opening_priced : (i close p : ℕ) (b : Book) → Sound b → opening_price i close b ≡ Some p → EveryOne (λ t. (t.issue ≡ i) × (t.price ≡ p)) (opening_trades i close b)
opening_priced i close p b h e =
    subst (λ r. EveryOne (λ t. (t.issue ≡ i) × (t.price ≡ p)) (trades_if i b r)) (sym e) (trades_at_priced i p b h)

pub trades_fair : TradesFair
trades_fair b h = record { priced = λ i close p. opening_priced i close p b h; one = λ i close. opening_fair i close b h; all = λ i closes. all_fair i closes b h }

-- ---- orders that take no part stay
abbrev Apart : ℕ → ℕ → Order → Type 0
Apart i p o = (s : Side) → TakesPart i p s o → ⊥

-- an order that takes part has another number
other_number : (i p : ℕ) (s : Side) (b : Book) (x o : Order) (n : ℕ) → Live i p s b x → find n b ≡ Some o → Apart i p o → n ≡ x.number → ⊥
other_number i p s b x o n h e a k =
    let same : x ≡ o = cc in
    a s (subst (TakesPart i p s) same h.part)

abbrev Stays : ℕ → ℕ → List Trade → Book → Type 0
Stays i p ts b = (n : ℕ) (o : Order) → find n b ≡ Some o → Apart i p o → find n (after ts b) ≡ Some o

stays_at : (i p : ℕ) (b : Book) → Sound b → Stays i p (trades_at i p b) b
stays_at i p =
    trade_by_trade i p (Stays i p) (λ b n o e a. e) (λ b h x y hx hy ts rest n o e a.
    let q = (pairing p x y).quantity in
    rest n o
    (find_other n x.number q (reduced y.number q b) (other_number i p Buy b x o n hx e a) ∙ find_other n y.number q b (other_number i p Sell b y o n hy e a) ∙ e) a)

-- whatever the opening price
stays_open : (i close : ℕ) (b : Book) → Sound b → (n : ℕ) (o : Order) → find n b ≡ Some o → ((p : ℕ) → opening_price i close b ≡ Some p → Apart i p o) → find n (after (opening_trades i close b) b) ≡ Some o
stays_open i close b h n o e a = go (opening_price i close b) refl
  where
    go : (r : Option ℕ) → opening_price i close b ≡ r → find n (after (trades_if i b r) b) ≡ Some o
    go None f = e
    go (Some p) f = stays_at i p b h n o e (a p f)

waits_apart : (i p : ℕ) (o : Order) → Waits o → Apart i p o
waits_apart i p o (inl e) s h = cc
waits_apart i p o (inr n) s h = n h.plain

stays_all : (i : ℕ) (closes : List ℕ) (b : Book) → Sound b → (n : ℕ) (o : Order) → find n b ≡ Some o → Waits o → find n (after (all_trades i closes b) b) ≡ Some o
stays_all i [] b h n o e w = e
stays_all i (c ∷ cs) b h n o e w =
    let ts = opening_trades i c b in
    ap (find n) (after_append ts (all_trades (i + 1) cs (after ts b)) b)
    ∙ stays_all (i + 1) cs (after ts b) (sound_after ts b h) n o (stays_open i c b h n o e (λ p _. waits_apart i p o w)) w

pub others_stay : OthersStay
others_stay b h =
    let found : (o : Order) → In o b → find o.number b ≡ Some o = in_found b (distinct_ascending b h.ascending) in
    record {
      apart = λ i close p e o m a. stays_open i close b h o.number o (found o m) (λ l f. let same : p ≡ l = cc in subst (λ x. Apart i x o) same a);
      other_issue = λ i close o m n. stays_open i close b h o.number o (found o m) (λ p _ s t. n t.issue);
      waiting = λ i close o m w. stays_open i close b h o.number o (found o m) (λ p _. waits_apart i p o w);
      all_issues = λ i closes o m w. stays_all i closes b h o.number o (found o m) w;
    }
