-- Worked sessions of whole calls, as one table that is computed. Assumes nothing.
use Rattle.std.specs.Prelude.{◌≡◌, ℕ, Bool, true, false, ◌&&◌, List, [], ◌∷◌, map, Some, None, Ok, Err, Option}
use Rattle.register.specs.declared.holding.Row.{Row}
use Rattle.register.specs.Rules.{balance_of}
use Rattle.orders.specs.declared.order.Side.{Side}
use Rattle.orders.specs.declared.order.Side.TheVariants.{Buy, Sell}
use Rattle.orders.specs.declared.order.Term.{Term}
use Rattle.orders.specs.declared.order.Term.TheVariants.{Plain, All, Least}
use Rattle.orders.specs.declared.order.Life.{Life}
use Rattle.orders.specs.declared.order.Life.TheVariants.{Day, Now}
use Rattle.orders.specs.declared.order.Price.{Price}
use Rattle.orders.specs.declared.order.Price.TheVariants.{Limit, Market}
use Rattle.orders.specs.declared.order.Call.{Call}
use Rattle.orders.specs.declared.order.Call.TheVariants.{Enter, Amend, Cancel, Suspend, Resume, Deposit, Withdraw, Reference, Open, Close}
use Rattle.rules.specs.Faults.{fault_number}
use Rattle.rules.specs.declared.lent.Lent.{Lent}
use Rattle.rules.specs.Market.{State, Answer, set_up, run}
use Rattle.examples.specs.Examples.{numbers, same, all_same}

-- a call with what it is lent, and its answer: number, trades and rounds, or the number of the refusal alone
pub record Line : Type 0 where
  pub lent : Lent
  pub call : Call
  pub answer : List ℕ

abbrev pub line : Call → List ℕ → Line
line c a = record { lent = record { clean = true; room = 1024 }; call = c; answer = a }

-- the calls on four accounts in issue 1, each with so many free shares; the trades on the tape as buy, sell, quantity, price; and in the end
-- an account with its free and held shares
pub record Session : Type 0 where
  pub free : ℕ
  pub lines : List Line
  pub tape : List (List ℕ)
  pub balance : List ℕ

abbrev pub account : ℕ → ℕ → Row
account free a = record { account = a; issue = 1; free = free; held = 0 }

abbrev pub answer_numbers : Answer → List ℕ
answer_numbers (Ok d) = d.number ∷ d.trades ∷ d.rounds ∷ []
answer_numbers (Err f) = fault_number f ∷ []

abbrev pub balance_numbers : ℕ → Option (ℕ × ℕ) → List ℕ
balance_numbers a None = []
balance_numbers a (Some p) = a ∷ p.0 ∷ p.1 ∷ []

abbrev pub first_of : List ℕ → ℕ
first_of [] = 0
first_of (x ∷ xs) = x

abbrev pub holds : Session → Bool
holds x =
    let r : List Answer × State = run (set_up (map (account x.free) (1 ∷ 2 ∷ 3 ∷ 4 ∷ []))) (map (λ l. (l.lent, l.call)) x.lines) in
    let a : ℕ = first_of x.balance in
    all_same (map answer_numbers r.0) (map (λ l. l.answer) x.lines)
    && (all_same (map numbers r.1.tape) x.tape && same (balance_numbers a (balance_of a 1 r.1.rows)) x.balance)

abbrev pub all_hold : List Session → Bool
all_hold [] = true
all_hold (x ∷ xs) = holds x && all_hold xs

-- Words for the table.
abbrev pub enter : ℕ → Side → ℕ → Price → Term → Life → Call
enter a s q p t l = Enter (record { account = a; issue = 1; side = s; quantity = q; price = p; term = t; life = l })

abbrev pub buys : ℕ → ℕ → ℕ → Term → Call
buys a q p t = enter a Buy q (Limit p) t Day

abbrev pub sells : ℕ → ℕ → ℕ → Term → Call
sells a q p t = enter a Sell q (Limit p) t Day

abbrev pub zeros : List ℕ
zeros = 0 ∷ 0 ∷ 0 ∷ []

abbrev pub is_done : ℕ → ℕ → ℕ → List ℕ
is_done n t r = n ∷ t ∷ r ∷ []

abbrev pub refused : ℕ → List ℕ
refused k = k ∷ []

abbrev pub trade : ℕ → ℕ → ℕ → ℕ → List ℕ
trade b s q p = b ∷ s ∷ q ∷ p ∷ []

abbrev pub no_trades : List (List ℕ)
no_trades = []

-- the session of the rules
abbrev pub session : Session
session = record {
  free = 0;
  lines =
      line (Deposit 1 1 500) zeros
      ∷ line (Deposit 2 1 200) zeros
      ∷ line Open zeros
      ∷ line (sells 1 200 1250 All) (is_done 1 0 0)
      ∷ line (buys 3 100 1250 Plain) (is_done 2 0 0)
      ∷ line (buys 4 150 1250 Plain) (is_done 3 2 1)
      ∷ line (sells 2 201 1250 Plain) (refused 13)
      ∷ [];
  tape = trade 2 1 100 1250 ∷ trade 3 1 100 1250 ∷ [];
  balance = 1 ∷ 300 ∷ 0 ∷ [];
}

-- an opening and its rounds
abbrev pub opening : Session
opening = record {
  free = 1000;
  lines =
      line (buys 3 100 1260 Plain) (is_done 1 0 0)
      ∷ line (buys 3 200 1250 Plain) (is_done 2 0 0)
      ∷ line (sells 1 150 1240 Plain) (is_done 3 0 0)
      ∷ line (sells 1 100 1250 Plain) (is_done 4 0 0)
      ∷ line (sells 2 50 1250 All) (is_done 5 0 0)
      ∷ line Open (0 ∷ 4 ∷ 1 ∷ [])
      ∷ [];
  tape = trade 1 3 100 1250 ∷ trade 2 3 50 1250 ∷ trade 2 4 100 1250 ∷ trade 2 5 50 1250 ∷ [];
  balance = 3 ∷ 1300 ∷ 0 ∷ [];
}

-- a suspended sell keeps its cover, takes no part, and is resumed behind the others
abbrev pub suspension : Session
suspension = record {
  free = 1000;
  lines =
      line Open zeros
      ∷ line (sells 1 100 1250 Plain) (is_done 1 0 0)
      ∷ line (sells 2 100 1250 Plain) (is_done 2 0 0)
      ∷ line (Suspend 1) (is_done 1 0 0)
      ∷ line (Suspend 1) (refused 8)
      ∷ line (buys 3 50 1250 Plain) (is_done 3 1 0)
      ∷ line (Resume 1) (is_done 1 0 0)
      ∷ line (Resume 1) (refused 8)
      ∷ line (buys 3 60 1250 Plain) (is_done 4 2 0)
      ∷ line (Suspend 1) (is_done 1 0 0)
      ∷ [];
  tape = trade 3 2 50 1250 ∷ trade 4 2 50 1250 ∷ trade 4 1 10 1250 ∷ [];
  balance = 1 ∷ 900 ∷ 90 ∷ [];
}

-- market and now orders, and a self-sale
abbrev pub market_now : Session
market_now = record {
  free = 1000;
  lines =
      line (enter 3 Buy 10 Market Plain Day) (refused 2)
      ∷ line (enter 3 Buy 10 (Limit 1250) Plain Now) (refused 2)
      ∷ line Open zeros
      ∷ line (enter 3 Buy 10 Market Plain Day) (refused 12)
      ∷ line (sells 1 100 1250 Plain) (is_done 1 0 0)
      ∷ line (sells 1 100 1260 Plain) (is_done 2 0 0)
      ∷ line (enter 1 Buy 150 Market Plain Now) (is_done 3 1 0)
      ∷ line (Cancel 3) (refused 7)
      ∷ [];
  tape = trade 3 1 100 1250 ∷ [];
  balance = 1 ∷ 900 ∷ 100 ∷ [];
}

-- amendments: quantity alone keeps the place in rank, a price gives a new stamp; cover follows
abbrev pub amendments : Session
amendments = record {
  free = 1000;
  lines =
      line Open zeros
      ∷ line (sells 1 100 1250 Plain) (is_done 1 0 0)
      ∷ line (sells 2 100 1250 Plain) (is_done 2 0 0)
      ∷ line (Amend 1 60 1250 Plain) (is_done 1 0 0)
      ∷ line (Amend 1 1001 1250 Plain) (refused 13)
      ∷ line (buys 3 60 1250 Plain) (is_done 3 1 0)
      ∷ line (Amend 1 60 1250 Plain) (refused 7)
      ∷ line (Amend 2 100 1255 Plain) (refused 9)
      ∷ line (Amend 2 100 1250 (Least 101)) (refused 11)
      ∷ line (sells 4 100 1250 Plain) (is_done 4 0 0)
      ∷ line (Amend 2 100 1260 Plain) (is_done 2 0 0)
      ∷ line (Amend 2 100 1250 Plain) (is_done 2 0 0)
      ∷ line (buys 3 50 1250 Plain) (is_done 5 1 0)
      ∷ line (Cancel 2) (is_done 2 0 0)
      ∷ line Close zeros
      ∷ line (Deposit 1 1 1) (refused 2)
      ∷ [];
  tape = trade 3 1 60 1250 ∷ trade 5 4 50 1250 ∷ [];
  balance = 1 ∷ 940 ∷ 0 ∷ [];
}

-- the other refusals, and the order of the checks
abbrev pub refusals : Session
refusals = record {
  free = 1000;
  lines =
      line Close (refused 2)
      ∷ line (Reference 17 1000) (refused 5)
      ∷ line (Reference 1 1005) (refused 9)
      ∷ line (Reference 1 1200) zeros
      ∷ record { lent = record { clean = false; room = 1024 }; call = buys 9 0 5 Plain; answer = refused 3 }
      ∷ record { lent = record { clean = true; room = 0 }; call = buys 9 0 5 Plain; answer = refused 4 }
      ∷ line (buys 9 0 5 Plain) (refused 5)
      ∷ line (buys 3 0 5 Plain) (refused 9)
      ∷ line (buys 3 0 1000010 Plain) (refused 9)
      ∷ line (buys 3 0 10 (Least 0)) (refused 10)
      ∷ line (buys 3 100000001 10 (Least 0)) (refused 10)
      ∷ line (buys 3 400 10 (Least 0)) (refused 11)
      ∷ line (buys 3 400 10 (Least 401)) (refused 11)
      ∷ line (sells 1 1001 10 Plain) (refused 13)
      ∷ line (Withdraw 1 1 1001) (refused 13)
      ∷ line (Withdraw 9 1 0) (refused 5)
      ∷ line (Deposit 1 1 1000000000000) (refused 16)
      ∷ line (Cancel 0) (refused 6)
      ∷ line (Cancel 1) (refused 6)
      ∷ line (buys 3 400 10 (Least 400)) (is_done 1 0 0)
      ∷ line Open zeros
      ∷ line Open (refused 2)
      ∷ line (Reference 1 1000) (refused 2)
      ∷ [];
  tape = no_trades;
  balance = 1 ∷ 1000 ∷ 0 ∷ [];
}

abbrev pub table : List Session
table = session ∷ opening ∷ suspension ∷ market_now ∷ amendments ∷ refusals ∷ []

abbrev pub SessionsHold : Type 0
SessionsHold = all_hold table ≡ true
