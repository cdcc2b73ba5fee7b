-- What the market's functions ask and leave. Assumes nothing.
use Rattle.std.specs.Prelude.{◌≡◌, ℕ, ◌+◌, ◌≤◌, min, true, List, map, length, drop, is_err}
use Rattle.register.specs.declared.holding.Row.{Row}
use Rattle.orders.specs.declared.order.Trade.{Trade}
use Rattle.orders.specs.declared.order.Call.{Call}
use Rattle.orders.specs.Strip.{clean}
use Rattle.book.specs.Table.{book_of}
use Rattle.rules.specs.declared.lent.Lent.{Lent}
use Rattle.rules.specs.declared.outcome.Outcome.{Outcome}
use Rattle.rules.specs.Market.{Answer, executed, step}
use Rattle.board.specs.declared.Board.{Board}
use Rattle.board.specs.Boards.{state_of}
use Rattle.market.specs.declared.Market.{Market}

-- records used and live orders together
abbrev pub needed : Board → ℕ
needed b = b.used + length (book_of b.table)

-- what trades need: a clean strip, and room on the tape for as many trades as there are live orders
pub record Ready (b : Board) (tape : List Trade) (strip : List ℕ) : Type 0 where
  pub clean : clean strip ≡ true
  pub room : needed b ≤ min (length tape) 32768

-- the counts of an answer so far, which no call brings to their types' ends
abbrev pub Counted : Outcome → Board → Type 0
Counted d b = (d.rounds ≤ d.trades) × (d.trades ≤ b.used)

-- of the tape, with u records used before and v after, each record past those used is as it was
abbrev pub Grown : ℕ → List Trade → ℕ → List Trade → Type 0
Grown u old v new = (u ≤ v) × (drop v new ≡ drop v old)

-- What lasts through every call: the strip, the tape past the records used, what no call changes of the register, and which register it is.
pub record Lasts {R S : Type 0} (rest : R → S) (m m' : Market R) (t t' : List Trade) (s s' : List ℕ) : Type 0 where
  pub strip : s' ≡ s
  pub tape : Grown m.board.used t m'.board.used t'
  pub register : rest m'.register.now ≡ rest m.register.now
  pub named : m'.register.ghost_name ≡ m.register.ghost_name

-- Trades that are made, recorded and settled, and how many there are.
pub record Executed {R S : Type 0} (rows : R → List Row) (rest : R → S) (ts : List Trade) (made : ℕ) (m m' : Market R) (t t' : List Trade) (s s' : List ℕ) : Type 0 where
  pub state : state_of m'.board (rows m'.register.now) t' ≡ executed ts (state_of m.board (rows m.register.now) t)
  pub count : made ≡ length ts
  pub used : m'.board.used ≡ m.board.used + made
  pub fewer : needed m'.board ≤ needed m.board
  pub lasts : Lasts rest m m' t t' s s'

-- A call: what it answers and what it leaves of board, register and tape is the rules' step; refused, it leaves the register as it was.
pub record Called {R S : Type 0} (rows : R → List Row) (rest : R → S) (lent : Lent) (c : Call) (a : Answer) (m m' : Market R) (t t' : List Trade) (s s' : List ℕ) : Type 0 where
  pub does : (a, state_of m'.board (rows m'.register.now) t') ≡ step lent (state_of m.board (rows m.register.now) t) c
  pub kept : is_err a ≡ true → m'.register.now ≡ m.register.now
  pub lasts : Lasts rest m m' t t' s s'

-- every call is lent the same
abbrev pub lent_calls : Lent → List Call → List (Lent × Call)
lent_calls lent cs = map (λ c. (lent, c)) cs
