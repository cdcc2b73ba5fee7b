use Rattle.std.proofs.Common.{◌≡◌, ◌+◌, ◌≤◌, length}
use Rattle.book.specs.Table.{book_of}
use Rattle.opening.specs.Opening.{trades_at}
use Rattle.opening.proofs.Issues.{Rest}
use Rattle.opening.proofs.level.Level.trade.Given as goal

abbrev pub invariant-loop-t : goal.invariant-loop-t
invariant-loop-t l =
    let b = book_of l.table in
    let b₀ = book_of l.initial.table in
    let rest = trades_at l.self.issue l.self.price b in
    record {
      room : l.made + length rest ≤ length l.free;
      rest : Rest l.made rest l.free b (trades_at l.self.issue l.self.price b₀) l.initial.free b₀;
      given : l.table.given ≡ l.initial.table.given;
    }

abbrev pub decreases-loop-t : goal.decreases-loop-t
decreases-loop-t l = length (trades_at l.self.issue l.self.price (book_of l.table))
