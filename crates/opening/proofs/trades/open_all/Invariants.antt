use Rattle.std.proofs.Common.{◌≡◌, ◌+◌, ◌≤◌, length}
use Rattle.std.specs.Iterator.Adapters.{zip_first, zip_second}
use Rattle.std.specs.Slice.Iter.{iter_rest}
use Rattle.book.specs.Table.{book_of}
use Rattle.opening.specs.Opening.{all_trades}
use Rattle.opening.proofs.Issues.{Rest}
use Rattle.opening.proofs.trades.open_all.Given as goal

abbrev pub invariant-loop-issue : goal.invariant-loop-issue
invariant-loop-issue l =
    let issue = (zip_first l.issue-iterator).start in
    let closes = iter_rest (zip_second l.issue-iterator) in
    let b = book_of l.table in
    let b₀ = book_of l.initial.table in
    record {
      issues : issue + length closes ≡ 17;
      live : l.made + length b ≤ length b₀;
      rest : Rest l.made (all_trades issue closes b) l.free b (all_trades 1 l.closes b₀) l.initial.free b₀;
      given : l.table.given ≡ l.initial.table.given;
    }
