use Rattle.std.proofs.Common.{vec_items, string_bytes}
use Rattle.std.specs.Slice.Iter.{split_inclusive_rest}
use Rattle.std.specs.Iterator.Adapters.{enumerate_source, enumerate_count}
use Rattle.statements.proofs.Reports.{Sofar}
use Rattle.statements.proofs.report.report.Given as goal

abbrev pub invariant-loop-i : goal.invariant-loop-i
invariant-loop-i l = Sofar l.input (vec_items l.rows) (string_bytes l.refused) (enumerate_count l.i-iterator) (split_inclusive_rest (enumerate_source l.i-iterator))
