use Rattle.std.proofs.Common.{rules}
use Rattle.std.proofs.lemmas.List.Sorted.{answers_always}
use Rattle.register.specs.Rules.{precedes}
use Rattle.rows.proofs.Scans.{neighbours}
use Rattle.rows.proofs.scan.are_ascending.Goals as goal

pub returns : goal.returns
returns c = neighbours _ _ (c.is_sorted_by.ensures.cases precedes (answers_always _ _ _ (λ f a r g k. search rules)))
