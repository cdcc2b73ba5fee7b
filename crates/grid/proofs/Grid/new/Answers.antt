use Rattle.std.proofs.Common.{◌+◌, sym, refl, ◌∙◌}
use Rattle.std.proofs.lemmas.List.{get_or-replicate}
use Rattle.grid.proofs.Cells.{new_total, new_is, new_lawful}
use Rattle.grid.proofs.Grid.new.Goals as goal

pub invariant_of-result : goal.invariant_of-result
invariant_of-result c = record { wide = refl; long = refl; kept = (λ i l. get_or-replicate 16 i 0 0 l ∙ sym (new_total (i + 1) 1024)); ruled = new_lawful }

pub returns : goal.returns
returns c = record { balances = new_is _ refl refl; totals = λ i. new_total i 1024 }
