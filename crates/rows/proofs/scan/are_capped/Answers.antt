use Rattle.std.proofs.Common.{leb, refl, rules}
use Rattle.std.proofs.lemmas.Iterator.{YieldsList-from_range}
use Rattle.std.proofs.lemmas.Iterator.Search.{all_from_yields_List}
use Rattle.register.specs.Rules.{limit, total_of, issues}
use Rattle.rows.proofs.scan.are_capped.Goals as goal

pub returns : goal.returns
unfolding issues
returns c = all_from_yields_List (λ i. leb (total_of i c.args.rows.now) limit) _ _ _ c.all.ensures.ran (YieldsList-from_range 1 17 16 refl refl) (λ x b q k. search rules)
