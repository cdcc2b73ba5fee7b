use Rattle.std.proofs.Common.{rules}
use Rattle.std.proofs.lemmas.Fn.{always_returns_same}
use Rattle.register.proofs.Places.{lawful_ascending}
use Rattle.rows.proofs.Scans.{searched, to_pair}
use Rattle.rows.proofs.scan.find.Goals as goal

pub returns : goal.returns
returns c =
    let facts = c.binary_search_by.ensures in
    let by_pair = facts.position (to_pair c.args.account c.args.issue) (always_returns_same _ _ _ (λ row r kept called. (search rules, search rules))) in
    let found = searched _ _ _ (lawful_ascending _ c.requires) _ facts.bound by_pair in
    search rules
