use Rattle.std.proofs.Common.{rules}
use Rattle.orders.proofs.Comparisons.{numbers_first, numbers_last, in_parts}
use Rattle.opening.proofs.candidate.CandidateRanked.precedes.Goals as goal

pub returns : goal.returns
returns c = search (rules, in_parts, numbers_first, numbers_last)
