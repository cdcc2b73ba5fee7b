use Rattle.std.proofs.Common.{refl}
use Rattle.market.proofs.Tapes.{lasts_on}
use Rattle.market.proofs.Market.attempt.Goals as goal

pub returns-clause-lasts : goal.returns-clause-lasts
returns-clause-lasts g c =
    let e = c.end_if_now.ensures in
    lasts_on g.R.Register.rest _ _ _ _ _ _ _ _ _ _ c.execute_attempt-trades.ensures.lasts e.used e.stays refl c.by_rounds.ensures.lasts
