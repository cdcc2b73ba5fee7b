use Rattle.std.proofs.Common.{◌∙◌}
use Rattle.std.proofs.lemmas.Bool.{le-ltb}
use Rattle.matching.specs.Listing.{facing}
use Rattle.matching.proofs.Walking.{plain_trades, all_trades, none_left}
use Rattle.matching.proofs.ready.would_trade.Goals as goal

pub returns-in-Plain : goal.returns-in-Plain
returns-in-Plain c = c.is_given.ensures ∙ plain_trades c.args.a.now (facing c.args.a.now c.args.rows.now) c.in-Plain.is

pub returns-then-a-gt0 : goal.returns-then-a-gt0
returns-then-a-gt0 c = c.fills.ensures ∙ all_trades c.args.a.now (facing c.args.a.now c.args.rows.now) c.in-All.is c.if-a-gt0.true

pub returns-else-a-gt0 : goal.returns-else-a-gt0
returns-else-a-gt0 c = le-ltb _ _ c.if-a-gt0.false ∙ none_left c.args.a.now (facing c.args.a.now c.args.rows.now) c.in-All.is c.if-a-gt0.false
