use Rattle.market.proofs.Market.opening_price.Goals as goal

pub returns : goal.returns
returns g c = λ tape. c.opening_price.ensures (g.R.Register.rows c.args.self.now.register.now) tape
