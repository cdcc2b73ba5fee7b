use Rattle.market.proofs.Market.make.Goals as goal

pub returns-in-Deposit : goal.returns-in-Deposit
returns-in-Deposit g c = rw c.in-Deposit.is (c.deposit.ensures.called _ c.args.tape.now c.args.strip.now)

pub returns-in-Withdraw : goal.returns-in-Withdraw
returns-in-Withdraw g c = rw c.in-Withdraw.is (c.withdraw.ensures.called _ c.args.tape.now c.args.strip.now)

pub returns-in-Reference : goal.returns-in-Reference
returns-in-Reference g c = rw c.in-Reference.is (c.reference.ensures.called _ c.args.tape.now c.args.strip.now)

pub returns-in-Close : goal.returns-in-Close
returns-in-Close g c = rw c.in-Close.is (c.close.ensures.called _ c.args.tape.now c.args.strip.now)
