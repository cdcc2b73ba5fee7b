use Rattle.rows.proofs.Scans.{store_lawful}
use Rattle.rows.proofs.RowRegisterStore.write.Goals as goal

pub invariant_of-self : goal.invariant_of-self
invariant_of-self c =
    let s = c.args.self.now in
    record { ruled = store_lawful s.usable s.rows.now c.args.place c.args.free c.args.held s.ruled c.requires.within c.requires.fits }
