use Rattle.wkb_write.proofs.Writing.{no_fault, some_bytes}
use Rattle.wkb_write.proofs.writable.checked_size.Goals as goal

pub returns-clause-fault : goal.returns-clause-fault
returns-clause-fault g c =
    no_fault _ _ _ (c.whole_size.ensures.size _ (g.met.K.Writable.lawful c.args.geom.now) c.measure.ensures)

pub returns-clause-some : goal.returns-clause-some
returns-clause-some g c =
    let lawful = g.met.K.Writable.lawful c.args.geom.now in
    some_bytes _ _ _ c.whole_size.ensures.fits lawful (c.whole_size.ensures.size _ lawful c.measure.ensures)
