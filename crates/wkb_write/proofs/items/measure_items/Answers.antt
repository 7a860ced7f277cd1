use Rattle.wkb_write.proofs.Prelude.{rules}
use Rattle.wkb_write.proofs.Whole.{known_measured}
use Rattle.wkb_write.proofs.items.measure_items.Goals as goal

pub returns-in-Some : goal.returns-in-Some
returns-in-Some g c =
    let e = c.in-Some.ensures in
    known_measured (g.met.I.Items.parts c.args.geom.now) e.writable c.in-Some.size (search rules) e.size
