use Rattle.wkb_view.proofs.Prelude.{◌<◌, sym, arith}
use Rattle.wkb_view.proofs.Items.{ring_counted, coordinate_between}
use Rattle.wkb_view.proofs.linear_ring.LinearRingLineStringTrait.coord_at.Goals as goal

pub returns-clause-value : goal.returns-clause-value
returns-clause-value c =
    let l = c.args.self.now in
    let lt : c.args.i < l.count = omega (arith, ring_counted l.order l.dimension l.bytes.now) in
    sym (rw (c.subslice.ensures, c.coord_offset-start.ensures, c.coordinate_size.ensures, ← l.counted)
    (coordinate_between l.order l.dimension l.count c.args.i 4 l.bytes.now lt))
