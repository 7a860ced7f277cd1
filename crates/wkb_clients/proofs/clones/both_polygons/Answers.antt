use Rattle.std.proofs.Common.{Some, ap}
use Rattle.wkb.specs.OwnBytes.{one_listed}
use Rattle.wkb_clients.specs.Common.{polygon}
use Rattle.wkb_clients.proofs.clones.both_polygons.Goals as goal

pub returns-in-Some-Some : goal.returns-in-Some-Some
returns-in-Some-Some c =
    let o = rw c.in-Some-Some.is-0 at c.polygon.ensures in
    let p = rw c.in-Some-Some.is-1 at c.polygon-2.ensures in
    let same = c.requires in
    ap Some (one_listed polygon c.buf-in-Some-Some.ensures.read c.buf.ensures.read (cc (o.spelled, p.spelled, same))
    (cc (o.dimension, p.dimension, same)) (cc (o.part, p.part, same)))
