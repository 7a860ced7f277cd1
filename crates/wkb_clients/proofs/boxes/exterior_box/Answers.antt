use Rattle.std.proofs.Common.{sym, subst}
use Rattle.wkb_clients.specs.Common.{ring_seen, ring_dimension}
use Rattle.wkb_clients.specs.Boxes.{HoldsNumbers}
use Rattle.wkb_clients.proofs.BoxesHold.{holds, exterior_is}
use Rattle.wkb_clients.proofs.boxes.exterior_box.Goals as goal

pub returns-in-Some-clause-holds : goal.returns-in-Some-clause-holds
returns-in-Some-clause-holds c =
    let r = c.in-Some.ring in
    let e = c.ring_box.result in
    subst (λ cs. HoldsNumbers cs e) (sym (exterior_is c.args.polygon.now.parts (ring_seen r) c.in-Some.ensures.part))
    (holds (ring_dimension r) (ring_seen r) e c.ring_box.ensures)
