use Rattle.wkb_view.proofs.Prelude.{ring_seen, ring_lawful}
use Rattle.wkb_view.specs.Coords.{ring_dimension}
use Rattle.wkb_view.proofs.Lawful.{lawful_at}
use Rattle.wkb_view.proofs.polygon.PolygonPolygonTrait.exterior.Goals as goal

pub returns-clause-value : goal.returns-clause-value
returns-clause-value c =
    lawful_at ring_seen ring_dimension _ c.ring.result c.args.self.now.parts 0
    (λ r. ring_lawful r.order r.dimension r.bytes.now r.in_range) c.ring.ensures.dimension c.ring.ensures.value
