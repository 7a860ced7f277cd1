use Rattle.wkb_view.proofs.Prelude.{◌+◌, ring_seen, ring_lawful}
use Rattle.wkb_view.specs.Coords.{ring_dimension}
use Rattle.wkb_view.proofs.Lawful.{lawful_at}
use Rattle.wkb_view.proofs.polygon.PolygonPolygonTrait.interior.Goals as goal

pub returns-then-i-num_interiors-clause-value : goal.returns-then-i-num_interiors-clause-value
returns-then-i-num_interiors-clause-value c =
    lawful_at ring_seen ring_dimension _ c.ring.result c.args.self.now.parts (c.args.i + 1)
    (λ r. ring_lawful r.order r.dimension r.bytes.now r.in_range) c.ring.ensures.dimension c.ring.ensures.value
