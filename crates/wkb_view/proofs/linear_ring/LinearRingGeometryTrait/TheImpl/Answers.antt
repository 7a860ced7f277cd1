use Rattle.wkb_view.proofs.Prelude.{rules}
use Rattle.wkb_view.proofs.linear_ring.LinearRingGeometryTrait.TheImpl.Goals as goal

pub as_type-tells : goal.as_type-tells
as_type-tells g _ _ _ _ _ _ _ _ _ _ _ _ _ _ _ _ _ _ _ _ _ _ _ _ c = rw c.ensures.view (search rules)
