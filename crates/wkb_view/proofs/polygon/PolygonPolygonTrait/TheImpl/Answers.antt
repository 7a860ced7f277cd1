use Rattle.wkb_view.proofs.Prelude.{arith}
use Rattle.wkb_view.proofs.polygon.PolygonPolygonTrait.TheImpl.Goals as goal

pub exterior-tells : goal.exterior-tells
exterior-tells g _ _ _ c = grind arith

pub interior-tells : goal.interior-tells
interior-tells g _ _ _ c = grind arith

pub rings_size-tells : goal.rings_size-tells
rings_size-tells g _ _ _ c = grind arith
