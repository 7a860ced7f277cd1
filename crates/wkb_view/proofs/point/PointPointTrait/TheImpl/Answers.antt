use Rattle.wkb_view.proofs.Prelude.{arith}
use Rattle.wkb_view.proofs.point.PointPointTrait.TheImpl.Goals as goal

pub coord-tells : goal.coord-tells
coord-tells g _ _ c = grind arith
