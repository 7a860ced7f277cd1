use Rattle.wkb_view.proofs.Prelude.{arith}
use Rattle.wkb_view.proofs.multi_point.MultiPointMultiPointTrait.TheImpl.Goals as goal

pub point-tells : goal.point-tells
point-tells g _ _ _ c = grind arith
