use Rattle.wkb_view.proofs.Prelude.{arith}
use Rattle.wkb_view.proofs.multi_polygon.MultiPolygonMultiPolygonTrait.TheImpl.Goals as goal

pub polygon-tells : goal.polygon-tells
polygon-tells g _ _ _ _ c = grind arith
