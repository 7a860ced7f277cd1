use Rattle.wkb_view.proofs.Prelude.{arith, refl, multi_polygon_seen}
use Rattle.wkb_view.proofs.Lends.{lends}
use Rattle.wkb_view.proofs.multi_polygon.MultiPolygon.buf.Goals as goal

pub returns : goal.returns
returns c =
    rw (← c.self.view_is) (lends (multi_polygon_seen _) _ refl c.self.invariant.2 (omega arith) c.are_bytes.ensures)
