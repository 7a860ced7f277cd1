use Rattle.wkb_view.proofs.Prelude.{arith, refl, polygon_seen}
use Rattle.wkb_view.proofs.Lends.{lends}
use Rattle.wkb_view.proofs.polygon.Polygon.buf.Goals as goal

pub returns : goal.returns
returns c =
    rw (← c.self.view_is) (lends (polygon_seen _) _ refl c.self.invariant.2 (omega arith) c.are_bytes.ensures)
