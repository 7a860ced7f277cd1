use Rattle.wkb_read.proofs.Prelude.{arith, refl}
use Rattle.wkb_read.specs.Places.{collection_seen}
use Rattle.wkb_view.proofs.Lends.{lends}
use Rattle.wkb_read.proofs.geometry.GeometryCollection.buf.Goals as goal

pub returns : goal.returns
returns c =
    rw (← c.self.view_is) (lends (collection_seen _) _ refl c.self.invariant.0.1 (omega arith) c.are_bytes.ensures)
