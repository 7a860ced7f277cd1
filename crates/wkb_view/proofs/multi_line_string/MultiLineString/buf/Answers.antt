use Rattle.wkb_view.proofs.Prelude.{arith, refl, multi_line_string_seen}
use Rattle.wkb_view.proofs.Lends.{lends}
use Rattle.wkb_view.proofs.multi_line_string.MultiLineString.buf.Goals as goal

pub returns : goal.returns
returns c =
    rw (← c.self.view_is) (lends (multi_line_string_seen _) _ refl c.self.invariant.2 (omega arith) c.are_bytes.ensures)
