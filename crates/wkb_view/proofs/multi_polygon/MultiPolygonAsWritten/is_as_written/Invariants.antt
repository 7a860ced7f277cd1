use Rattle.wkb_view.proofs.Prelude.{polygon}
use Rattle.wkb_view.proofs.Encodings.{AreWrittenBefore}
use Rattle.wkb_view.proofs.multi_polygon.MultiPolygonAsWritten.is_as_written.Given as goal

abbrev pub invariant-loop-i : goal.invariant-loop-i
invariant-loop-i l = AreWrittenBefore l.order l.has_flags polygon l.self.dimension l.i l.self.spelled l.self.parts
