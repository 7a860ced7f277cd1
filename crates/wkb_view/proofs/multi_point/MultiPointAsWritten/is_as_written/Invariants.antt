use Rattle.wkb_view.proofs.Prelude.{point, multi_point_seen}
use Rattle.wkb_view.specs.Views.{seen_points, multi_point_dimension}
use Rattle.wkb_view.proofs.Encodings.{AreWrittenBefore}
use Rattle.wkb_view.proofs.multi_point.MultiPointAsWritten.is_as_written.Given as goal

abbrev pub invariant-loop-i : goal.invariant-loop-i
invariant-loop-i l =
    AreWrittenBefore l.order l.has_flags point (multi_point_dimension l.self) l.i (multi_point_seen l.self).spelled
    (seen_points l.self)
