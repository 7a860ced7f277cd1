use Rattle.wkb.specs.Coordinates.{of_point}
use Rattle.wkb.specs.Reads.{seen_points}
use Rattle.wkb.proofs.Visits.{VisitsBefore}
use Rattle.wkb.proofs.coordinates.visit_points.Given as goal

abbrev pub invariant-loop-i : goal.invariant-loop-i
invariant-loop-i g l = VisitsBefore g.V.Visitor.has_visited of_point l.fn.visitor l.visitor (seen_points l.multi) l.i
