use Rattle.wkb.specs.Coordinates.{of_parts}
use Rattle.wkb.proofs.Visits.{VisitsBefore}
use Rattle.wkb.proofs.coordinates.visit_polygons.Given as goal

abbrev pub invariant-loop-i : goal.invariant-loop-i
invariant-loop-i g l = VisitsBefore g.V.Visitor.has_visited of_parts l.fn.visitor l.visitor l.multi.parts l.i
