use Rattle.wkb.proofs.Visits.{VisitsBefore}
use Rattle.wkb.proofs.coordinates.visit_rings.Given as goal

abbrev pub invariant-loop-i : goal.invariant-loop-i
invariant-loop-i g l = VisitsBefore g.V.Visitor.has_visited (λ cs. cs) l.fn.visitor l.visitor l.polygon.parts l.i
