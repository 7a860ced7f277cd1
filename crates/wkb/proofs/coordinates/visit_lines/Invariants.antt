use Rattle.wkb.proofs.Visits.{VisitsBefore}
use Rattle.wkb.proofs.coordinates.visit_lines.Given as goal

abbrev pub invariant-loop-i : goal.invariant-loop-i
invariant-loop-i g l = VisitsBefore g.V.Visitor.has_visited (λ cs. cs) l.fn.visitor l.visitor l.multi.parts l.i
