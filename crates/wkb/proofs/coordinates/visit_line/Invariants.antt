use Rattle.std.proofs.Common.{◌∷◌, []}
use Rattle.wkb.proofs.Visits.{VisitsBefore}
use Rattle.wkb.proofs.coordinates.visit_line.Given as goal

abbrev pub invariant-loop-i : goal.invariant-loop-i
invariant-loop-i g l =
    VisitsBefore g.V.Visitor.has_visited (λ c. c ∷ []) l.fn.visitor l.visitor
    (g.L.LineStringTrait.coordinates l.line) l.i
