use Rattle.wkb.proofs.Visits.{visits_found}
use Rattle.wkb.proofs.coordinates.visit_polygons.Goals as goal

pub loop-i-preserved : goal.loop-i-preserved
loop-i-preserved g c =
    visits_found _ _ (λ p. p.now.parts) _ _ _ _ _ _ _ c.loop-i.invariant c.polygon.ensures.part c.unwrap.ensures
    c.in_ok-visit_rings.ensures
