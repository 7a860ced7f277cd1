use Rattle.wkb.proofs.Visits.{visits_next}
use Rattle.wkb.proofs.coordinates.visit_rings.Goals as goal

pub loop-i-preserved : goal.loop-i-preserved
loop-i-preserved g c =
    visits_next _ _ _ _ _ _ _ _ c.loop-i.invariant c.ring_at.ensures c.in_ok-visit_line.ensures
