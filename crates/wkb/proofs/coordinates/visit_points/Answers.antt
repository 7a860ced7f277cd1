use Rattle.wkb.specs.Reads.{seen_coordinate}
use Rattle.wkb.proofs.Visits.{visits_found}
use Rattle.wkb.proofs.coordinates.visit_points.Goals as goal

pub loop-i-preserved : goal.loop-i-preserved
loop-i-preserved g c =
    visits_found _ _ seen_coordinate _ _ _ _ _ _ _ c.loop-i.invariant c.point.ensures.value c.unwrap.ensures
    c.in_ok-visit_point.ensures
