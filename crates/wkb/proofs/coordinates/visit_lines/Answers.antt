use Rattle.wkb.specs.Reads.{seen_coordinates}
use Rattle.wkb.proofs.Visits.{visits_found}
use Rattle.wkb.proofs.coordinates.visit_lines.Goals as goal

pub loop-i-preserved : goal.loop-i-preserved
loop-i-preserved g c =
    visits_found _ _ seen_coordinates _ _ _ _ _ _ _ c.loop-i.invariant c.line_string.ensures.part c.unwrap.ensures
    c.in_ok-visit_line.ensures
