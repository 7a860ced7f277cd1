use Rattle.std.proofs.Common.{arith, subst}
use Rattle.wkb.specs.Coordinates.{Visits}
use Rattle.wkb.proofs.Visits.{visits_next, visiting_ends, each_alone}
use Rattle.wkb.proofs.coordinates.visit_line.Goals as goal

pub loop-i-preserved : goal.loop-i-preserved
loop-i-preserved g c =
    visits_next _ _ _ _ _ _ _ _ c.loop-i.invariant c.coord_at.ensures.value c.in_ok-visit.ensures

pub returns : goal.returns
returns g c =
    let all =
    visiting_ends _ _ _ _ _ _ c.loop-i.invariant (omega (arith, c.loop-i-test.false, c.num_coords-i-end.ensures)) in
    subst (Visits g.V.Visitor.has_visited c.args.visitor.now c.loop-i.visitor) (each_alone _) all
