use Rattle.std.proofs.Common.{◌+◌, ◌*◌}
use Rattle.wkb.specs.Coordinates.{coordinates_of}
use Rattle.wkb.specs.Reads.{values}
use Rattle.wkb.specs.Values.{member_count, member_count_each}
use Rattle.wkb.proofs.Visits.{VisitsBefore}
use Rattle.wkb.proofs.coordinates.+walk.Given as goal

abbrev pub decreases-visit_coordinates : goal.decreases-visit_coordinates
decreases-visit_coordinates g l = 2 * member_count l.geometry.now.value + 1

abbrev pub decreases-visit_members : goal.decreases-visit_members
decreases-visit_members g l = 2 * member_count_each (values l.members.now)

abbrev pub invariant-visit_members-loop-member : goal.invariant-visit_members-loop-member
invariant-visit_members-loop-member g l =
    VisitsBefore g.V.Visitor.has_visited (λ m. coordinates_of m.value) l.fn.visitor l.visitor l.members l.member-index
