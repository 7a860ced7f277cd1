use Rattle.std.proofs.Common.{arith, subst}
use Rattle.wkb.specs.Coordinates.{Visits}
use Rattle.wkb.specs.Members.{member_falls}
use Rattle.wkb.proofs.Visits.{visiting_ends, each_member}
use Rattle.wkb.proofs.coordinates.+walk.Goals as goal

pub visit_members-visit_coordinates-requires : goal.visit_members-visit_coordinates-requires
visit_members-visit_coordinates-requires g t c κs within =
    (member_falls _ _ _ t c.member-item.is c.loop-member-test.true c.decreases, within)

pub visit_members-returns : goal.visit_members-returns
visit_members-returns g t c =
    let all = visiting_ends _ _ _ _ _ _ c.loop-member.invariant (omega (arith, c.loop-member-test.false)) in
    subst (Visits g.V.Visitor.has_visited c.args.visitor.now c.loop-member.visitor) (each_member c.args.members.now) all
