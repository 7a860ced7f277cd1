use Rattle.wkb_view.proofs.Prelude.{◌+◌, body_start, member_at, members_behind, IsMemberOfKind, member_item}
use Rattle.wkb_view.proofs.Prelude.{point_ends}
use Rattle.wkb_view.proofs.Pieces.{SoFar}
use Rattle.wkb_view.proofs.multi_point.pass_points.Given as goal

abbrev pub invariant-loop : goal.invariant-loop
invariant-loop l =
    SoFar 9 (IsMemberOfKind 1 l.layout.dimension) (member_item 1 l.layout.dimension)
    (member_at 1 l.layout.dimension) (body_start l.layout.has_srid + 4)
    l.count l.counter l.bytes (point_ends l.layout l.counter) l.rest l.fn.counts l.counts
    (members_behind 1 l.layout l.count l.bytes)
