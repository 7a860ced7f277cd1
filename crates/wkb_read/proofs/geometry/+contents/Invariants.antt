use Rattle.wkb_read.proofs.Prelude.{◌≡◌, ◌+◌, drop, sum_by, coordinates_inside, parts_inside}
use Rattle.wkb_read.proofs.geometry.+contents.Given as goal

abbrev pub invariant-GeometryCollection::contents-loop-member : goal.invariant-GeometryCollection::contents-loop-member
invariant-GeometryCollection::contents-loop-member l = record {
  coordinates_left : l.coordinates + sum_by coordinates_inside (drop l.member-index l.member-items)
      ≡ sum_by coordinates_inside l.member-items;
  members_left : l.members + sum_by parts_inside (drop l.member-index l.member-items)
      ≡ sum_by parts_inside l.member-items;
}
