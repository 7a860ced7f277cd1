use Rattle.wkb_read.proofs.Prelude.{◌≡◌, ◌+◌, drop, length, sum_by}
use Rattle.wkb_read.proofs.contents.of_polygons.Given as goal

abbrev pub invariant-loop-i : goal.invariant-loop-i
invariant-loop-i l = record {
  coordinates_left : l.coordinates + sum_by (λ rings. sum_by length rings) (drop l.i l.multi.parts)
      ≡ sum_by (λ rings. sum_by length rings) l.multi.parts;
  members_left : l.members + sum_by (λ rings. 1 + length rings) (drop l.i l.multi.parts)
      ≡ sum_by (λ rings. 1 + length rings) l.multi.parts;
}
