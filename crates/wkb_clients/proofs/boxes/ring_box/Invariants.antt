use Rattle.wkb.specs.Checks.{x_axis, y_axis}
use Rattle.wkb.specs.Ranges.{WidenedBefore}
use Rattle.wkb_clients.specs.Common.{ring_seen, ring_dimension}
use Rattle.wkb_clients.proofs.boxes.ring_box.Given as goal

abbrev pub invariant-loop-i : goal.invariant-loop-i
invariant-loop-i l = record {
  on_x : WidenedBefore x_axis (ring_dimension l.ring) l.x (ring_seen l.ring) l.i;
  on_y : WidenedBefore y_axis (ring_dimension l.ring) l.y (ring_seen l.ring) l.i;
}
