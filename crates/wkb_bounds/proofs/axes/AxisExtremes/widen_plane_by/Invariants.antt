use Rattle.std.specs.Prelude.{◌≡◌, ◌/◌}
use Rattle.wkb_bounds.proofs.Widening.{RunLeft}
use Rattle.wkb_bounds.proofs.axes.AxisExtremes.widen_plane_by.Given as goal

abbrev pub decreases-loop-pairs : goal.decreases-loop-pairs
decreases-loop-pairs l = l.pairs

abbrev pub invariant-loop-pairs : goal.invariant-loop-pairs
invariant-loop-pairs l = record {
  x_left : RunLeft 0 l.x l.left l.initial.self.x l.run;
  y_left : RunLeft 1 l.y l.left l.initial.self.y l.run;
  halved : l.pairs ≡ l.left.count / 2;
}
