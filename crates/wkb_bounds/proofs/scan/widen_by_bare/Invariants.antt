use Rattle.std.specs.Prelude.{◌≤◌}
use Rattle.wkb_check.specs.Prelude.{bytes_left}
use Rattle.wkb_bounds.specs.Walking.{HasWidened}
use Rattle.wkb_bounds.proofs.scan.widen_by_bare.Given as goal

abbrev pub decreases-loop-point : goal.decreases-loop-point
decreases-loop-point l = bytes_left l.pieces

abbrev pub invariant-loop-point : goal.invariant-loop-point
invariant-loop-point l = HasWidened l.buf l.pieces l.extremes

abbrev pub decreases-loop-ring : goal.decreases-loop-ring
decreases-loop-ring l = bytes_left l.pieces

abbrev pub invariant-loop-ring : goal.invariant-loop-ring
invariant-loop-ring l = record {
  widened : HasWidened l.buf l.pieces l.extremes;
  fewer : bytes_left l.pieces ≤ bytes_left l.initial.pieces;
}
