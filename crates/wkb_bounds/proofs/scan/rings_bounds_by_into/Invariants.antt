use Rattle.std.specs.Prelude.{◌≡◌}
use Rattle.wkb_check.specs.Prelude.{bytes_left}
use Rattle.wkb_bounds.specs.Walking.{HasWidened}
use Rattle.wkb_bounds.proofs.scan.rings_bounds_by_into.Given as goal

abbrev pub decreases-loop-ring : goal.decreases-loop-ring
decreases-loop-ring l = bytes_left l.pieces

abbrev pub invariant-loop-ring : goal.invariant-loop-ring
invariant-loop-ring l = record {
  widened : HasWidened l.buf l.pieces l.extremes;
  alone : l.pieces.geometries ≡ 0;
}
