use Rattle.std.specs.Prelude.{◌≡◌}
use Rattle.wkb_check.specs.Pieces.{bytes_left}
use Rattle.wkb_abi.proofs.Levels.{Walks}
use Rattle.wkb_abi.proofs.level_slices.lay_rings.Given as goal

abbrev pub invariant-loop-ring : goal.invariant-loop-ring
invariant-loop-ring l = record {
  walk : Walks l.asked l.row l.fn.from l.fn.out l.pieces l.at l.out;
  alone : l.pieces.geometries ≡ 0;
}

abbrev pub decreases-loop-ring : goal.decreases-loop-ring
decreases-loop-ring l = bytes_left l.pieces
