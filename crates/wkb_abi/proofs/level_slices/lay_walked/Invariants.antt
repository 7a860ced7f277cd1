use Rattle.wkb_check.specs.Pieces.{bytes_left}
use Rattle.wkb_abi.proofs.Levels.{Walks}
use Rattle.wkb_abi.proofs.level_slices.lay_walked.Given as goal

abbrev pub invariant-loop-ring : goal.invariant-loop-ring
invariant-loop-ring l = Walks l.asked l.row l.fn.from l.fn.out l.pieces l.at l.out

abbrev pub decreases-loop-ring : goal.decreases-loop-ring
decreases-loop-ring l = bytes_left l.pieces
