use Rattle.wkb_check.specs.Prelude.{bytes_left}
use Rattle.wkb_bounds.specs.Walking.{HasWidened}
use Rattle.wkb_bounds.proofs.scan.front_bounds_into.Given as goal

abbrev pub decreases-loop-piece : goal.decreases-loop-piece
decreases-loop-piece l = bytes_left l.pieces

abbrev pub invariant-loop-piece : goal.invariant-loop-piece
invariant-loop-piece l = HasWidened l.buf l.pieces l.extremes
