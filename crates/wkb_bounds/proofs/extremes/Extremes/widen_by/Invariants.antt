use Rattle.wkb_bounds.proofs.Widening.{RunLeft}
use Rattle.wkb_bounds.proofs.extremes.Extremes.widen_by.Given as goal

abbrev pub decreases-loop-left : goal.decreases-loop-left
decreases-loop-left l = l.left.count

abbrev pub invariant-loop-left : goal.invariant-loop-left
invariant-loop-left l = record { left : RunLeft l.k l.now l.left l.initial.self l.run }
