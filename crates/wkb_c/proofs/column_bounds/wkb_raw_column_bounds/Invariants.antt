use Rattle.wkb_bounds.specs.Bounded.{BoundsFront, nothing}
use Rattle.wkb_c.proofs.RowItems.{AreShown}
use Rattle.wkb_c.proofs.column_bounds.wkb_raw_column_bounds.Given as goal

abbrev pub invariant-loop-i : goal.invariant-loop-i
invariant-loop-i l =
    AreShown BoundsFront nothing l.column l.i-end l.i l.reach l.initial.statuses l.statuses l.initial.boxes l.boxes
