use Rattle.wkb_abi.specs.Checks.{IsFound, all_zeros}
use Rattle.wkb_c.proofs.RowItems.{AreShown}
use Rattle.wkb_c.proofs.column_found.wkb_raw_column_found.Given as goal

abbrev pub invariant-loop-i : goal.invariant-loop-i
invariant-loop-i l =
    AreShown IsFound all_zeros l.column l.i-end l.i l.reach l.initial.statuses l.statuses l.initial.found l.found
