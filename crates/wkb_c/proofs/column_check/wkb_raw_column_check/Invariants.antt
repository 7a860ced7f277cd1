use Rattle.wkb_abi.proofs.Common.{◌≡◌, length, Reach}
use Rattle.wkb_abi.specs.Columns.{AreStatuses}
use Rattle.wkb_c.proofs.column_check.wkb_raw_column_check.Given as goal

abbrev pub invariant-loop-i : goal.invariant-loop-i
invariant-loop-i l = record {
  reaches : Reach l.column l.i l.reach;
  as_many : length l.statuses ≡ length l.initial.statuses;
  done : AreStatuses l.column l.i l.statuses;
}
