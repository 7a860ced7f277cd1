use Rattle.wkb_abi.proofs.Common.{Reach, RowHas, RowFails}
use Rattle.wkb_abi.specs.Writings.{HasEncoding, FailsToWrite}
use Rattle.wkb_c.proofs.RowItems.{RowsDone}
use Rattle.wkb_c.proofs.column_write.wkb_raw_column_write.Given as goal

abbrev pub invariant-loop-i : goal.invariant-loop-i
invariant-loop-i l = record {
  reaches : Reach l.column l.i l.reach;
  done : RowsDone (RowHas (HasEncoding l.options) l.column) (RowFails (FailsToWrite l.options) l.column) l.i-end l.i
      l.at l.initial.statuses l.statuses l.initial.ends l.ends l.initial.out l.out;
}
