use Rattle.wkb_abi.proofs.Common.{IsRefusedWith, Reach, RowHas, RowFails}
use Rattle.wkb_abi.specs.Subjects.{HasTable}
use Rattle.wkb_c.proofs.RowItems.{RowsDone}
use Rattle.wkb_c.proofs.column_parts.wkb_raw_column_parts.Given as goal

abbrev pub invariant-loop-i : goal.invariant-loop-i
invariant-loop-i l = record {
  reaches : Reach l.column l.i l.reach;
  done : RowsDone (RowHas HasTable l.column) (RowFails IsRefusedWith l.column) l.i-end l.i l.at
      l.initial.statuses l.statuses l.initial.ends l.ends l.initial.parts l.parts;
}
