use Rattle.wkb_abi.proofs.Common.{Reach, levels_of}
use Rattle.wkb_abi.specs.Coordinates.{AreColumnCoordinates}
use Rattle.wkb_abi.specs.LevelLists.{AreSameSlices}
use Rattle.wkb_abi.specs.RowItems.{AreSet}
use Rattle.wkb_c.proofs.column_coordinates.wkb_raw_column_coordinates.Given as goal

abbrev pub invariant-loop-i : goal.invariant-loop-i
invariant-loop-i l = record {
  reaches : Reach l.column l.i l.reach;
  lists : AreSet l.i-end l.initial.statuses l.statuses l.initial.row_ends l.row_ends;
  done : AreColumnCoordinates l.column l.dimension l.statuses l.row_ends
      (levels_of l.fn.out) l.i l.at (levels_of l.out);
  same_slices : AreSameSlices l.initial.out l.out;
}
