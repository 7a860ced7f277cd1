use Rattle.wkb_abi.specs.LevelRows.{HasLevelEncoding, LacksLevels}
use Rattle.wkb_abi.specs.LevelTargets.{Ready}
use Rattle.wkb_c.proofs.RowItems.{RowsDone}
use Rattle.wkb_c.proofs.from_coordinates.wkb_raw_column_from_coordinates.Given as goal

abbrev pub invariant-loop-i : goal.invariant-loop-i
invariant-loop-i l = record {
  ready : Ready l.column l.target l.i l.floor;
  done : RowsDone (HasLevelEncoding l.column l.target) (LacksLevels l.column l.target) l.i-end l.i l.at
      l.initial.statuses l.statuses l.initial.ends l.ends l.initial.out l.out;
}
