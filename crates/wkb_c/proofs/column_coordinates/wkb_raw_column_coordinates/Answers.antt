use Rattle.wkb_abi.proofs.Common.{arith}
use Rattle.wkb_abi.proofs.Rooms.{no_rows, row_more, levels_suffice}
use Rattle.wkb_abi.proofs.Levels.{stay_same}
use Rattle.wkb_c.proofs.RowItems.{set_more}
use Rattle.wkb_c.proofs.column_coordinates.wkb_raw_column_coordinates.Goals as goal

pub loop-i-init : goal.loop-i-init
loop-i-init c = grind (arith, no_rows)

pub loop-i-preserved : goal.loop-i-preserved
loop-i-preserved c =
    let l = c.loop-i in
    let row = c.row_levels_into-status in
    let lists = l.invariant.lists in record {
      reaches = row.ensures.reach;
      lists = set_more lists l.i row.result row.new.at.singles (omega arith);
      done =
          row_more l.invariant.done row.ensures.laid
          (omega (arith, c.loop-i-test.true, c.min-i-end.ensures, lists.as_many))
          (omega (arith, c.loop-i-test.true, c.min-i-end.ensures, lists.as_many_others));
      same_slices = stay_same row.ensures.same_slices l.invariant.same_slices;
    }

pub returns-clause-room : goal.returns-clause-room
returns-clause-room c = λ asked named room i below.
    levels_suffice c.loop-i.invariant.done asked named room i
    (omega (arith, c.loop-i-test.false, c.min-i-end.ensures, c.loop-i.invariant.lists))
