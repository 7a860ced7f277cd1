use Rattle.wkb_abi.proofs.Common.{arith, ◌∙◌, ◌≡◌, ap, length}
use Rattle.wkb_levels.specs.EndLists.{ends_of}
use Rattle.wkb_c.proofs.LevelRows.{ready_first}
use Rattle.wkb_abi.proofs.Reasons.{levels_tell_other}
use Rattle.wkb_c.proofs.RowItems.{row_done, last_end_suffices}
use Rattle.wkb_c.proofs.from_coordinates.wkb_raw_column_from_coordinates.Goals as goal
use Rattle.wkb_c.proofs.from_coordinates.wkb_raw_column_from_coordinates.Goals.{After-len-rows}
use Rattle.wkb_abi.specs.LevelTargets.{levels_in}

pub loop-i-init : goal.loop-i-init
loop-i-init c = grind (arith, ready_first)

pub loop-i-preserved : goal.loop-i-preserved
loop-i-preserved c =
    let row = c.write_level_row-status.ensures in record {
      ready = row.ready;
      done =
          row_done c.loop-i.invariant.done row.step c.saturating_add-at.ensures (omega arith) c.loop-i-test.true
          (omega (arith, c.min.ensures, c.min-i-end.ensures));
    }

-- as many rows as are counted
rows_are : (c : After-len-rows) → c.len-rows.result ≡ length (ends_of (levels_in c.args.column.now).row_ends)
rows_are c = c.len-rows.ensures ∙ ap (λ levels. length (ends_of levels.row_ends)) c.levels_of_column-levels.ensures

pub returns-clause-each : goal.returns-clause-each
returns-clause-each c =
    let done = c.loop-i.invariant.done in
    let rows = rows_are (goal.at.returns-clause-each c).After-len-rows in λ i below.
    rw (← c.target_of_numbers-target.ensures)
    (done.each i (omega (arith, c.loop-i-test.false, c.min.ensures, c.min-i-end.ensures, done.lists)))

pub returns-clause-room : goal.returns-clause-room
returns-clause-room c = grind (arith, rows_are, last_end_suffices, levels_tell_other)
