use Rattle.wkb_abi.proofs.Common.{refl}
use Rattle.wkb_abi.specs.RowItems.{nothing, fails}
use Rattle.wkb_c.proofs.Called.{some_entry}
use Rattle.wkb_c.proofs.RowItems.{lent_rest, row_step}
use Rattle.wkb_c.proofs.column_parts.list_row.Goals as goal

pub returns-in-Err-check_row-clause-step : goal.returns-in-Err-check_row-clause-step
returns-in-Err-check_row-clause-step c =
    nothing (fails c.in-Ok.row.now c.in-Ok.ensures.row c.in-Err-check_row.ensures.refused) refl refl

pub returns-clause-step : goal.returns-clause-step
returns-clause-step c =
    let called = c.list_parts-status-2 in
    let e = called.ensures in
    row_step c.in-Ok.ensures.row some_entry
    (lent_rest c.args.parts.now called.new.parts c.min-at.result c.min-at.ensures e.long) e.listed e.no_room
    e.parts_kept e.known

pub returns-in-Some-clause-step : goal.returns-in-Some-clause-step
returns-in-Some-clause-step c =
    let called = c.list_parts-status in
    let e = called.ensures in
    row_step c.in-Ok.ensures.row some_entry
    (lent_rest c.args.parts.now called.new.parts c.min-at.result c.min-at.ensures e.long) e.listed e.no_room
    e.parts_kept e.known
