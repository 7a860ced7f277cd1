use Rattle.wkb_abi.specs.Writings.{accepted}
use Rattle.wkb_c.proofs.Encodings.{any_step}
use Rattle.wkb_c.proofs.RowItems.{lent_rest}
use Rattle.wkb_c.proofs.column_write.write_wkb_row.Goals as goal

pub returns-in-Some-clause-step : goal.returns-in-Some-clause-step
returns-in-Some-clause-step c =
    let called = c.write_plain-status in
    any_step c.in-Ok.ensures.row (accepted called.ensures)
    (lent_rest c.args.out.now called.new.out c.min-at.result c.min-at.ensures)

pub returns-clause-step : goal.returns-clause-step
returns-clause-step c =
    let called = c.write_any_row-status in
    any_step c.in-Ok.ensures.row called.ensures.writes
    (lent_rest c.args.out.now called.new.out c.min-at.result c.min-at.ensures)
