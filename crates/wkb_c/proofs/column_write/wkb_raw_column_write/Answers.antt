use Rattle.wkb_abi.proofs.Common.{arith}
use Rattle.wkb_abi.proofs.Reasons.{encodings_tell_other}
use Rattle.wkb_c.proofs.RowItems.{row_done, last_end_suffices}
use Rattle.wkb_c.proofs.column_write.wkb_raw_column_write.Goals as goal

pub loop-i-preserved : goal.loop-i-preserved
loop-i-preserved c =
    let row = c.write_wkb_row-status.ensures in record {
      reaches = row.reach;
      done =
          row_done c.loop-i.invariant.done row.step c.saturating_add-at.ensures (omega arith) c.loop-i-test.true
          (omega (arith, c.min-i-end.ensures));
    }

pub returns-clause-each : goal.returns-clause-each
returns-clause-each c =
    let done = c.loop-i.invariant.done in
    λ i below. done.each i (omega (arith, c.loop-i-test.false, c.min-i-end.ensures, done.lists))

pub returns-clause-room : goal.returns-clause-room
returns-clause-room c = grind (arith, last_end_suffices, encodings_tell_other)
