use Rattle.wkb_abi.proofs.Common.{arith}
use Rattle.wkb_c.proofs.RowItems.{row_done}
use Rattle.wkb_c.proofs.column_parts.wkb_raw_column_parts.Goals as goal

pub loop-i-preserved : goal.loop-i-preserved
loop-i-preserved c =
    let row = c.list_row-status.ensures in record {
      reaches = row.reach;
      done =
          row_done c.loop-i.invariant.done row.step c.saturating_add-at.ensures (omega arith) c.loop-i-test.true
          (omega (arith, c.min-i-end.ensures));
    }

pub returns-clause-each : goal.returns-clause-each
returns-clause-each c =
    let done = c.loop-i.invariant.done in
    λ i below. done.each i (omega (arith, c.loop-i-test.false, c.min-i-end.ensures, done.lists))
