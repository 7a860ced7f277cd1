use Rattle.wkb_abi.proofs.Common.{arith, ◌∙◌}
use lib.ListN.{length-set}
use Rattle.wkb_abi.specs.Columns.{IsStatusOfRow}
use Rattle.wkb_abi.proofs.Rows.{statuses_more}
use Rattle.wkb_c.proofs.column_check.wkb_raw_column_check.Goals as goal

pub loop-i-preserved : goal.loop-i-preserved
loop-i-preserved c =
    let l = c.loop-i in
    let s = c.status_of_row.result in record {
      reaches = c.status_of_row.ensures.reach;
      as_many = length-set l.statuses l.i s ∙ l.invariant.as_many;
      done =
          statuses_more (IsStatusOfRow c.args.column.now) l.statuses l.i s
          (omega (arith, c.loop-i-test.true, l.invariant.as_many)) l.invariant.done c.status_of_row.ensures.status;
    }

pub returns-clause-each : goal.returns-clause-each
returns-clause-each c = λ i below. c.loop-i.invariant.done i (omega (arith, below, c.loop-i-test.false))
