use Rattle.wkb_abi.proofs.Common.{arith, ◌∙◌, no_members}
use Rattle.wkb_c.proofs.Gathering.{written_more, all_written}
use Rattle.wkb_c.proofs.RowItems.{lent_rest}
use Rattle.wkb_c.proofs.collect.write_members.Goals as goal

pub loop-i-preserved : goal.loop-i-preserved
loop-i-preserved c =
    let l = c.loop-i.invariant in
    record {
      reaches = c.write_row.ensures.reach;
      written =
          written_more l.reaches c.write_row.ensures.reach l.written c.in-Ok.ensures.written
          (lent_rest c.loop-i.out c.write_row.new.out c.min-at.result c.min-at.ensures c.write_row.auto.out)
          (omega arith);
      fault_same = c.in-Ok.ensures.kept ∙ l.fault_same;
      row_same = l.row_same;
    }

pub returns-clause-written : goal.returns-clause-written
returns-clause-written c =
    let l = c.loop-i.invariant in
    all_written l.reaches l.written (omega (arith, c.loop-i-test.false, c.loop-i.auto.i-end))

pub returns-in-Err-clause-unfit : goal.returns-in-Err-clause-unfit
returns-in-Err-clause-unfit c =
    let w = c.loop-i.invariant.written.go_on no_members tt in record {
      below = c.loop-i-test.true;
      before = record { values = w.all; many = omega (arith, w.many); are = w.are };
      unfit = c.in-Err.ensures.unfit;
    }
