use Rattle.std.proofs.Common.{rules}
use Rattle.wkb_abi.proofs.Common.{arith}
use Rattle.wkb_abi.proofs.Rows.{status_shown}
use Rattle.wkb_abi.proofs.Telling.{found_accepted}
use Rattle.wkb_c.proofs.RowItems.{row_shown}
use Rattle.wkb_c.proofs.column_found.wkb_raw_column_found.Goals as goal

pub loop-i-preserved : goal.loop-i-preserved
loop-i-preserved c = search (rules, row_shown)

pub returns-clause-checked : goal.returns-clause-checked
returns-clause-checked c =
    λ i below.
    status_shown (λ row. found_accepted row _)
    (c.loop-i.invariant.done.each i (omega (arith, below, c.loop-i-test.false, c.min-i-end.ensures)))
