use Rattle.std.proofs.Common.{rules}
use Rattle.wkb_c.proofs.RowItems.{row_shown}
use Rattle.wkb_c.proofs.column_bounds.wkb_raw_column_bounds.Goals as goal

pub loop-i-preserved : goal.loop-i-preserved
loop-i-preserved c = search (rules, row_shown)
