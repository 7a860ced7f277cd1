use Rattle.wkb_column_laws.proofs.ThereAndBack.{back_as_spelled, there_and_back}
use Rattle.wkb_column_laws.proofs.ThereAndBackColumns.{columns_come_back}
use Rattle.wkb_column_laws.proofs.there_and_back.Goals as goal

pub returns-clause-columns : goal.returns-clause-columns
returns-clause-columns c = columns_come_back

pub returns-clause-rows : goal.returns-clause-rows
returns-clause-rows c = there_and_back

pub returns-clause-as_spelled : goal.returns-clause-as_spelled
returns-clause-as_spelled c = back_as_spelled
