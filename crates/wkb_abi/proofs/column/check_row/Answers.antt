use Rattle.wkb_abi.proofs.Telling.{refused_with}
use Rattle.wkb_abi.proofs.column.check_row.Goals as goal

pub returns-in-Err-clause-refused : goal.returns-in-Err-clause-refused
returns-in-Err-clause-refused c = refused_with _ _ _ c.in-Err.ensures.checks.refusal c.status_of_cause.ensures.status
