use Rattle.wkb_abi.proofs.Common.{refl}
use Rattle.wkb_abi.proofs.Telling.{found_is_accepted}
use Rattle.wkb_abi.specs.Columns.{accepted, refused}
use Rattle.wkb_c.proofs.column_check.status_of_row.Goals as goal

pub returns-in-Ok-found_in-clause-status : goal.returns-in-Ok-found_in-clause-status
returns-in-Ok-found_in-clause-status c =
    accepted c.in-Ok.row.now c.in-Ok.ensures.row refl
    (found_is_accepted c.in-Ok.row.now c.in-Ok-found_in._found c.in-Ok-found_in.ensures.accepted)

pub returns-in-Err-found_in-clause-status : goal.returns-in-Err-found_in-clause-status
returns-in-Err-found_in-clause-status c =
    refused c.in-Ok.row.now c.in-Ok.ensures.row c.in-Err-found_in.ensures.refused refl
