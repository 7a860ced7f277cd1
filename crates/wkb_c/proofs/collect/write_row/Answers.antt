use Rattle.wkb_c.specs.Collections.{refused}
use Rattle.wkb_c.proofs.Gathering.{unfit_of}
use Rattle.wkb_c.proofs.collect.write_row.Goals as goal

pub returns-in-Some-clause-unfit : goal.returns-in-Some-clause-unfit
returns-in-Some-clause-unfit c =
    unfit_of _ _ c.write_found.result c.in-Ok.ensures.row c.write_found.ensures.unfit

pub returns-in-Ok-check_member_row-clause-unfit : goal.returns-in-Ok-check_member_row-clause-unfit
returns-in-Ok-check_member_row-clause-unfit c =
    let called = c.write_found-in-Ok-check_member_row in
    unfit_of _ _ called.result c.in-Ok.ensures.row called.ensures.unfit

pub returns-in-Err-check_member_row-clause-unfit : goal.returns-in-Err-check_member_row-clause-unfit
returns-in-Err-check_member_row-clause-unfit c =
    refused c.in-Ok.row.now c.in-Ok.ensures.row c.in-Err-check_member_row.ensures.refused
