use Rattle.wkb_abi.proofs.Common.{refl}
use Rattle.wkb_abi.specs.Coordinates.{failed, refused}
use Rattle.wkb_abi.proofs.Rooms.{unchanged}
use Rattle.wkb_abi.proofs.Telling.{refused_with}
use Rattle.wkb_c.proofs.column_coordinates.any_levels_into.Goals as goal

pub returns-in-Err-clause-laid : goal.returns-in-Err-clause-laid
returns-in-Err-clause-laid c = λ column dimension i is named.
    let why = refused_with _ _ _ c.in-Err.ensures.checks.refusal c.status_of_cause.ensures.status in
    unchanged (failed (refused c.args.row.now c.args.asked is named why) refl)
