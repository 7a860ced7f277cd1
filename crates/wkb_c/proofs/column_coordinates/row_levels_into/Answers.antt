use Rattle.wkb_abi.proofs.Common.{refl, sym, ◌∙◌}
use Rattle.wkb_abi.specs.Coordinates.{failed, unknown}
use Rattle.wkb_abi.proofs.Rooms.{unchanged}
use Rattle.wkb_c.proofs.column_coordinates.row_levels_into.Goals as goal

pub returns-in_default-clause-laid : goal.returns-in_default-clause-laid
returns-in_default-clause-laid c =
    unchanged (failed (unknown c.in-Ok.row.now c.in-Ok.ensures.row (sym c.of_thousands.ensures ∙ c.in_default.is) refl)
    refl)
