use Rattle.wkb_abi.proofs.Common.{refl, ◌∙◌}
use Rattle.wkb_abi.specs.Columns.{accepted, refused}
use Rattle.wkb_c.proofs.column_bounds.bound_row.Goals as goal

pub returns-then-plain_bounds_into-clause-row : goal.returns-then-plain_bounds_into-clause-row
returns-then-plain_bounds_into-clause-row c =
    accepted c.in-Ok.row.now c.in-Ok.ensures.row refl
    (c.plain_bounds_into.ensures.front c.if-plain_bounds_into.true)

pub returns-in-Ok-bounds_or_status-clause-row : goal.returns-in-Ok-bounds_or_status-clause-row
returns-in-Ok-bounds_or_status-clause-row c =
    accepted c.in-Ok.row.now c.in-Ok.ensures.row refl c.in-Ok-bounds_or_status.ensures.front

pub returns-in-Err-bounds_or_status-clause-row : goal.returns-in-Err-bounds_or_status-clause-row
returns-in-Err-bounds_or_status-clause-row c =
    refused c.in-Ok.row.now c.in-Ok.ensures.row c.in-Err-bounds_or_status.ensures.refused
    (c.in-Err-bounds_or_status.ensures.kept ∙ c.plain_bounds_into.ensures.kept c.if-plain_bounds_into.false
    ∙ c.empty.ensures)
