use Rattle.wkb_abi.proofs.Common.{refl, arith}
use Rattle.wkb_abi.proofs.Rooms.{lacks_row, laid_row}
use Rattle.wkb_c.proofs.column_coordinates.found_levels_into.Goals as goal

pub returns-then-not-has_room-clause-laid : goal.returns-then-not-has_room-clause-laid
returns-then-not-has_room-clause-laid c =
    lacks_row c.args.out.now c.requires c.after.ensures (c.if-not-has_room.ensures.no refl)

pub returns-clause-laid : goal.returns-clause-laid
returns-clause-laid c =
    laid_row c.args.out.now c.requires c.after.ensures c.lay_levels.new.out (omega arith) (omega arith) (omega arith)
    (c.if-not-has_room.ensures.yes refl) c.lay_levels.ensures.levels
