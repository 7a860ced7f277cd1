use Rattle.wkb_view.proofs.Prelude.{arith}
use Rattle.wkb_view.proofs.Pieces.{part_is}
use Rattle.wkb_view.proofs.part.part_at.Goals as goal

pub overflow_sub-end : goal.overflow_sub-end
overflow_sub-end c =
    grind (arith, part_is _ c.args.ends.now _ c.args.i _ c.requires (omega arith) c.start_of_part-start.ensures)

pub subslice-requires : goal.subslice-requires
subslice-requires c =
    grind (arith, part_is _ c.args.ends.now _ c.args.i _ c.requires (omega arith) c.start_of_part-start.ensures)
