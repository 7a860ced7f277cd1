use Rattle.wkb_abi.proofs.Common.{arith}
use Rattle.wkb_abi.proofs.Levels.{words_next}
use Rattle.wkb_abi.proofs.level_slices.lay_ordered.Goals as goal

pub loop-preserved : goal.loop-preserved
loop-preserved c =
    words_next c.loop.invariant (omega (arith, c.loop-test.true)) (omega (arith, c.coordinate_size-from.ensures))
    (omega (arith, c.width-at.ensures)) c.lay_coordinate.ensures
