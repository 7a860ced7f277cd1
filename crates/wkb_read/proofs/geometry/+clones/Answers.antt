use Rattle.wkb_read.proofs.Prelude.{◌∙◌, arith, take_all}
use Rattle.wkb_read.proofs.geometry.+clones.Goals as goal

pub GeometryCollection::clone-invariant_of-result : goal.GeometryCollection::clone-invariant_of-result
GeometryCollection::clone-invariant_of-result n c =
    rw (c.loop-member.invariant ∙ take_all _ _ (omega arith)) (grind arith)
