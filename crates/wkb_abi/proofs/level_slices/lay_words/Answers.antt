use Rattle.wkb_abi.proofs.Common.{arith, ap, ◌∙◌, ◌+◌, set, drop, number}
use Rattle.wkb_geom.specs.declared.common.Endianness.TheVariants.{LittleEndian}
use Rattle.wkb_abi.proofs.Levels.{plain_next}
use Rattle.wkb_abi.proofs.level_slices.lay_words.Goals as goal

pub loop-k-preserved : goal.loop-k-preserved
loop-k-preserved c =
    plain_next c.loop-k.invariant (omega (arith, c.loop-k-test.true)) (omega arith) (omega arith)
    (ap (set c.loop-k.out (c.args.start + c.loop-k.k))
    (c.u64_at.ensures ∙ ap (λ j. number LittleEndian 8 (drop j c.args.bytes.now)) (omega arith)))
