use Rattle.wkb_abi.proofs.Common.{arith}
use Rattle.wkb_c.proofs.Encodings.{meant, writes, lacks_room}
use Rattle.wkb_c.proofs.write.write_one_piece.Goals as goal

pub returns-then-out-wanted : goal.returns-then-out-wanted
returns-then-out-wanted c =
    meant c.in-Some.ensures
    (lacks_room _ c.requires.here c.options_for-options.ensures (λ i. (c.type_inv.buf i).fits)
    (c.size_with_own_srid-wanted.ensures.size _) (omega (arith, c.if-out-wanted.true)))

pub returns : goal.returns
returns c =
    meant c.in-Some.ensures
    (writes _ c.requires.here c.options_for-options.ensures (λ i. (c.type_inv.buf i).fits)
    (c.size_with_own_srid-wanted.ensures.size _) (omega (arith, c.if-out-wanted.false)) c.lay_one_piece.ensures.laid)
