use Rattle.wkb_abi.proofs.Common.{arith, length, ◌≤◌, encoding, geometry_of, HasGeometry, here}
use Rattle.wkb_rewrite.proofs.Measured.{at_most}
use Rattle.wkb_c.proofs.Encodings.{writes, lacks_room}
use Rattle.wkb_c.proofs.write.write_requested.Goals as goal
use Rattle.wkb_c.proofs.write.write_requested.Goals.{Joined-out-buf, then-out-buf+else-out-wanted, else-out-buf}

pub returns-then-out-wanted : goal.returns-then-out-wanted
returns-then-out-wanted c =
    lacks_room c.args.request c.requires c.options_for-options.ensures (λ i. (c.type_inv.buf i).fits)
    (c.encoded_size-wanted.ensures.size _) (omega (arith, c.if-out-wanted.true))

-- there is room for the encoding where it is laid
fits : (c : Joined-out-buf) → (g : HasGeometry c.args.buf.now)
    → length (encoding c.options_for-options.result.endianness c.options_for-options.result.form (geometry_of g.value))
    ≤ length c.args.out.now
fits c g = grind (arith, then-out-buf+else-out-wanted, else-out-buf, at_most)

pub lay_encoding-requires-clause-room : goal.lay_encoding-requires-clause-room
lay_encoding-requires-clause-room c = fits (goal.at.lay_encoding-requires-clause-room c).Joined-out-buf

pub returns : goal.returns
returns c =
    let size_is = c.lay_encoding.ensures.size in
    writes c.args.request c.requires c.options_for-options.ensures (λ i. (c.type_inv.buf i).fits) size_is
    (omega (arith, size_is (here c.requires), fits (goal.at.returns c).Joined-out-buf (here c.requires)))
    c.lay_encoding.ensures.laid
