use Rattle.std.proofs.Common.{sym, ◌∙◌, arith}
use Rattle.std.proofs.lemmas.Result.{IfOk-weaker}
use Rattle.wkb_check.proofs.Ahead.{here}
use Rattle.wkb.proofs.Rewritings.{cut, longest, made}
use Rattle.wkb.proofs.canon.rewritten.Goals as goal

pub returns-in-Some-clause-ok : goal.returns-in-Some-clause-ok
returns-in-Some-clause-ok c =
    IfOk-weaker c.copied_to_vec.result _ _
    (λ encoding is. made c.requires (is ∙ sym (c.in-Some.ensures (here c.requires)))) c.copied_to_vec.ensures.ok

pub lay_pieces-size-requires-clause-room : goal.lay_pieces-size-requires-clause-room
lay_pieces-size-requires-clause-room c = λ g.
    let most =
    longest c.args.options.endianness c.args.options.form c.requires (λ i. (c.type_inv.buf i).fits) g in
    omega (arith, most, c.as_mut_slice.ensures.len, c.in_ok-encoding.ensures.len)

pub returns-clause-ok : goal.returns-clause-ok
returns-clause-ok c =
    let found = here c.requires in
    let most =
    longest c.args.options.endianness c.args.options.form c.requires (λ i. (c.type_inv.buf i).fits) found in
    made c.requires
    (c.truncate.ensures.items
    ∙ cut _ c.as_mut_slice.result.now c.lay_pieces-size.new.out c.in_ok-encoding.encoding.items
    c.in_ok-encoding.encoding.len c.lay_pieces-size.result c.as_mut_slice.ensures.len
    (omega (arith, most, c.in_ok-encoding.ensures.len)) (c.lay_pieces-size.ensures.size found)
    (c.lay_pieces-size.ensures.laid found))
