use Rattle.std.proofs.Common.{◌∙◌}
use Rattle.wkb_check.proofs.Ahead.{here}
use Rattle.wkb.proofs.Rewritings.{filled, made}
use Rattle.wkb.proofs.canon.rewritten_piece.Goals as goal

pub returns-clause-ok : goal.returns-clause-ok
returns-clause-ok c =
    let found = here c.requires.here in
    let size = c.size_with_own_srid.ensures.size c.args.options.endianness found in
    made c.requires.here
    (filled _ c.as_mut_slice.result.now c.lay_one_piece.new.out c.in_ok-encoding.encoding.items
    c.in_ok-encoding.encoding.len c.as_mut_slice.ensures.len (c.in_ok-encoding.ensures.len ∙ size)
    (c.lay_one_piece.ensures.laid found))
