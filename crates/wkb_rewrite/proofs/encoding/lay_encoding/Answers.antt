use Rattle.std.proofs.Common.{arith, ap, sym, length, ◌∙◌}
use Rattle.wkb_rewrite.proofs.Encoded.{alone_fits, alone_laid}
use Rattle.wkb_check.proofs.Ahead.{here}
use Rattle.wkb_rewrite.proofs.encoding.lay_encoding.Goals as goal

pub lay_piece-requires : goal.lay_piece-requires
lay_piece-requires c =
    alone_fits c.requires.here c.outermost-first.ensures (sym c.has_coordinates.ensures ∙ c.if-has_coordinates.true)
    c.args.options _ c.requires.room

pub returns-then-has_coordinates : goal.returns-then-has_coordinates
returns-then-has_coordinates c =
    alone_laid c.requires.here c.outermost-first.ensures (sym c.has_coordinates.ensures ∙ c.if-has_coordinates.true)
    c.args.options c.lay_piece.ensures

pub lay-requires : goal.lay-requires
lay-requires c =
    let g = here c.requires.here in
    omega (arith, ap length (c.in-Some.ensures g), c.requires.room g)
