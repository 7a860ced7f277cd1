use Rattle.wkb_write.proofs.Prelude.{◌∙◌, ap, arith}
use Rattle.wkb_write.proofs.Sizes.{no_room_for}
use Rattle.wkb_write.proofs.Whole.{supported_body}
use Rattle.wkb_write.specs.Bodies.{coordinate_words}
use Rattle.wkb_write.proofs.fixed.AtOnceWritable.put.Goals as goal

pub supported_dimension-dim-requires : goal.supported_dimension-dim-requires
supported_dimension-dim-requires g c = grind (arith, supported_body)

pub returns-in_err-make_room : goal.returns-in_err-make_room
returns-in_err-make_room g c =
    let wide = c.supported_dimension-dim.ensures.words ∙ ap coordinate_words c.dim.ensures in
    let size = c.size.ensures.size c.args.geom.now (c.width.ensures ∙ wide) in
    no_room_for c.args.options.now _ _ _ c.from_residual.ensures.1 c.in_err-make_room.ensures.ready
    c.length_of_header.ensures.fits (g.met.F.Fixed.lawful c.args.geom.now) c.requires.fault
    (omega (arith, c.length_of_header.ensures.size, size))
