use Rattle.std.proofs.Common.{arith, ap, length, refl, rules}
use Rattle.wkb_check.proofs.Ahead.{here}
use Rattle.wkb_check.specs.declared.pieces.Pieces.{Pieces}
use Rattle.wkb_rewrite.proofs.Measured.{kind_of, long_of}
use Rattle.wkb_rewrite.proofs.Copying.{polygon_stands}
use Rattle.wkb_rewrite.proofs.encoding.lay_polygon.Goals as goal

pub lay_rings-requires-clause-polygon : goal.lay_rings-requires-clause-polygon
lay_rings-requires-clause-polygon c = omega (arith, kind_of c.requires.here _ c.polygon-first.ensures)

pub lay_rings-requires-in-LittleEndian-BigEndian-clause-polygon :
    goal.lay_rings-requires-in-LittleEndian-BigEndian-clause-polygon
lay_rings-requires-in-LittleEndian-BigEndian-clause-polygon c =
    omega (arith, kind_of c.requires.here _ c.polygon-first.ensures)

pub behind_header-requires-clause-stands : goal.behind_header-requires-clause-stands
behind_header-requires-clause-stands c = λ g.
    let first = c.polygon-first.result in
    let walk : Pieces =
    record {
      bytes = c.args.buf;
      at = 0;
      rings = 0;
      geometries = 1;
      order = first.order;
      dimension = first.dimension;
    } in
    polygon_stands c.args.options walk (λ i. (c.type_inv.buf i).fits) c.polygon-first.ensures
    (omega (arith, kind_of c.requires.here first c.polygon-first.ensures)) (search rules) g (long_of c.requires.here g) refl

pub lay-requires : goal.lay-requires
lay-requires c =
    let g = here c.requires.here in
    omega (arith, ap length (c.behind_header.ensures g), c.requires.room g)
