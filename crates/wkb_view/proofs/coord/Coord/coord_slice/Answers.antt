use Rattle.wkb_view.proofs.Prelude.{◌*◌, subst, arith, take_all, width, coordinate}
use Rattle.wkb_geom.specs.Spellings.{SpellsCoordinate}
use Rattle.wkb_laws.proofs.Bodies.{coordinate_is}
use Rattle.wkb_view.proofs.coord.Coord.coord_slice.Goals as goal

pub returns-clause-spells : goal.returns-clause-spells
returns-clause-spells c =
    let x = c.args.self.now in
    let size = 8 * width x.dimension in
    subst (SpellsCoordinate x.order x.dimension (coordinate x.order x.dimension x.bytes.now))
    (take_all size x.bytes.now (omega arith))
    (coordinate_is x.order x.dimension x.bytes.now (omega arith))
