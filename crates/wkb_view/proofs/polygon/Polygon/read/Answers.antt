use Rattle.wkb_view.proofs.Prelude.{◌-◌, length, length-take, arith}
use Rattle.std.proofs.Common.{map-id}
use Rattle.wkb_view.proofs.Spells.{body_spelled}
use Rattle.wkb_view.proofs.polygon.Polygon.read.Goals as goal
unfoldable use Rattle.wkb_geom.specs.Reading.{polygon_at}

pub invariant_of-polygon : goal.invariant_of-polygon
unfolding polygon_at
invariant_of-polygon c =
    let bytes = c.args.bytes.now in
    let e = c.in_ok-ends.ensures in (
      omega (arith, length-take (length bytes - length c.in_ok-ends.rest.now) bytes),
      e.ends,
      body_spelled bytes _ _ _ c.requires.head (rw map-id at e.answer.0),
    )

pub returns-clause-answer : goal.returns-clause-answer
unfolding polygon_at
returns-clause-answer c = rw map-id at c.in_ok-ends.ensures.answer
