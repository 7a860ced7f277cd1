use Rattle.wkb_view.proofs.Prelude.{◌-◌, length, length-take, arith}
use Rattle.wkb_view.proofs.Spells.{body_spelled}
use Rattle.wkb_view.proofs.multi_line_string.MultiLineString.read.Goals as goal
unfoldable use Rattle.wkb_geom.specs.Reading.{multi_line_string_at}

pub invariant_of-multi_line_string : goal.invariant_of-multi_line_string
unfolding multi_line_string_at
invariant_of-multi_line_string c =
    let bytes = c.args.bytes.now in
    let e = c.in_ok-ends.ensures in (
      omega (arith, length-take (length bytes - length c.in_ok-ends.rest.now) bytes),
      e.ends,
      body_spelled bytes _ _ _ c.requires.head e.answer.0,
    )
