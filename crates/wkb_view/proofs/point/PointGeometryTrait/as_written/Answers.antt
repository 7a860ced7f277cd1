use Rattle.wkb_view.proofs.Prelude.{arith, point_seen, point_value}
use Rattle.wkb_view.proofs.Items.{point_encoding_is}
use Rattle.wkb_view.proofs.Encodings.{is_encoded}
use Rattle.wkb_view.proofs.point.PointGeometryTrait.as_written.Goals as goal

pub returns : goal.returns
returns c =
    let p = c.args.self.now in
    let whole = is_encoded c.args.order c.args.form _ c.in_ok-has_flags.ensures (point_seen p) p.spells in
    grind (arith, point_encoding_is, point_value)
