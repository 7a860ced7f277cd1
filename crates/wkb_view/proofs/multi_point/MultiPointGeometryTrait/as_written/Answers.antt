use Rattle.wkb_view.proofs.Prelude.{arith, multi_point_seen}
use Rattle.wkb_view.proofs.Encodings.{is_encoded}
use Rattle.wkb_view.proofs.multi_point.MultiPointGeometryTrait.as_written.Goals as goal

pub returns : goal.returns
returns c =
    let m = c.args.self.now in
    let whole = is_encoded c.args.order c.args.form _ c.in_ok-has_flags.ensures (multi_point_seen m) m.spells in
    grind arith
