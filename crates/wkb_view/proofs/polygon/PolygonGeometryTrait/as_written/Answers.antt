use Rattle.wkb_view.proofs.Prelude.{arith, polygon_seen, polygon_laid}
use Rattle.wkb_view.proofs.Encodings.{is_encoded_fitted}
use Rattle.wkb_view.proofs.polygon.PolygonGeometryTrait.as_written.Goals as goal

pub returns : goal.returns
returns c =
    let p = c.self.inside in
    let seen = polygon_seen (polygon_laid p.layout p.ends.items p.buf.now) in
    let whole = is_encoded_fitted c.args.order c.args.form _ c.in_ok-has_flags.ensures seen c.self.invariant.2 in
    let spelled = rw (← c.self.view_is) at c.is_as_written.ensures in
    rw (← c.self.view_is) (grind arith)
