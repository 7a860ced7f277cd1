use Rattle.wkb_view.proofs.Prelude.{arith}
use Rattle.wkb_view.proofs.Members.{polygon_there}
use Rattle.wkb_view.proofs.multi_polygon.MultiPolygonMultiPolygonTrait.polygon.Goals as goal

pub returns : goal.returns
returns c =
    let m = c.self.inside in
    let got = rw c.deref.ensures.value at c.get.ensures.lookup in
    let there =
    polygon_there m.layout.dimension m.members.items c.args.i c.get.result (got.0, got.1) c.self.invariant.1 in
    grind arith
