use Rattle.wkb_bounds.proofs.Scanning.{polygon_header}
use Rattle.wkb_bounds.proofs.scan.member_bounds_into.Goals as goal

pub rings_bounds_into-requires-clause-header : goal.rings_bounds_into-requires-clause-header
rings_bounds_into-requires-clause-header c = λ g.
    polygon_header g.spelled g.value c.of_geometry-first.result (c.of_geometry-first.ensures g)
    c.if-first-eq-POLYGON.true
