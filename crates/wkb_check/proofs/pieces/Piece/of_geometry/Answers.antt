use Rattle.std.proofs.Common.{drop, arith}
use Rattle.wkb_check.proofs.Ahead.{read_says, begins_inside}
use Rattle.wkb_check.proofs.Public.{geometry_opens}
use Rattle.wkb_check.proofs.pieces.Piece.of_geometry.Goals as goal

pub rest_from-from-requires : goal.rest_from-from-requires
rest_from-from-requires c = omega (arith, begins_inside c.args.bytes.now c.args.begin c.requires.here)

pub unreachable-requires : goal.unreachable-requires
unreachable-requires c =
    let g = c.requires.here in
    let opens = geometry_opens (drop c.args.begin c.args.bytes.now) g.spelled g.value g.rest g.begins in
    cc (opens.head, c.in-Err.ensures)

pub srid-srid-requires : goal.srid-srid-requires
srid-srid-requires c =
    let from_is = c.rest_from-from.ensures in
    rw c.layout-layout.ensures
    (read_says c.args.bytes.now c.args.begin c.requires.here _ _ from_is c.in-Ok.ensures).long

pub of_header-requires-clause-header : goal.of_header-requires-clause-header
of_header-requires-clause-header c = λ g.
    rw (c.kind-kind.ensures, c.srid-srid.ensures, c.layout-layout.ensures)
    (read_says c.args.bytes.now c.args.begin g _ _ c.rest_from-from.ensures c.in-Ok.ensures).header_is
