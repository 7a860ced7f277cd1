use Rattle.std.proofs.Common.{sym, ap, rules}
use Rattle.wkb_geom.specs.Reading.{type_kind}
use Rattle.wkb_check.proofs.Ahead.{found_header, here}
use Rattle.wkb_bounds.proofs.Scanning.{found_low}
use Rattle.wkb_bounds.proofs.Words.{member_bounds}
use Rattle.wkb_bounds.proofs.scan.found_bounds_into.Goals as goal

pub piece_bounds_into-requires-clause-low : goal.piece_bounds_into-requires-clause-low
piece_bounds_into-requires-clause-low c =
    found_low c.requires c.outermost.result c.outermost.ensures (search (rules))

pub rings_bounds_into-requires-clause-header : goal.rings_bounds_into-requires-clause-header
rings_bounds_into-requires-clause-header c =
    found_header c.requires (sym (ap type_kind c.in-Polygon.is)) (search (rules))

pub member_bounds_into-requires : goal.member_bounds_into-requires
member_bounds_into-requires c = record { here = (c.in-Some.ensures (here c.requires)).member }

pub returns-in-Some : goal.returns-in-Some
returns-in-Some c = λ g.
    let only = c.in-Some.ensures g in member_bounds g only _ (c.member_bounds_into.ensures only.member)
