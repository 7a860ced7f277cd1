use Rattle.wkb.specs.Lent.{member_stands, polygon_is_member}
use Rattle.wkb_clients.specs.Common.{polygon_seen, multi_polygon_seen}
use Rattle.wkb_clients.proofs.members.polygon_bytes.Goals as goal

pub returns-in-Some : goal.returns-in-Some
returns-in-Some c =
    let p = c.in-Some.polygon.now in
    let o = c.in-Some.ensures in
    let member = polygon_is_member c.args.multi.now c.args.i p o.dimension o.spelled o.part in
    member_stands (multi_polygon_seen c.args.multi.now) c.args.i (polygon_seen p) member c.buf.ensures
    c.buf-in-Some.ensures
