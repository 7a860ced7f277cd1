use Rattle.std.proofs.Common.{arith}
use Rattle.wkb.specs.Lent.{member_stands, next_member_stands, polygon_is_member}
use Rattle.wkb_clients.specs.Common.{polygon_seen, multi_polygon_seen}
use Rattle.wkb_clients.proofs.members.neighbour_bytes.Goals as goal

pub returns-in-Some-polygon_bytes : goal.returns-in-Some-polygon_bytes
returns-in-Some-polygon_bytes c =
    let whole = multi_polygon_seen c.args.multi.now in
    let p = c.in-Some.polygon.now in
    let o = c.in-Some.ensures in
    let member = polygon_is_member c.args.multi.now c.args.i p o.dimension o.spelled o.part in
    record {
      first = member_stands whole c.args.i (polygon_seen p) member c.buf.ensures c.buf-bytes.ensures;
      second = next_member_stands whole c.args.i _ (polygon_seen p) (omega arith) member c.buf-bytes.ensures
          c.in-Some-polygon_bytes.ensures;
    }
