use Rattle.std.proofs.Common.{sym, refl}
use Rattle.wkb.specs.Lent.{member_stands, polygon_is_member, ring_stands, ring_word_stands}
use Rattle.wkb_clients.specs.Common.{polygon_seen, multi_polygon_seen, words_seen, ring_seen, IsWordOf}
use Rattle.wkb_clients.proofs.members.corner_word.Goals as goal

pub returns : goal.returns
returns c =
    let m = c.args.multi.now in
    let p = c.in-Some.polygon.now in
    let r = c.in-Some-exterior.ring in
    let o = c.in-Some.ensures in
    let e = c.in-Some-exterior.ensures in
    let lent = c.coords_slice-coordinates.ensures in
    let own = c.buf-2.ensures in
    let member = polygon_is_member m c.args.member p o.dimension o.spelled o.part in
    let ring = ring_stands p 0 r own lent.spells lent.bytes e.order e.dimension e.part in
    let word : IsWordOf (ring_seen r) c.args.coordinate c.args.word c.in-Some-nth.word = record {
      coordinate = words_seen c.in-Some-coord.coord;
      coordinate_is = sym c.in-Some-coord.ensures.value;
      word_is = sym c.in-Some-nth.ensures;
    } in
    record {
      part = polygon_seen p;
      dimension = p.dimension;
      rings = p.parts;
      ring = ring_seen r;
      is_member = member;
      value_is = refl;
      exterior = sym ring.at;
      word = word;
      place = _;
      place_is = refl;
      stands =
          ring_word_stands p 0 c.args.coordinate c.args.word c.in-Some-nth.word r _ own
          (member_stands (multi_polygon_seen m) c.args.member (polygon_seen p) member c.buf.ensures own) ring word;
    }
