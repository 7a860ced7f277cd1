use Rattle.std.proofs.Common.{Some, sym, ap, ◌∙◌}
use Rattle.wkb.specs.Handed.{not_polygon}
use Rattle.wkb.specs.Members.{item_found, item_missing, no_member}
use Rattle.wkb_clients.specs.Common.{polygon}
use Rattle.wkb_clients.proofs.Rings.{no_polygon, ring_or_none}
use Rattle.wkb_clients.proofs.collections.ring_of_member.Goals as goal

pub returns-in_default-get : goal.returns-in_default-get
returns-in_default-get c =
    let members = c.in-GeometryCollection.members.now in
    λ ring h. no_member c.args.geometry.now members c.args.member h.spelled (polygon h.of_polygon h.rings)
    c.in-GeometryCollection.ensures.view (item_missing members c.args.member c.in_default-get.ensures.lookup.0)
    h.is_member

pub returns-in_default-as_type : goal.returns-in_default-as_type
returns-in_default-as_type c =
    let members = c.in-GeometryCollection.members.now in
    let l = c.in-Some.ensures.lookup in
    no_polygon c.args.geometry.now members c.args.member c.args.ring c.in-Some.found.now
    c.in-GeometryCollection.ensures.view (item_found members c.args.member _ l.0 l.1)
    (not_polygon c.in-Some.found.now c.as_type-2.result c.as_type-2.ensures.view c.in_default-as_type.not-Polygon)

pub returns : goal.returns
returns c =
    let members = c.in-GeometryCollection.members.now in
    let l = c.in-Some.ensures.lookup in
    ring_or_none c.args.geometry.now members c.args.member c.args.ring c.in-Polygon.polygon.now c.ring_at.result
    c.in-GeometryCollection.ensures.view
    (item_found members c.args.member _ l.0 l.1 ∙ ap Some (sym c.in-Polygon.ensures.view)) c.ring_at.ensures
