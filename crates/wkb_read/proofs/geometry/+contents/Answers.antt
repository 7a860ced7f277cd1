use Rattle.wkb_read.proofs.Prelude.{ℕ, ◌≤◌, ◌≡◌, ◌+◌, Some, sum_by, slice_get, sym, ap, ◌∙◌, arith}
use Rattle.wkb_read.proofs.Prelude.{coordinates_inside, parts_inside, sum_more}
use Rattle.std.proofs.lemmas.Option.{slice_get-get_or}
use Rattle.wkb_geom.specs.Counted.{coordinate_count_each}
use Rattle.wkb_geom.specs.Values.{member_count_each}
use Rattle.wkb_laws.proofs.Sums.{sum_all}
use Rattle.wkb_read.proofs.Sums.{collection_counted, coordinates_summed, members_summed}
use Rattle.wkb_read.proofs.geometry.+contents.Goals.{GeometryCollection::contents-After-contents-own}
use Rattle.wkb_read.proofs.geometry.+contents.Goals as goal

pub GeometryCollection::contents-overflow_add-coordinates : goal.GeometryCollection::contents-overflow_add-coordinates
GeometryCollection::contents-overflow_add-coordinates t c =
    let g = c.self.inside in
    let items = c.deref-member-items.result.now in
    let i = c.loop-member.member-index in
    let own = c.contents-own in
    let at : Some c.member-item.result ≡ slice_get items i =
    ap Some c.member-item.is ∙ sym (slice_get-get_or items i c.member-item.result c.loop-member-test.true) in
    let more =
    sum_more coordinates_inside items i c.loop-member.coordinates own.result.coordinates c.member-item.result at
    own.ensures.coordinates_are c.loop-member.invariant.coordinates_left in
    let within = collection_counted g.layout g.members.items g.buf.now c.self.invariant.0.1 in
    grind arith

-- the parts with those of one member more are fewer than the bytes
parts_fit : (t : ℕ) (c : GeometryCollection::contents-After-contents-own t)
    → c.loop-member.members + (1 + c.contents-own.result.members) ≤ c.size-size.result
parts_fit t c =
    let g = c.self.inside in
    let items = c.deref-member-items.result.now in
    let i = c.loop-member.member-index in
    let own = c.contents-own in
    let at : Some c.member-item.result ≡ slice_get items i =
    ap Some c.member-item.is ∙ sym (slice_get-get_or items i c.member-item.result c.loop-member-test.true) in
    let more =
    sum_more parts_inside items i c.loop-member.members (1 + own.result.members) c.member-item.result at
    (ap (λ n. 1 + n) own.ensures.members_are) c.loop-member.invariant.members_left in
    let within = collection_counted g.layout g.members.items g.buf.now c.self.invariant.0.1 in
    grind arith

pub GeometryCollection::contents-overflow_add-members-in-loop-member :
    goal.GeometryCollection::contents-overflow_add-members-in-loop-member
GeometryCollection::contents-overflow_add-members-in-loop-member t c =
    let p = goal.at.GeometryCollection::contents-overflow_add-members-in-loop-member t c in
    omega (arith, parts_fit t p.After-contents-own)

pub GeometryCollection::contents-overflow_add-members : goal.GeometryCollection::contents-overflow_add-members
GeometryCollection::contents-overflow_add-members t c =
    let p = goal.at.GeometryCollection::contents-overflow_add-members t c in
    omega (arith, parts_fit t p.After-contents-own)

pub GeometryCollection::contents-returns : goal.GeometryCollection::contents-returns
GeometryCollection::contents-returns t c =
    let ms = c.self.inside.members.items in
    let items = c.deref-member-items.result.now in
    let same = c.deref-member-items.ensures.value in
    let i = c.loop-member.member-index in
    record {
      coordinates_are =
          sum_all coordinates_inside items i _ (omega arith) c.loop-member.invariant.coordinates_left
          ∙ ap (sum_by coordinates_inside) same ∙ sym (coordinates_summed ms)
          ∙ ap (λ w. coordinate_count_each w.parts) c.self.view_is;
      members_are =
          sum_all parts_inside items i _ (omega arith) c.loop-member.invariant.members_left
          ∙ ap (sum_by parts_inside) same ∙ sym (members_summed ms)
          ∙ ap (λ w. member_count_each w.parts) c.self.view_is;
    }
