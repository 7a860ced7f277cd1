use Rattle.wkb_view.proofs.Prelude.{◌∙◌, Some, None, ap, arith, Item, point_of, point_ends, member_dimension}
use Rattle.std.proofs.Math.Logic.{∥∥₁_elim}
use Rattle.std.proofs.Props.{props}
use Rattle.wkb_view.proofs.Items.{point_encoding_is}
use Rattle.wkb_view.proofs.Leaves.{member_seen}
use Rattle.wkb_view.proofs.Members.{member_encoding, member_there, members_seen, spelling_seen, point_encoding}
use Rattle.wkb_view.proofs.Members.{point_past}
use Rattle.wkb_view.proofs.multi_point.MultiPointMultiPointTrait.point.Goals as goal

pub returns-then-i-self : goal.returns-then-i-self
returns-then-i-self c =
    let m = c.args.self.now in
    let ends = point_ends m.layout m.count in
    let past = point_past m.layout m.count c.args.i m.buf.now c.if-i-self.true in
    record {
      value = members_seen 1 m.layout ends m.buf.now c.args.i (λ p. point_of p.value) None past;
      dimension = tt;
      spelled = spelling_seen 1 m.layout ends m.buf.now c.args.i None past;
      bytes = tt;
    }

pub of_known_member-layout-requires : goal.of_known_member-layout-requires
of_known_member-layout-requires c =
    let m = c.args.self.now in
    let encoding =
    point_encoding m.layout m.count c.args.i m.buf.now _ _ c.if-i-self.false c.point_offset-start.ensures
    (rw c.coordinate_size-member.ensures at c.subslice-buf.ensures) in
    ∥∥₁_elim m.each (hlevel props)
    (λ each. member_there 1 m.layout (point_ends m.layout m.count) m.buf.now c.args.i _ each encoding)

pub of_encoding-requires : goal.of_encoding-requires
of_encoding-requires c =
    let m = c.args.self.now in
    let known = c.of_known_member-layout.ensures in
    let encoding =
    point_encoding m.layout m.count c.args.i m.buf.now _ _ c.if-i-self.false c.point_offset-start.ensures
    (rw c.coordinate_size-member.ensures at c.subslice-buf.ensures) in
    ∥∥₁_elim m.each (hlevel props)
    (λ each. member_encoding 1 m.layout (point_ends m.layout m.count) m.buf.now c.args.i _ _ each encoding known)

pub returns : goal.returns
returns c =
    let m = c.args.self.now in
    let ends = point_ends m.layout m.count in
    let known = c.of_known_member-layout.ensures in
    let bytes = rw c.coordinate_size-member.ensures at c.subslice-buf.ensures in
    let encoding =
    point_encoding m.layout m.count c.args.i m.buf.now _ _ c.if-i-self.false c.point_offset-start.ensures bytes in
    let item = c.of_encoding.ensures.item ∙ member_seen 1 m.layout.dimension _ _ known in
    record {
      value = ap (λ (p : Item). Some (point_of p.value)) item
          ∙ members_seen 1 m.layout ends m.buf.now c.args.i (λ p. point_of p.value) _ encoding;
      dimension = grind (arith, member_dimension);
      spelled = ap (λ (p : Item). Some p.spelled) item
          ∙ spelling_seen 1 m.layout ends m.buf.now c.args.i _ encoding;
      bytes = grind (arith, point_encoding_is);
    }
