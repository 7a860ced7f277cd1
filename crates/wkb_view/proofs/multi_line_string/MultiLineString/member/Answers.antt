use Rattle.wkb_view.proofs.Prelude.{◌∙◌, Some, ap, arith, Item, member_dimension}
use Rattle.wkb_view.specs.Prelude.{line_string_of}
use Rattle.wkb_view.proofs.Leaves.{member_seen}
use Rattle.wkb_view.proofs.Members.{member_encoding, members_seen, spelling_seen}
use Rattle.wkb_view.proofs.multi_line_string.MultiLineString.member.Goals as goal

pub of_encoding-requires : goal.of_encoding-requires
of_encoding-requires c =
    let p = c.self.inside in
    grind (arith, member_encoding 2 p.layout p.ends.items p.buf.now c.args.i)

pub returns : goal.returns
returns c =
    let p = c.self.inside in
    let known = c.of_known_member-layout.ensures in
    let part = rw (c.header_length.ensures, c.deref.ensures.value) at c.in_ok-buf.ensures.part in
    let item = c.of_encoding.ensures.item ∙ member_seen 2 p.layout.dimension _ _ known in
    rw (← c.self.view_is) (record {
      value = ap (λ (m : Item). Some (line_string_of m.value)) item
          ∙ members_seen 2 p.layout p.ends.items p.buf.now c.args.i (λ m. line_string_of m.value) _ part;
      dimension = grind (arith, member_dimension);
      spelled = ap (λ (m : Item). Some m.spelled) item
          ∙ spelling_seen 2 p.layout p.ends.items p.buf.now c.args.i _ part;
    })

pub returns-in_err-buf : goal.returns-in_err-buf
returns-in_err-buf c =
    let p = c.self.inside in
    let past = rw (c.header_length.ensures, c.deref.ensures.value) at c.in_err-buf.ensures.part in
    rw (c.from_residual.ensures, ← c.self.view_is) (record {
      value = members_seen 2 p.layout p.ends.items p.buf.now c.args.i (λ m. line_string_of m.value) _ past;
      dimension = tt;
      spelled = spelling_seen 2 p.layout p.ends.items p.buf.now c.args.i _ past;
    })
