use Rattle.wkb_abi.proofs.Common.{ap, ◌∙◌, arith, Option, ℕ, is_some, unwrap_or, order_byte, width, here}
use mir.Val.{bool_byte as from_bool}
use Rattle.wkb_geom.specs.Codes.{thousands}
use Rattle.wkb_abi.proofs.Telling.{first_piece}
use Rattle.wkb_abi.proofs.found.found_of.Goals as goal

pub returns : goal.returns
returns c =
    let d = c.requires in
    let p = first_piece d.spelled d.value (c.outermost-piece.ensures (here d)) in
    record {
      s = d.spelled;
      t = d.value;
      rest = d.rest;
      front = d.front;
      size_is = d.described.bytes_are;
      parts_are = omega (arith, d.described.parts);
      coordinates_are = d.described.coordinates;
      offset_is = p.1.0;
      count_is = p.1.1;
      kind_is = p.0.kind_is;
      dimension_is = c.thousands.ensures ∙ ap thousands p.0.dimension_is;
      width_is = c.width_number.ensures ∙ ap width p.0.dimension_is;
      has_srid_is = c.from.ensures ∙ ap from_bool (c.is_some.ensures ∙ ap is_some p.0.srid_is);
      srid_is = c.unwrap_or.ensures ∙ ap (λ (o : Option ℕ). unwrap_or o 0) p.0.srid_is;
      order_is = c.from-3.ensures ∙ c.from-2.ensures ∙ ap order_byte p.0.order_is;
    }
