use Rattle.std.proofs.Common.{◌≡◌, ◌∙◌, Some, sym, ap, refl, arith, false}
use Rattle.wkb_geom.specs.declared.{code.WkbType.TheVariants.Polygon, common.Dimension.Dimension}
use Rattle.wkb_geom.specs.declared.common.Dimension.TheVariants as dimensions
use Rattle.wkb_geom.specs.Codes.{ewkb_code}
use Rattle.wkb_geom.specs.Reading.{meaning}
use Rattle.wkb_geom.proofs.Heads.{head_meant, iso_meant}
use Rattle.wkb_view.proofs.multi_polygon.order_of_plain.Goals.{else-code-iso_code-via-then-code-iso_code+else-not-has_flags}
use Rattle.wkb_view.proofs.multi_polygon.order_of_plain.Goals.{else-code-iso_code-via-else-code-iso_code}
use Rattle.wkb_view.proofs.multi_polygon.order_of_plain.Goals as goal
unfoldable use Rattle.wkb_geom.specs.Reading.{meaning_of}

-- what EWKB writes of a polygon without an SRID is read as that
ewkb_meant : (d : Dimension) → meaning_of (ewkb_code 3 d false) ≡ Some (meaning (Polygon d) false)
unfolding meaning_of
ewkb_meant dimensions.Xy = refl
ewkb_meant dimensions.Xyz = refl
ewkb_meant dimensions.Xym = refl
ewkb_meant dimensions.Xyzm = refl

pub returns : goal.returns
returns c =
    let d = c.args.dimension in
    let meant : meaning_of c.u32_at-code.result ≡ Some (meaning (Polygon d) false) =
    elim c.else-code-iso_code.branch [
      | else-code-iso_code-via-then-code-iso_code+else-not-has_flags w ↦
          ap meaning_of (w.has_flags.ensures.has (grind (arith, w.if-not-has_flags.false))) ∙ ewkb_meant d
      | else-code-iso_code-via-else-code-iso_code w ↦
          ap meaning_of (w.if-code-iso_code.false ∙ c.iso_code.ensures) ∙ iso_meant (Polygon d)
    ] in
    let head =
    head_meant c.args.bytes.now c.in_ok-order.order c.u32_at-code.result (Polygon d) false
    (omega (arith, c.if-bytes-lt-MEMBER_HEADER_SIZE.false)) (sym c.of_byte.ensures ∙ c.in_ok-order.was)
    c.u32_at-code.ensures meant in
    grind arith
