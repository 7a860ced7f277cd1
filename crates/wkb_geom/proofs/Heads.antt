-- The header of a geometry from the parts that it was read by.
use Rattle.std.proofs.Common.{◌≡◌, ℕ, ◌≤◌, List, length, drop, Some, Ok, Bool, false, slice_index_or}
use Rattle.std.proofs.Common.{refl, arith, le-ltb}
use Rattle.std.proofs.lemmas.Bool.{cond-false}
use Rattle.wkb_geom.specs.declared.{code.WkbType.WkbType, common.Endianness.Endianness, common.Dimension.Dimension}
use Rattle.wkb_geom.specs.declared.code.WkbType.TheVariants as kinds
use Rattle.wkb_geom.specs.declared.common.Dimension.TheVariants as dimensions
use Rattle.wkb_geom.specs.Numbers.{number}
use Rattle.wkb_geom.specs.Codes.{iso_code}
use Rattle.wkb_geom.specs.Reading.{order_of_byte, meaning, type_kind, type_dimension, type_of}
use Rattle.wkb_geom.proofs.Meanings.{type_kind-type_of}
unfoldable use Rattle.wkb_geom.specs.Reading.{head_at, meaning_of}

pub head_meant : (bytes : List ℕ) (order : Endianness) (code : ℕ) (t : WkbType) (srid : Bool) → 5 ≤ length bytes
    → order_of_byte (slice_index_or bytes 0 0) ≡ Some order → code ≡ number order 4 (drop 1 bytes)
    → meaning_of code ≡ Some (meaning t srid)
    → head_at bytes ≡ Ok (record { order = order; wkb_type = t; has_srid = srid })
unfolding head_at
head_meant bytes order code t srid long said is meant = grind (arith, cond-false, le-ltb)

-- what ISO writes of a type is read as that type
pub iso_meant : (t : WkbType) → meaning_of (iso_code (type_kind t) (type_dimension t)) ≡ Some (meaning t false)
unfolding meaning_of
iso_meant (kinds.Point dimensions.Xy) = refl
iso_meant (kinds.Point _) = refl
iso_meant (kinds.LineString dimensions.Xy) = refl
iso_meant (kinds.LineString _) = refl
iso_meant (kinds.Polygon dimensions.Xy) = refl
iso_meant (kinds.Polygon _) = refl
iso_meant (kinds.MultiPoint dimensions.Xy) = refl
iso_meant (kinds.MultiPoint _) = refl
iso_meant (kinds.MultiLineString dimensions.Xy) = refl
iso_meant (kinds.MultiLineString _) = refl
iso_meant (kinds.MultiPolygon dimensions.Xy) = refl
iso_meant (kinds.MultiPolygon _) = refl
iso_meant (kinds.GeometryCollection dimensions.Xy) = refl
iso_meant (kinds.GeometryCollection _) = refl

-- and so is what ISO writes of this kind and dimension
pub kind_meant : (c k : ℕ) (d : Dimension) (t : WkbType) → t ≡ type_of k d → c ≡ iso_code k d → 1 ≤ k → k ≤ 7
    → meaning_of c ≡ Some (meaning t false)
kind_meant c k d t is code low high =
    let same = type_kind-type_of k d low high in
    let meant = iso_meant (type_of k d) in
    rw (code, is) (rw (same.0, same.1) at meant)
