-- The members of collections, as a caller of the geometry traits sees them.
use Rattle.wkb_read.specs.Prelude.{Value, Values, Coordinate, Listed, Geometry, geometries, geometry_of, geometries_of}
use Rattle.wkb_read.specs.Prelude.{IsGeometry, Item, values, Layout, as_dimensions}
use Rattle.wkb_read.proofs.Prelude.{◌≡◌, ℕ, List, [], ◌∷◌, map, refl, sym, ap, ◌∙◌, slice_get, Option, option_map, Bor}
use Rattle.wkb_read.proofs.Prelude.{length, geometry_seen, members_seen, parts_in, AreMembers, IsMemberAt, arith}
use Rattle.wkb_read.proofs.Places.{is_member_at}
use Rattle.std.proofs.lemmas.Bool.{ltb-true, ltb-false}
use Rattle.std.proofs.lemmas.List.{length-map}
use Rattle.std.proofs.lemmas.Option.{slice_get-map, slice_get_past, slice_get_read}
use Rattle.std.specs.Slice.{IsItemAt}
use Rattle.wkb_geom.specs.declared.geom.GeometryType.{GeometryType}
use Rattle.wkb_geom.specs.Geometries.{point}
use Rattle.wkb_geom.specs.Parts.{CollectionMeans}
use Rattle.wkb_laws.specs.Fits.{fitted_geometry, fitted_geometries}
use Rattle.wkb_view.specs.Views.{point_seen, point_dimension, seen_coordinate}
use Rattle.wkb_view.specs.Lawful.{fitted_geometry-same, point_item_lawful}
use Rattle.wkb_view.proofs.ViewLaws.{point_value}
use Rattle.wkb_view.specs.declared.{point.Point.Point, line_string.LineString.LineString}
use Rattle.wkb_view.specs.declared.multi_point.MultiPoint.{MultiPoint}
use Rattle.wkb_read.specs.Views.{IsViewOf}
use Rattle.wkb_geom.specs.Values as value

pub members_are : (ms : List Item) → map geometry_seen ms ≡ members_seen (values ms)
members_are [] = refl
members_are (m ∷ ms) = ap (λ (gs : List Geometry). geometry_seen m ∷ gs) (members_are ms)

-- what `get` finds is the item at this index
found_at : {A : Type 0} (xs : List A) (i : ℕ) (found : Option (Bor A)) → IsItemAt xs i found
    → option_map (λ b. b.now) found ≡ slice_get xs i
found_at xs i found h = grind (arith, slice_get_past, slice_get_read, ltb-false, ltb-true)

found_means : (found : Option (Bor Item))
    → option_map (λ g. geometry_seen g.now) found ≡ option_map geometry_seen (option_map (λ g. g.now) found)
found_means found = grind arith

-- the members of a collection mean what their values mean
pub members_mean : (whole : Listed Values) (found : List Item) (l : Layout) (members : List Item) (encoding : List ℕ)
    → parts_in l members encoding ≡ whole → found ≡ members → map geometry_seen found ≡ members_seen whole.parts
members_mean whole found l members encoding is same = rw (← is, same) (members_are members)

-- there are as many geometries as members that mean them
pub members_counted : (gs : List Geometry) (ms : List Item) (n : ℕ) → map geometry_seen ms ≡ gs → n ≡ length ms
    → n ≡ length gs
members_counted gs ms n means is = is ∙ sym (length-map ms geometry_seen) ∙ ap length means

-- what `get` finds in the members means what the member at this index means
pub member_means : (gs : List Geometry) (ms : List Item) (i : ℕ) (found : Option (Bor Item)) → map geometry_seen ms ≡ gs
    → IsItemAt ms i found → option_map (λ g. geometry_seen g.now) found ≡ slice_get gs i
member_means gs ms i found means is = grind (arith, slice_get-map, found_at, found_means)

-- what `get` finds in a collection's members is the collection's member of this number
pub member_is : (whole : Listed Values) (ms : List Item) (i : ℕ) (found : Option (Bor Item)) → AreMembers whole ms
    → IsItemAt ms i found → IsMemberAt whole i (option_map (λ g. g.now) found)
member_is whole ms i found are is = is_member_at whole ms i _ are (found_at ms i found is)

-- the members in one geometry
pub members_together : (vs : Values) → geometries (members_seen vs) ≡ fitted_geometries (geometries_of vs)
members_together value.no_members = refl
members_together (value.member v vs) = grind (arith, members_together vs)

-- a part that is lawful by its own law is what its value means
pub part_seen : (g : Geometry) (v : Value) → geometry_of v ≡ g → IsGeometry g → g ≡ fitted_geometry (geometry_of v)
part_seen g v e h = sym (fitted_geometry-same g h) ∙ ap fitted_geometry (sym e)

pub point_means : (p : Point)
    → point (as_dimensions (point_dimension p)) (seen_coordinate p) ≡ geometry_seen (point_seen p)
point_means p = grind (arith, part_seen, point_value, point_item_lawful)

-- ---- what a view that is the geometry's means is what the geometry means

pub collection_told : {R T N : Type 0} (w : Item)
    (part : GeometryType Point LineString (Listed (List (List Coordinate))) MultiPoint (Listed (List (List Coordinate)))
    (Listed (List (List (List Coordinate)))) Item R T N) → IsViewOf w part
    → CollectionMeans (as_dimensions (value.dimension w.value)) geometry_seen part (geometry_seen w)
collection_told w part e = grind (arith, members_are, members_seen, geometries, members_together)
