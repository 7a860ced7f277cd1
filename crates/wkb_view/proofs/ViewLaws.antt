-- The views of what was read are lawful, and show what their values mean. Laws of the traits cite these, and users.
use Rattle.wkb_laws.proofs.ReadIsLawful.{coordinate_lawful, ring_lawful, line_string_item_lawful, point_item_lawful}
use Rattle.wkb_laws.proofs.ReadIsLawful.{point_item_value}
use Rattle.wkb_laws.proofs.Fitted.{line_strings_fit, polygons_fit, IsGeometry-fitted, fitted_geometry-same}
use Rattle.wkb_view.specs.Lawful.{multi_point_item_lawful}
use Rattle.std.proofs.Common.{◌≡◌, ℕ, List, [], ◌∷◌, map, ◌<◌, ◌≤◌, Some, sym, ap, ◌∙◌, slice_get}
use Rattle.std.proofs.Common.{slice_index, arith, length, None, true, Bool, if◌then◌else◌}
use Rattle.std.specs.List.{AllByRecursion}
use Rattle.wkb_geom.specs.Geometries.{IsPoint, IsCoordinate, AreCoordinates, geometries, geometry_of, IsGeometry}
use Rattle.wkb_geom.specs.Geometries.{AreGeometries, dimensions_of, normal_point}
use Rattle.wkb_view.specs.Prelude.{Dimension, as_dimensions, point_of, size, Coordinate, Listed, Item, all_nan}
use Rattle.wkb_view.specs.declared.point.Point.{Point}
use Rattle.wkb_view.specs.Views.{point_seen, point_dimension, seen_coordinate, seen_coordinates, line_string_dimension}
use Rattle.wkb_view.specs.Views.{seen_points, multi_point_dimension}
use Rattle.std.proofs.lemmas.Option.{slice_get-get_or}
use Rattle.wkb_geom.specs.declared.common.Dimensions.{Dimensions}
use Rattle.wkb_view.specs.declared.coord.Coord.{Coord}
use Rattle.wkb_view.specs.declared.linear_ring.LinearRing.{LinearRing}
use Rattle.wkb_view.specs.declared.line_string.LineString.{LineString}
use Rattle.wkb_view.specs.declared.multi_point.MultiPoint.{MultiPoint}
use Rattle.wkb_view.specs.Coords.{words_seen, coord_dimension, ring_seen, ring_dimension}
use Rattle.wkb_laws.specs.Fits.{fitted_parts, fitted_members, fitted_geometry, fitted_line_string, fitted_line_strings}
use Rattle.wkb_geom.specs.Values.{Value, Values, point}
use Rattle.wkb_geom.specs.Values as value
use Rattle.wkb_view.specs.Lends.{geometry_seen, members_seen}
use Rattle.std.proofs.lemmas.List.{length-map}

-- a point's value is that of its coordinate, if it has one
pub point_value : (p : Point) → (point_seen p).value ≡ value.point (point_dimension p) (point_of (point_seen p).value)
point_value p = point_item_value p.layout p.buf.now

-- A coordinate that was read has as many words as its dimension, each of 64 bits.
pub coord_view_lawful : (c : Coord) → IsCoordinate (as_dimensions (coord_dimension c)) (words_seen c)
coord_view_lawful c = coordinate_lawful c.order c.dimension c.bytes.now c.in_range

-- Each coordinate of a ring that was read has as many words as the ring's dimension, each of 64 bits.
pub ring_view_lawful : (r : LinearRing) → AreCoordinates (as_dimensions (ring_dimension r)) (ring_seen r)
ring_view_lawful r = ring_lawful r.order r.dimension r.bytes.now r.in_range

-- The coordinate of a point that was read, where it has one.
pub point_view_lawful : (p : Point) → IsPoint (as_dimensions (point_dimension p)) (seen_coordinate p)
point_view_lawful p = point_item_lawful p.layout p.buf.now p.in_range

-- Each coordinate of a line string that was read.
pub line_string_view_lawful : (l : LineString)
    → AreCoordinates (as_dimensions (line_string_dimension l)) (seen_coordinates l)
line_string_view_lawful l = line_string_item_lawful l.layout l.buf.now l.in_range

-- Each point of a multi point that was read.
pub multi_point_view_lawful : (m : MultiPoint)
    → AllByRecursion (IsPoint (as_dimensions (multi_point_dimension m))) (seen_points m)
multi_point_view_lawful m = multi_point_item_lawful m.layout m.count m.buf.now m.in_range

-- Each ring of a polygon that was read, and each line string of a multi line string.
pub parts_view_lawful : (g : Listed (List (List Coordinate)))
    → AllByRecursion (AreCoordinates (as_dimensions g.dimension)) (fitted_parts g)
parts_view_lawful g = (line_strings_fit (as_dimensions g.dimension) g.parts).lawful

-- Each polygon of a multi polygon that was read.
pub members_view_lawful : (g : Listed (List (List (List Coordinate))))
    → AllByRecursion (AllByRecursion (AreCoordinates (as_dimensions g.dimension))) (fitted_members g)
members_view_lawful g = (polygons_fit (as_dimensions g.dimension) g.parts).lawful

-- ---- the words of a lawful coordinate

-- The word that `at` returns is there.
pub word_is_there : (dims : Dimensions) (c : Coordinate) (n w : ℕ) → IsCoordinate dims c → n < size dims
    → w ≡ slice_index c n → slice_get c n ≡ Some w
word_is_there dims c n w lawful inside is = grind (arith, slice_get-get_or)

-- A coordinate of any dimension has an x and a y.
pub has_two : (d : Dimension) → 2 ≤ size (as_dimensions d)
has_two d = grind arith

-- The word that `x` of a coordinate that was read returns is there.
pub x_is_there : (c : Coord) (w : ℕ) → w ≡ slice_index (words_seen c) 0 → slice_get (words_seen c) 0 ≡ Some w
x_is_there c w is = grind arith

-- The word that `y` of a coordinate that was read returns is there.
pub y_is_there : (c : Coord) (w : ℕ) → w ≡ slice_index (words_seen c) 1 → slice_get (words_seen c) 1 ≡ Some w
y_is_there c w is = grind arith

-- ---- what views count, and points that are read

-- A polygon has as many rings, and a multi line string as many line strings, as its value.
pub parts_counted : (g : Listed (List (List Coordinate))) → length (fitted_parts g) ≡ length g.parts
parts_counted g = length-map g.parts (fitted_line_string (as_dimensions g.dimension))

-- A multi polygon has as many polygons as its value.
pub members_counted : (g : Listed (List (List (List Coordinate)))) → length (fitted_members g) ≡ length g.parts
members_counted g = length-map g.parts (fitted_line_strings (as_dimensions g.dimension))

empty_by : (b : Bool) (words : Coordinate) → None ≡ (if b then None else Some words) → b ≡ true
empty_by b words h = grind arith

words_by : (b : Bool) (words read : Coordinate) → Some read ≡ (if b then None else Some words) → read ≡ words
words_by b words read h = grind arith

-- A point that is read as the empty one was written with NaNs alone.
pub empty_point_read : (d : Dimension) (words : Coordinate) (t : Value) → point d (normal_point (Some words)) ≡ t
    → None ≡ point_of t → all_nan words ≡ true
empty_point_read d words t same none = empty_by (all_nan words) words (none ∙ ap point_of (sym same))

-- A point that is read with words was written with these.
pub point_read : (d : Dimension) (words read : Coordinate) (t : Value) → point d (normal_point (Some words)) ≡ t
    → Some read ≡ point_of t → read ≡ words
point_read d words read t same some = words_by (all_nan words) words read (some ∙ ap point_of (sym same))

-- ---- what the traits show

-- what a geometry means is lawful
pub geometry_lawful : (w : Item) → IsGeometry (geometry_seen w)
geometry_lawful w = IsGeometry-fitted (geometry_of w.value)

-- what the members mean is lawful
pub members_lawful : (vs : Values) → AreGeometries (geometries (members_seen vs))
members_lawful value.no_members = tt
members_lawful (value.member v vs) = (IsGeometry-fitted (geometry_of v), members_lawful vs)

dimension_kept : (v : Value) → dimensions_of (fitted_geometry (geometry_of v)) ≡ as_dimensions (value.dimension v)
dimension_kept v = grind arith

-- what a geometry means has the dimensions of its value
pub one_dimension_seen : (w : Item) → dimensions_of (geometry_seen w) ≡ as_dimensions (value.dimension w.value)
one_dimension_seen w = dimension_kept w.value

-- a geometry whose value is lawful means what its value means
pub seen_as_it_is : (w : Item) → IsGeometry (geometry_of w.value) → geometry_seen w ≡ geometry_of w.value
seen_as_it_is w h = fitted_geometry-same (geometry_of w.value) h

-- Geometries that were read are lawful members of a collection.
pub items_lawful : (ws : List Item) → AreGeometries (geometries (map geometry_seen ws))
items_lawful [] = tt
items_lawful (w ∷ ws) = (geometry_lawful w, items_lawful ws)
