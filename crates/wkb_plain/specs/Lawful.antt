-- Lemmas, which the laws of the traits cite: each plain kind is lawful.
use Rattle.std.proofs.Common.{◌≡◌, ℕ, zero, suc, ◌*◌, ◌/◌, ◌≤◌, List, length, take, drop, All, arith, length-drop}
use Rattle.std.proofs.Common.{length-take, subst}
use Rattle.std.proofs.Math.Nat.{div-mul-le_self}
use Rattle.std.proofs.lemmas.List.Elements.{All-take, All-drop, recursion_from_All}
use Rattle.std.specs.List.{AllByRecursion}
use Rattle.wkb_geom.specs.Numbers.{IsWord}
use Rattle.wkb_geom.specs.declared.common.Dimensions.{Dimensions}
use Rattle.wkb_geom.specs.Dimensions.{size}
use Rattle.wkb_geom.specs.Geometries.{IsCoordinate, IsPoint, AreCoordinates}
use Rattle.wkb_geom.proofs.Lawful.{lawful_coordinate, lawful_point, each_part}
use Rattle.wkb_plain.specs.declared.{multi_line_string.MultiLineString.MultiLineString, triangle.Triangle.Triangle}
use Rattle.wkb_plain.specs.declared.{line_string.LineString.LineString, multi_polygon.MultiPolygon.MultiPolygon}
use Rattle.wkb_plain.specs.declared.{coord.Coord.Coord, multi_point.MultiPoint.MultiPoint, polygon.Polygon.Polygon}
use Rattle.wkb_plain.specs.declared.{line.Line.Line, point.Point.Point, rect.Rect.Rect}
use Rattle.wkb_plain.specs.Runs.{runs, coordinates_in}
use Rattle.wkb_plain.specs.Kinds.{coord_dimensions, coord_words, point_dimensions, point_coordinate}
use Rattle.wkb_plain.specs.Kinds.{line_string_dimensions, line_string_coordinates, polygon_dimensions, polygon_rings}
use Rattle.wkb_plain.specs.Kinds.{multi_point_dimensions, multi_point_points, multi_line_string_dimensions}
use Rattle.wkb_plain.specs.Kinds.{multi_line_string_line_strings, multi_polygon_dimensions, multi_polygon_polygons}
use Rattle.wkb_plain.specs.Kinds.{line_dimensions, line_start, line_end, rect_dimensions, rect_min, rect_max}
use Rattle.wkb_plain.specs.Kinds.{triangle_dimensions, triangle_first, triangle_second, triangle_third}

runs-lawful : (d : Dimensions) (count : ℕ) (words : List ℕ) → count * size d ≤ length words → All IsWord words
    → AreCoordinates d (runs (size d) count words)
runs-lawful d zero words h fit = tt
runs-lawful d (suc count) words h fit = (
  record {
    len = simp length-take (omega arith);
    words = recursion_from_All IsWord (take (size d) words) (All-take IsWord (size d) words fit);
  },
  runs-lawful d count (drop (size d) words) (simp length-drop (omega arith)) (All-drop IsWord (size d) words fit),
)

-- each of the coordinates in some words is as long as the dimension says
pub coordinates_in-lawful : (d : Dimensions) (words : List ℕ) → All IsWord words
    → AreCoordinates d (coordinates_in d words)
coordinates_in-lawful d words fit =
    runs-lawful d (length words / size d) words (div-mul-le_self (length words) (size d)) fit

-- a coordinate has as many words as its dimension says, each in range
pub coord_lawful : (c : Coord) → IsCoordinate (coord_dimensions c) (coord_words c)
coord_lawful c = lawful_coordinate c.dim c.words.now c.as_many_words c.in_range

-- a coordinate beside another one of these dimensions has them, too
coord_lawful_beside : (d : Dimensions) (c : Coord) → coord_dimensions c ≡ d → IsCoordinate d (coord_words c)
coord_lawful_beside d c is = subst (λ e. IsCoordinate e (coord_words c)) is (coord_lawful c)

-- a point is empty, or has a coordinate of its dimension
pub point_lawful : (p : Point) → IsPoint (point_dimensions p) (point_coordinate p)
point_lawful p = lawful_point coord_words coord_dimensions p.dim p.coord coord_lawful p.one_dimension

-- each coordinate of a line string is of its dimension
pub line_string_lawful : (l : LineString) → AreCoordinates (line_string_dimensions l) (line_string_coordinates l)
line_string_lawful l = coordinates_in-lawful l.dim l.words.now l.in_range

-- each ring of a polygon is of its dimension
pub polygon_lawful : (p : Polygon) → AllByRecursion (AreCoordinates (polygon_dimensions p)) (polygon_rings p)
polygon_lawful p =
    each_part line_string_coordinates line_string_dimensions p.dim AreCoordinates p.rings.now line_string_lawful
    p.one_dimension

-- each point of a multi point is of its dimension
pub multi_point_lawful : (m : MultiPoint) → AllByRecursion (IsPoint (multi_point_dimensions m)) (multi_point_points m)
multi_point_lawful m =
    each_part point_coordinate point_dimensions m.dim IsPoint m.points.now point_lawful m.one_dimension

-- each line string of a multi line string is of its dimension
pub multi_line_string_lawful : (m : MultiLineString)
    → AllByRecursion (AreCoordinates (multi_line_string_dimensions m)) (multi_line_string_line_strings m)
multi_line_string_lawful m =
    each_part line_string_coordinates line_string_dimensions m.dim AreCoordinates m.line_strings.now line_string_lawful
    m.one_dimension

-- each polygon of a multi polygon is of its dimension
pub multi_polygon_lawful : (m : MultiPolygon)
    → AllByRecursion (AllByRecursion (AreCoordinates (multi_polygon_dimensions m))) (multi_polygon_polygons m)
multi_polygon_lawful m =
    each_part polygon_rings polygon_dimensions m.dim
    (λ d rings. AllByRecursion (AreCoordinates d) rings) m.polygons.now polygon_lawful m.one_dimension

-- both ends of a line are of its dimension
pub line_lawful : (l : Line)
    → IsCoordinate (line_dimensions l) (line_start l) × IsCoordinate (line_dimensions l) (line_end l)
line_lawful l = ((coord_lawful l.start), coord_lawful_beside l.start.dim l.end l.one_dimension)

-- both corners of a rectangle are of its dimension
pub rect_lawful : (r : Rect)
    → IsCoordinate (rect_dimensions r) (rect_min r) × IsCoordinate (rect_dimensions r) (rect_max r)
rect_lawful r = ((coord_lawful r.min), coord_lawful_beside r.min.dim r.max r.one_dimension)

-- the three corners of a triangle are of its dimension
pub triangle_lawful : (t : Triangle) → IsCoordinate (triangle_dimensions t) (triangle_first t)
    × IsCoordinate (triangle_dimensions t) (triangle_second t) × IsCoordinate (triangle_dimensions t) (triangle_third t)
triangle_lawful t = (
  lawful_coordinate t.dim t.first.now t.first_fits.0 t.first_fits.1,
  lawful_coordinate t.dim t.second.now t.second_fits.0 t.second_fits.1,
  lawful_coordinate t.dim t.third.now t.third_fits.0 t.third_fits.1,
)
