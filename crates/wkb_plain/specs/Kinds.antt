-- What each plain kind but the collection shows: its dimensions and its words.
use Rattle.std.specs.Prelude.{◌≡◌, ℕ, ◌<◌, List, All, map, Option, IfSome}
use Rattle.std.specs.Option.{option_map}
use Rattle.wkb_plain.specs.declared.{multi_line_string.MultiLineString.MultiLineString, triangle.Triangle.Triangle}
use Rattle.wkb_plain.specs.declared.{line_string.LineString.LineString, multi_polygon.MultiPolygon.MultiPolygon}
use Rattle.wkb_plain.specs.declared.{coord.Coord.Coord, multi_point.MultiPoint.MultiPoint, polygon.Polygon.Polygon}
use Rattle.wkb_plain.specs.declared.{line.Line.Line, point.Point.Point, rect.Rect.Rect}
use Rattle.wkb_geom.specs.declared.common.Dimensions.{Dimensions}
use Rattle.wkb_geom.specs.Dimensions.{size}
use Rattle.wkb_plain.specs.Runs.{coordinates_in}

-- all parts have these dimensions, which have words
abbrev pub ArePartsFor : {A : Type 0} → (A → Dimensions) → Dimensions → List A → Type 0
ArePartsFor dimensions dims parts = (0 < size dims) × All (λ a. dimensions a ≡ dims) parts

-- a geometry that is there has these parts, in order, by what each shows
abbrev pub ShowsParts : {A B C : Type 0} → (A → List C) → Option A → (B → C) → List B → Type 0
ShowsParts parts found shown list = IfSome found (λ a. parts a ≡ map shown list)

-- a coordinate
abbrev pub coord_dimensions : Coord → Dimensions
coord_dimensions c = c.dim

abbrev pub coord_words : Coord → List ℕ
coord_words c = c.words.now

-- three corners have the dimensions of the first
abbrev pub HaveOneDimension : Coord → Coord → Coord → Type 0
HaveOneDimension first second third =
    (coord_dimensions second ≡ coord_dimensions first) × (coord_dimensions third ≡ coord_dimensions first)

-- a point; an empty one has no coordinate
abbrev pub point_dimensions : Point → Dimensions
point_dimensions p = p.dim

abbrev pub point_coordinate : Point → Option (List ℕ)
point_coordinate p = option_map coord_words p.coord

-- a line string
abbrev pub line_string_dimensions : LineString → Dimensions
line_string_dimensions l = l.dim

abbrev pub line_string_coordinates : LineString → List (List ℕ)
line_string_coordinates l = coordinates_in l.dim l.words.now

-- a polygon; its first ring is the exterior
abbrev pub polygon_dimensions : Polygon → Dimensions
polygon_dimensions p = p.dim

abbrev pub polygon_rings : Polygon → List (List (List ℕ))
polygon_rings p = map line_string_coordinates p.rings.now

-- points of one dimension
abbrev pub multi_point_dimensions : MultiPoint → Dimensions
multi_point_dimensions m = m.dim

abbrev pub multi_point_points : MultiPoint → List (Option (List ℕ))
multi_point_points m = map point_coordinate m.points.now

-- line strings of one dimension
abbrev pub multi_line_string_dimensions : MultiLineString → Dimensions
multi_line_string_dimensions m = m.dim

abbrev pub multi_line_string_line_strings : MultiLineString → List (List (List ℕ))
multi_line_string_line_strings m = map line_string_coordinates m.line_strings.now

-- polygons of one dimension
abbrev pub multi_polygon_dimensions : MultiPolygon → Dimensions
multi_polygon_dimensions m = m.dim

abbrev pub multi_polygon_polygons : MultiPolygon → List (List (List (List ℕ)))
multi_polygon_polygons m = map polygon_rings m.polygons.now

-- a line
abbrev pub line_dimensions : Line → Dimensions
line_dimensions l = l.start.dim

abbrev pub line_start : Line → List ℕ
line_start l = coord_words l.start

abbrev pub line_end : Line → List ℕ
line_end l = coord_words l.end

-- a rectangle
abbrev pub rect_dimensions : Rect → Dimensions
rect_dimensions r = r.min.dim

abbrev pub rect_min : Rect → List ℕ
rect_min r = coord_words r.min

abbrev pub rect_max : Rect → List ℕ
rect_max r = coord_words r.max

-- a triangle
abbrev pub triangle_dimensions : Triangle → Dimensions
triangle_dimensions t = t.dim

abbrev pub triangle_first : Triangle → List ℕ
triangle_first t = t.first.now

abbrev pub triangle_second : Triangle → List ℕ
triangle_second t = t.second.now

abbrev pub triangle_third : Triangle → List ℕ
triangle_third t = t.third.now
