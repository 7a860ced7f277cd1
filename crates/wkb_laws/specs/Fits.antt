-- Coordinates that fit their dimensions: one that is lawful stays as it is, any other becomes the zero coordinate. So a
-- geometry of any value, also one that no input spells, is lawful.
use Rattle.std.proofs.Common.{◌≡◌, ℕ, ◌^◌, List, length, map, Bool, Option, nat_lt, ◌==◌, ◌&&◌, if◌then◌else◌}
use Rattle.std.specs.List.{list_all}
use Rattle.std.specs.Option.{option_map}
use Rattle.std.proofs.Math.ListN.{replicate}
use Rattle.wkb_laws.specs.Prelude.{Dimensions, size, as_dimensions, Coordinate}
use Rattle.wkb_geom.specs.Geometries.{point, line_string, multi_point, multi_line_string, multi_polygon, no_geometries}
use Rattle.wkb_geom.specs.Geometries.{Geometry, polygon, collection, line, rectangle, triangle, Geometries, geometry}
use Rattle.wkb_geom.specs.Sizes.{rings_size}
use Rattle.wkb_geom.specs.Stored.{Listed}

-- whether there are as many words as the dimensions say, each in range
abbrev pub fits : Dimensions → Coordinate → Bool
fits dims c = (length c == size dims) && list_all (λ w. nat_lt w (2 ^ 64)) c

unfoldable pub fitted : Dimensions → Coordinate → Coordinate
fitted dims c = if fits dims c then c else replicate (size dims) 0

-- each coordinate of a line string, of rings or line strings, of polygons, and of a point
abbrev pub fitted_line_string : Dimensions → List Coordinate → List Coordinate
fitted_line_string dims = map (fitted dims)

abbrev pub fitted_line_strings : Dimensions → List (List Coordinate) → List (List Coordinate)
fitted_line_strings dims = map (fitted_line_string dims)

-- the rings of a polygon, or the line strings of a multi line string, that fit its dimension
abbrev pub fitted_parts : Listed (List (List Coordinate)) → List (List Coordinate)
fitted_parts g = fitted_line_strings (as_dimensions g.dimension) g.parts

-- the bytes of their count and of the rings
abbrev pub fitted_rings_size : Listed (List (List Coordinate)) → ℕ
fitted_rings_size p = rings_size (as_dimensions p.dimension) (fitted_parts p)

-- the polygon of these rings
abbrev pub fitted_polygon : Listed (List (List Coordinate)) → Geometry
fitted_polygon p = polygon (as_dimensions p.dimension) (fitted_parts p)

abbrev pub fitted_polygons : Dimensions → List (List (List Coordinate)) → List (List (List Coordinate))
fitted_polygons dims = map (fitted_line_strings dims)

-- the polygons of a multi polygon that fit its dimension
abbrev pub fitted_members : Listed (List (List (List Coordinate))) → List (List (List Coordinate))
fitted_members g = fitted_polygons (as_dimensions g.dimension) g.parts

abbrev pub fitted_point : Dimensions → Option Coordinate → Option Coordinate
fitted_point dims o = option_map (fitted dims) o

-- every coordinate of a geometry, at the dimensions of its part
abbrev mutual
  pub fitted_geometry : Geometry → Geometry
  fitted_geometry (point dims c) = point dims (fitted_point dims c)
  fitted_geometry (line_string dims cs) = line_string dims (fitted_line_string dims cs)
  fitted_geometry (polygon dims rings) = polygon dims (fitted_line_strings dims rings)
  fitted_geometry (multi_point dims points) = multi_point dims (map (fitted_point dims) points)
  fitted_geometry (multi_line_string dims lines) = multi_line_string dims (fitted_line_strings dims lines)
  fitted_geometry (multi_polygon dims polygons) = multi_polygon dims (fitted_polygons dims polygons)
  fitted_geometry (collection dims gs) = collection dims (fitted_geometries gs)
  fitted_geometry (line dims start end) = line dims (fitted dims start) (fitted dims end)
  fitted_geometry (rectangle dims least greatest) = rectangle dims (fitted dims least) (fitted dims greatest)
  fitted_geometry (triangle dims first second third) =
      triangle dims (fitted dims first) (fitted dims second) (fitted dims third)

  pub fitted_geometries : Geometries → Geometries
  fitted_geometries no_geometries = no_geometries
  fitted_geometries (geometry g gs) = geometry (fitted_geometry g) (fitted_geometries gs)

-- ---- lemmas on fitting

-- y is lawful, and is a where a is lawful
pub record IsFitted {A : Type 0} (P : A → Type 0) (a y : A) : Type 0 where
  pub lawful : P y
  pub same : P a → y ≡ a

-- f fits every value to P
abbrev pub Fits : {A : Type 0} → (A → A) → (A → Type 0) → Type 0
Fits {A = A} f P = (a : A) → IsFitted P a (f a)
