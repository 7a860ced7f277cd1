-- What a row means, and what the levels of a row mean.
use Rattle.std.specs.Prelude.{◌≡◌, ℕ, List, map, Option, Some, None, MatchOption, option_and_then}
use Rattle.std.specs.Option.{option_map}
use Rattle.wkb_geom.specs.declared.common.Dimensions.{Dimensions}
use Rattle.wkb_geom.specs.Geometries.{Geometry, point, line_string, polygon, multi_point, multi_line_string}
use Rattle.wkb_geom.specs.Geometries.{multi_polygon}
use Rattle.wkb_plain.specs.Kinds.{point_dimensions, point_coordinate, line_string_dimensions, line_string_coordinates}
use Rattle.wkb_levels.specs.declared.{polygons.Polygons.Polygons, rings.Rings.Rings, single.Single.Single, row.Row.Row}
use Rattle.wkb_levels.specs.declared.{row.Kind.Kind, levels.Levels.Levels}
use Rattle.wkb_levels.specs.declared.single.Single.TheVariants as singles
use Rattle.wkb_levels.specs.declared.row.Row.TheVariants as rows
use Rattle.wkb_levels.specs.declared.row.Kind.TheVariants as kinds
use Rattle.wkb_levels.specs.Columns.{AreRowLevels, IsClear, singles_of}
use Rattle.wkb_levels.specs.Cuts.{only, only_each}
use Rattle.wkb_levels.specs.RingLists.{rings_dimensions, rings_rings}
use Rattle.wkb_levels.specs.PointLists.{points_dimensions, points_points}
use Rattle.wkb_levels.specs.PolygonLists.{polygons_dimensions, polygons_polygons}

-- ---- a row

abbrev pub single_dimensions : Single → Dimensions
single_dimensions (singles.Point p) = point_dimensions p
single_dimensions (singles.LineString l) = line_string_dimensions l
single_dimensions (singles.Polygon p) = rings_dimensions p
single_dimensions (singles.MultiPoint m) = points_dimensions m
single_dimensions (singles.MultiLineString m) = rings_dimensions m

abbrev pub single_meant : Single → Geometry
single_meant (singles.Point p) = point (point_dimensions p) (point_coordinate p)
single_meant (singles.LineString l) = line_string (line_string_dimensions l) (line_string_coordinates l)
single_meant (singles.Polygon p) = polygon (rings_dimensions p) (rings_rings p)
single_meant (singles.MultiPoint m) = multi_point (points_dimensions m) (points_points m)
single_meant (singles.MultiLineString m) = multi_line_string (rings_dimensions m) (rings_rings m)

abbrev pub row_meant : Row → Geometry
row_meant (rows.Single s) = single_meant s
row_meant (rows.MultiPolygon p) = multi_polygon (polygons_dimensions p) (polygons_polygons p)

-- ---- what singles mean as a geometry of a kind

-- rings, each of a single of its own, as a geometry of this kind, if they fit it: a point or a line string is one ring,
-- and a point's ring has one coordinate
abbrev pub rings_meant : Kind → Dimensions → List (List (List ℕ)) → Option Geometry
rings_meant kinds.Point d rings =
    option_and_then (λ ring. option_map (λ c. point d (Some c)) (only ring)) (only rings)
rings_meant kinds.LineString d rings = option_map (λ ring. line_string d ring) (only rings)
rings_meant kinds.Polygon d rings = None
rings_meant kinds.MultiPoint d rings = option_map (λ cs. multi_point d (map (λ c. Some c) cs)) (only_each rings)
rings_meant kinds.MultiLineString d rings = Some (multi_line_string d rings)
rings_meant kinds.MultiPolygon d rings = None

-- the rings of each single as a geometry of this kind, if they fit it: a polygon is one single, and a single that is no
-- polygon has one ring
abbrev pub kind_meant : Kind → Dimensions → List (List (List (List ℕ))) → Option Geometry
kind_meant kinds.Point d s = option_and_then (rings_meant kinds.Point d) (only_each s)
kind_meant kinds.LineString d s = option_and_then (rings_meant kinds.LineString d) (only_each s)
kind_meant kinds.Polygon d s = option_map (λ rings. polygon d rings) (only s)
kind_meant kinds.MultiPoint d s = option_and_then (rings_meant kinds.MultiPoint d) (only_each s)
kind_meant kinds.MultiLineString d s = option_and_then (rings_meant kinds.MultiLineString d) (only_each s)
kind_meant kinds.MultiPolygon d s = Some (multi_polygon d s)

-- the geometry of this kind that rings of a column mean, if they fit it
abbrev pub rings_as : Kind → Rings → Option Geometry
rings_as kind r = rings_meant kind (rings_dimensions r) (rings_rings r)

-- the geometry of this kind that singles of a column mean, if they fit it
abbrev pub singles_as : Kind → Polygons → Option Geometry
singles_as kind s = kind_meant kind (polygons_dimensions s) (polygons_polygons s)

-- ---- a row of a column

-- the levels of row i are in order, at none it begins before the end of an earlier row that spans items there, and they
-- mean this geometry of this kind
pub record IsLevelRow (l : Levels) (kind : Kind) (d : Dimensions) (i : ℕ) (g : Geometry) : Type 0 where
  pub levels : AreRowLevels l d i
  pub clear : IsClear l d i
  pub meant : kind_meant kind d (singles_of l d i) ≡ Some g

-- row i means no geometry of this kind
abbrev pub HasNoLevelRow : Levels → Kind → Dimensions → ℕ → Type 0
HasNoLevelRow l kind d i = (g : Geometry) → IsLevelRow l kind d i g → ⊥

-- what is found is row i as a geometry of this kind, or nothing if it means none
abbrev pub FindsRow : Levels → Kind → Dimensions → ℕ → Option Row → Type 0
FindsRow l kind d i found = MatchOption found (HasNoLevelRow l kind d i) (λ r. IsLevelRow l kind d i (row_meant r))
