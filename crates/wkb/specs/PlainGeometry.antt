-- What a plain geometry of any kind means. `Plain` passes it on, and can't hold it: `Point` and its like are types
-- there, and the variants of a layer here.
use Rattle.std.specs.Prelude.{List, map}
use Rattle.wkb_geom.specs.declared.common.Dimensions.{Dimensions}
use Rattle.wkb_geom.specs.Geometries.{Geometry, point, line_string, polygon, multi_point, multi_line_string}
use Rattle.wkb_geom.specs.Geometries.{multi_polygon, collection, rectangle, triangle, line, geometries}
use Rattle.wkb.specs.declared.geom.geometry.Geometry.{Geometry as PlainGeometry}
use Rattle.wkb.specs.declared.geom.geometry.Geometry.TheOpen.{Geometry-F, GeometryCollection-F, Point, LineString}
use Rattle.wkb.specs.declared.geom.geometry.Geometry.TheOpen.{Polygon, MultiPoint, MultiLineString, MultiPolygon}
use Rattle.wkb.specs.declared.geom.geometry.Geometry.TheOpen.{GeometryCollection, Rect, Triangle, Line}
use Rattle.wkb.specs.declared.geom.geometry.Geometry.TheViews.{out-Geometry}
use Rattle.wkb.specs.declared.geom.geometry.Geometry.TheFolds.{fold-Geometry}
use Rattle.wkb.specs.declared.geom.geometry.GeometryCollection.{GeometryCollection as PlainCollection}
use Rattle.wkb_plain.specs.Kinds.{line_string_coordinates, multi_line_string_dimensions, multi_line_string_line_strings}
use Rattle.wkb_plain.specs.Kinds.{line_string_dimensions, multi_point_dimensions, multi_polygon_dimensions, line_start}
use Rattle.wkb_plain.specs.Kinds.{polygon_dimensions, multi_point_points, multi_polygon_polygons, triangle_dimensions}
use Rattle.wkb_plain.specs.Kinds.{point_dimensions, point_coordinate, line_dimensions, rect_dimensions, triangle_second}
use Rattle.wkb_plain.specs.Kinds.{polygon_rings, line_end, rect_min, rect_max, triangle_first, triangle_third}

-- one layer, with each collection's geometry in its place
abbrev pub geometry_layer : Geometry-F Geometry Geometry → Geometry
geometry_layer (Point p) = point (point_dimensions p) (point_coordinate p)
geometry_layer (LineString l) = line_string (line_string_dimensions l) (line_string_coordinates l)
geometry_layer (Polygon p) = polygon (polygon_dimensions p) (polygon_rings p)
geometry_layer (MultiPoint m) = multi_point (multi_point_dimensions m) (multi_point_points m)
geometry_layer (MultiLineString m) =
    multi_line_string (multi_line_string_dimensions m) (multi_line_string_line_strings m)
geometry_layer (MultiPolygon m) = multi_polygon (multi_polygon_dimensions m) (multi_polygon_polygons m)
geometry_layer (GeometryCollection c) = c
geometry_layer (Rect r) = rectangle (rect_dimensions r) (rect_min r) (rect_max r)
geometry_layer (Triangle t) = triangle (triangle_dimensions t) (triangle_first t) (triangle_second t) (triangle_third t)
geometry_layer (Line l) = line (line_dimensions l) (line_start l) (line_end l)

abbrev pub collection_layer : GeometryCollection-F Geometry Geometry → Geometry
collection_layer c = collection c.dim (geometries c.members.items)

-- what a plain geometry means
abbrev pub plain_geometry : PlainGeometry → Geometry
plain_geometry = fold-Geometry Geometry Geometry geometry_layer collection_layer

-- one layer's dimensions
abbrev pub layer_dimensions : {A : Type 0} → Geometry-F A (GeometryCollection-F A (Unit {0})) → Dimensions
layer_dimensions (Point p) = point_dimensions p
layer_dimensions (LineString l) = line_string_dimensions l
layer_dimensions (Polygon p) = polygon_dimensions p
layer_dimensions (MultiPoint m) = multi_point_dimensions m
layer_dimensions (MultiLineString m) = multi_line_string_dimensions m
layer_dimensions (MultiPolygon m) = multi_polygon_dimensions m
layer_dimensions (GeometryCollection c) = c.dim
layer_dimensions (Rect r) = rect_dimensions r
layer_dimensions (Triangle t) = triangle_dimensions t
layer_dimensions (Line l) = line_dimensions l

-- the dimensions of a plain geometry
abbrev pub plain_dimensions : PlainGeometry → Dimensions
plain_dimensions g = layer_dimensions (out-Geometry g)

-- a collection
abbrev pub collection_dimensions : PlainCollection → Dimensions
collection_dimensions c = c.dim

abbrev pub collection_members : PlainCollection → List Geometry
collection_members c = map plain_geometry c.members.items
