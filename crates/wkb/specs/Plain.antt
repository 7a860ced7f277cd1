-- What plain geometries mean: the geometries over a caller's own words.
--
-- The variants of `Geometry` can't be passed on from here: no crate hands on what it declares itself. Users write
-- use Rattle.wkb.specs.declared.geom.geometry.Geometry.TheVariants as plain
pub use Rattle.wkb_plain.specs.declared.coord.Coord.{Coord}
pub use Rattle.wkb_plain.specs.declared.point.Point.{Point}
pub use Rattle.wkb_plain.specs.declared.line_string.LineString.{LineString}
pub use Rattle.wkb_plain.specs.declared.polygon.Polygon.{Polygon}
pub use Rattle.wkb_plain.specs.declared.multi_point.MultiPoint.{MultiPoint}
pub use Rattle.wkb_plain.specs.declared.multi_line_string.MultiLineString.{MultiLineString}
pub use Rattle.wkb_plain.specs.declared.multi_polygon.MultiPolygon.{MultiPolygon}
use Rattle.wkb.specs.declared.geom.geometry.GeometryCollection.{GeometryCollection as TheCollection}
use Rattle.wkb.specs.declared.geom.geometry.Geometry.{Geometry as TheGeometry}
pub use Rattle.wkb_plain.specs.declared.rect.Rect.{Rect}
pub use Rattle.wkb_plain.specs.declared.triangle.Triangle.{Triangle}
pub use Rattle.wkb_plain.specs.declared.line.Line.{Line}
pub use Rattle.wkb_plain.specs.Runs.{runs, coordinates_in}
pub use Rattle.wkb_plain.specs.Kinds.{ArePartsFor, HaveOneDimension, ShowsParts, coord_dimensions, coord_words}
pub use Rattle.wkb_plain.specs.Kinds.{point_dimensions, point_coordinate, line_string_dimensions}
pub use Rattle.wkb_plain.specs.Kinds.{line_string_coordinates, polygon_dimensions, polygon_rings}
pub use Rattle.wkb_plain.specs.Kinds.{multi_point_dimensions, multi_point_points, multi_line_string_dimensions}
pub use Rattle.wkb_plain.specs.Kinds.{multi_line_string_line_strings, multi_polygon_dimensions, multi_polygon_polygons}
pub use Rattle.wkb_plain.specs.Kinds.{line_dimensions, line_start, line_end, rect_dimensions, rect_min, rect_max}
pub use Rattle.wkb_plain.specs.Kinds.{triangle_dimensions, triangle_first, triangle_second, triangle_third}
pub use Rattle.wkb_plain.specs.Lawful.{coord_lawful, point_lawful, line_string_lawful, polygon_lawful}
pub use Rattle.wkb_plain.specs.Lawful.{multi_point_lawful, multi_line_string_lawful, multi_polygon_lawful, line_lawful}
pub use Rattle.wkb_plain.specs.Lawful.{rect_lawful, triangle_lawful}
pub use Rattle.wkb.specs.PlainGeometry.{plain_geometry, plain_dimensions, collection_dimensions, collection_members}
pub use Rattle.wkb.specs.LawfulPlain.{collection_lawful, IsGeometry-plain_geometry}

-- a plain geometry of any kind
abbrev pub Geometry : Type 0
Geometry = TheGeometry

-- plain geometries of any kinds and dimensions
abbrev pub GeometryCollection : Type 0
GeometryCollection = TheCollection
