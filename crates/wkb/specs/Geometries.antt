-- What a caller's geometries mean.
pub use Rattle.wkb_geom.specs.Geometries.{Geometry, point, line_string, polygon, multi_point, multi_line_string}
pub use Rattle.wkb_geom.specs.Geometries.{multi_polygon, collection, line, rectangle, triangle, Geometries}
pub use Rattle.wkb_geom.specs.Geometries.{no_geometries, geometry, geometries, IsCoordinate, IsPoint, AreCoordinates}
pub use Rattle.wkb_geom.specs.Geometries.{IsGeometry, AreGeometries, rectangle_ring, triangle_ring, normal_point}
pub use Rattle.wkb_geom.specs.Geometries.{normal, normal_each, geometry_of, geometries_of, dimensions_of}
pub use Rattle.wkb_geom.specs.Found.{IsItemAt, HasDimensions, IsOfWritable}
pub use Rattle.wkb_geom.specs.Sizes.{byte_size, byte_sizes, rings_size}
pub use Rattle.wkb_geom.specs.Parts.{PointMembers, LineStringMembers, PolygonMembers, MultiPointMembers}
pub use Rattle.wkb_geom.specs.Parts.{MultiLineStringMembers, MultiPolygonMembers, CollectionMembers, RectMembers}
pub use Rattle.wkb_geom.specs.Parts.{TriangleMembers, LineMembers, point_meant, line_string_meant, polygon_meant}
pub use Rattle.wkb_geom.specs.Parts.{multi_point_meant, multi_line_string_meant, multi_polygon_meant, collection_meant}
pub use Rattle.wkb_geom.specs.Parts.{rect_meant, triangle_meant, line_meant, PointMeans, LineStringMeans, PolygonMeans}
pub use Rattle.wkb_geom.specs.Parts.{MultiPointMeans, MultiLineStringMeans, MultiPolygonMeans, CollectionMeans}
pub use Rattle.wkb_geom.specs.Parts.{RectMeans, TriangleMeans, LineMeans}
