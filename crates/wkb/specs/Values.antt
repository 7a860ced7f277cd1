-- What bytes mean.
pub use Rattle.wkb_geom.specs.Values.{Coordinate, Value, point, line_string, polygon, multi_point, multi_line_string}
pub use Rattle.wkb_geom.specs.Values.{multi_polygon, collection, Values, no_members, member, kind, dimension, each}
pub use Rattle.wkb_geom.specs.Values.{members, count, nest, nest_each, member_count, member_count_each, listed_count}
pub use Rattle.wkb_geom.specs.Values.{listed_count_each, IsValueCoordinate, IsValuePoint, AreValueCoordinates, IsValue}
pub use Rattle.wkb_geom.specs.Values.{AreValues}
