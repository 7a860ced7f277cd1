-- What the reader promises, and what its views show.
pub use Rattle.wkb_geom.specs.Reading.{Item, spellings, values, point_of, line_string_of, polygon_of, coordinate}
pub use Rattle.wkb_geom.specs.Reading.{coordinates, ring_in}
unfoldable pub use Rattle.wkb_geom.specs.Reading.{geometry_at}
pub use Rattle.wkb_geom.specs.Stored.{Listed, whole_of, value_code, rings_code, polygons_code, item_code, listed_code}
pub use Rattle.wkb_geom.specs.Fronts.{HasNoFront}
pub use Rattle.wkb_read.specs.Reads.{IsFront, IsOnlyFront, IsRefusal, TellsEach, IfRefused, IfMemory, CountsValue}
pub use Rattle.wkb_read.specs.Reads.{CountsRefusal, CountsAtMost, CanBeWritten, AsksForNone, BeginsNone, KindTakesNone}
pub use Rattle.wkb_read.specs.Reads.{TakesNoMemory, IsRead, Lends, Reads, Costs}
pub use Rattle.wkb_view.specs.Lends.{geometry_seen, members_seen}
pub use Rattle.wkb_view.proofs.ViewLaws.{geometry_lawful, members_lawful, one_dimension_seen, seen_as_it_is, point_value}
pub use Rattle.wkb_read.specs.Views.{IsCollectionOf, IsViewOf}
pub use Rattle.wkb_read.specs.Places.{collection_seen, joined_encodings, HoldsMembers, IsCollectionIn, AreMembers}
pub use Rattle.wkb_read.specs.Places.{IsMemberAt}
pub use Rattle.wkb_view.specs.Coords.{words_seen, ring_seen, coordinate_encoding, coord_order, coord_dimension}
pub use Rattle.wkb_view.specs.Coords.{coord_encoding, ring_order, ring_dimension, ring_encoding, ring_offset}
pub use Rattle.wkb_view.specs.Coords.{ring_coord_bytes, CoordBytesSpell, RingBytesSpell, LendsCoordinates}
pub use Rattle.wkb_view.specs.Views.{point_seen, line_string_seen, multi_point_seen, point_layout, line_string_layout}
pub use Rattle.wkb_view.specs.Views.{multi_point_layout, point_dimension, line_string_dimension}
pub use Rattle.wkb_view.specs.Views.{multi_point_dimension, point_order, point_spelling, line_string_order}
pub use Rattle.wkb_view.specs.Views.{line_string_spelling, seen_coordinates, coordinate_in, line_string_offset}
pub use Rattle.wkb_view.specs.Views.{multi_point_offset, seen_coordinate, seen_points, point_coord_bytes}
pub use Rattle.wkb_view.specs.Views.{point_words_bytes, line_string_coord_bytes, line_string_coords_bytes}
pub use Rattle.wkb_view.specs.Views.{multi_point_member_bytes, multi_point_spelling}
pub use Rattle.wkb_view.specs.Parts.{list_of_values, IsCollection, points_of, members_spelled, list_of_spellings}
pub use Rattle.wkb_view.specs.Parts.{spelling_at}
pub use Rattle.wkb_view.specs.Spells.{BytesSpell, srid_of, order_of}
pub use Rattle.wkb_view.specs.Members.{polygon_seen, multi_line_string_seen, multi_polygon_seen, stride, ArePoints}
pub use Rattle.wkb_view.specs.Members.{multi_point_item}
pub use Rattle.wkb_geom.specs.Reading.{body_start, parts_start, point_item, line_string_item}
pub use Rattle.wkb_laws.specs.Fits.{fitted_line_string, fitted_line_strings, fitted_polygons, fitted_point}
pub use Rattle.wkb_laws.specs.Fits.{fitted_geometry, fitted_geometries, fitted_parts, fitted_polygon, fitted_members}
pub use Rattle.wkb_laws.specs.Fits.{fitted_rings_size}
pub use Rattle.wkb_laws.proofs.Fitted.{fitted_geometry-same}
pub use Rattle.wkb_read.specs.declared.geometry.Wkb.{Wkb}
pub use Rattle.wkb_view.specs.declared.{coord.Coord.Coord, counts.Counts.Counts, line_string.LineString.LineString}
pub use Rattle.wkb_view.specs.declared.{linear_ring.LinearRing.LinearRing, multi_point.MultiPoint.MultiPoint}
pub use Rattle.wkb_view.specs.declared.point.Point.{Point}
pub use Rattle.wkb_geom.specs.declared.{geom.GeometryType.GeometryType, header.Layout.Layout}
pub use Rattle.wkb_geom.specs.declared.geom.GeometryType.TheVariants as handed
pub use Rattle.wkb_geom.specs.Reading.{Reading, Cost, rejection}
pub use Rattle.wkb_read.specs.Memory.{IsNotMemory}
pub use Rattle.wkb_read.specs.NoSrids.{tells_size}
pub use Rattle.wkb_read.specs.Types.{geometry_type_of, IsListed}
pub use Rattle.wkb_read.specs.declared.geometry_type.GeometryType.{GeometryType as GeometryKind}
pub use Rattle.wkb_read.specs.declared.geometry_type.GeometryType.TheVariants as kinds
