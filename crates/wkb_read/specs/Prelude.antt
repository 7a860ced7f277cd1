-- The names of the field, passed on from one place. Declares nothing.
pub use Rattle.wkb_geom.specs.declared.{code.WkbType.WkbType, common.Dimension.Dimension, common.Endianness.Endianness}
pub use Rattle.wkb_geom.specs.declared.{error.Cause.Cause, error.ReadError.ReadError, error.WkbError.WkbError}
pub use Rattle.wkb_geom.specs.declared.{header.Head.Head, header.Layout.Layout}
pub use Rattle.wkb_geom.specs.declared.error.ReadError.TheVariants as read_errors
pub use Rattle.wkb_geom.specs.Dimensions.{as_dimensions}
pub use Rattle.wkb_geom.specs.Fronts.{Front, HasNoFront, max_nesting}
pub use Rattle.wkb_geom.specs.Geometries.{Geometry, geometries, geometry_of, geometries_of, normal, IsGeometry}
pub use Rattle.wkb_geom.specs.Numbers.{number}
pub use Rattle.wkb_geom.specs.Reading.{Item, Cost, Outcome, Reading, one_turn, costs, done, at_no_cost, and_then}
pub use Rattle.wkb_geom.specs.Reading.{consumed, body_start, count_in, parts_start, type_kind, type_dimension}
pub use Rattle.wkb_geom.specs.Reading.{layout_of, laid, list_item, collection_with, collection_within, spelled_in}
pub use Rattle.wkb_geom.specs.Reading.{spellings, values, body_at}
unfoldable pub use Rattle.wkb_geom.specs.Reading.{head_at, repeated, polygon_at, multi_line_string_at, multi_polygon_at}
unfoldable pub use Rattle.wkb_geom.specs.Reading.{geometry_at}
pub use Rattle.wkb_geom.specs.Refusals.{Refuses, Opens}
pub use Rattle.wkb_geom.specs.Spellings.{Spelling, any}
pub use Rattle.wkb_geom.specs.Stored.{Listed, whole_of, listed_code, values_code, item_code}
pub use Rattle.wkb_geom.specs.Errors.{Tells, TellsReadError}
pub use Rattle.wkb_geom.specs.Values.{Coordinate, Value, Values, polygon, multi_line_string, multi_polygon, collection}
pub use Rattle.wkb_geom.specs.Values.{dimension, member_count, listed_count, nest, nest_each}
pub use Rattle.wkb_view.specs.declared.counts.Counts.{Counts}
pub use Rattle.wkb_view.specs.Headers.{HasHead}
pub use Rattle.wkb_view.specs.Outcome.{Spent, next_turn, cost_of, AtMost, CanCount, Stops, IsCause}
pub use Rattle.wkb_view.specs.Parts.{members_spelled, IsCollection}
pub use Rattle.wkb_view.specs.Spells.{BytesSpell, srid_of}
pub use Rattle.wkb_view.specs.Members.{polygon_seen, multi_line_string_seen, multi_polygon_seen}
pub use Rattle.wkb_view.specs.Views.{point_seen, line_string_seen, multi_point_seen}
pub use Rattle.wkb_view.specs.BytesAsWritten.{IsSpelledAsWritten}
