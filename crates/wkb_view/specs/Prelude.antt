-- The names that most files of this crate need, passed on from one place.
pub use Rattle.wkb_geom.specs.declared.{common.Endianness.Endianness, common.Endianness.TheVariants.BigEndian}
pub use Rattle.wkb_geom.specs.declared.{common.Endianness.TheVariants.LittleEndian, common.Dimension.Dimension}
pub use Rattle.wkb_geom.specs.declared.{code.WkbType.WkbType, header.Head.Head, header.Layout.Layout, error.Cause.Cause}
pub use Rattle.wkb_geom.specs.declared.error.ReadError.{ReadError}
pub use Rattle.wkb_geom.specs.declared.error.Cause.TheVariants.{EndOfInput as end_of_input}
pub use Rattle.wkb_geom.specs.declared.error.ReadError.TheVariants as read_errors
unfoldable pub use Rattle.wkb_geom.specs.Numbers.{number}
pub use Rattle.wkb_geom.specs.Numbers.{is_nan, all_nan, AreBytes}
pub use Rattle.wkb_geom.specs.Dimensions.{width, size, as_dimensions}
pub use Rattle.wkb_geom.specs.Refusals.{point_end, line_string_end, multi_point_end, ring_end, slots_asked}
pub use Rattle.wkb_geom.specs.Values.{Coordinate}
pub use Rattle.wkb_geom.specs.Spellings.{Spelling, Spellings, no_spellings}
pub use Rattle.wkb_geom.specs.Stored.{Listed, whole_of}
pub use Rattle.wkb_geom.specs.Reading.{Cost, free, one_turn, Outcome, Reading, done, refused, costs, and_then}
pub use Rattle.wkb_geom.specs.Reading.{then_body, items, coordinate, coordinates, ring_in, Item, spellings, laid}
pub use Rattle.wkb_geom.specs.Reading.{body_start, count_in, parts_start, srid_in, spelled_in, consumed, rejection}
pub use Rattle.wkb_geom.specs.Reading.{cause_of, point_item, line_string_item, polygon_item, list_item, point_of}
pub use Rattle.wkb_geom.specs.Reading.{line_string_of, polygon_of, multi_point_with, multi_line_string_with}
pub use Rattle.wkb_geom.specs.Reading.{multi_polygon_with, ring_part, list_at, HasNoCount, member_layout, member_body}
pub use Rattle.wkb_geom.specs.Reading.{member_at}
unfoldable pub use Rattle.wkb_geom.specs.Reading.{repeated, head_at, point_at, line_string_at, polygon_at}
unfoldable pub use Rattle.wkb_geom.specs.Reading.{multi_point_at, multi_line_string_at, multi_polygon_at}
pub use Rattle.wkb_view.specs.Parts.{list_of_values, points_of, members_spelled, list_of_spellings, spelling_at}
pub use Rattle.wkb_view.specs.Spells.{BytesSpell, srid_of, order_of}
