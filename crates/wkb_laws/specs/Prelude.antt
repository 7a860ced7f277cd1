-- The names of the field, passed on from one place. Declares nothing.
pub use Rattle.wkb_geom.specs.declared.common.{Endianness.TheVariants.BigEndian, Endianness.TheVariants.LittleEndian}
pub use Rattle.wkb_geom.specs.declared.common.{Endianness.Endianness, Dimensions.Dimensions, Form.TheVariants.Ewkb}
pub use Rattle.wkb_geom.specs.declared.common.{Dimension.Dimension, Form.Form, Form.TheVariants.Iso}
pub use Rattle.wkb_geom.specs.declared.common.Dimension.TheVariants.{Xy, Xyz, Xym, Xyzm}
pub use Rattle.wkb_geom.specs.declared.{code.WkbType.WkbType, header.Head.Head, header.Layout.Layout, error.Cause.Cause}
pub use Rattle.wkb_geom.specs.declared.error.Cause.TheVariants.{EndOfInput as end_of_input, General as general}
pub use Rattle.wkb_geom.specs.declared.error.Cause.TheVariants.{IncorrectType as incorrect_type}
pub use Rattle.wkb_geom.specs.declared.error.General.TheVariants.{InvalidByteOrder, ShortPoint, ShortLineString}
pub use Rattle.wkb_geom.specs.declared.error.General.TheVariants.{ShortLinearRing, ShortMultiPoint}
pub use Rattle.wkb_geom.specs.Numbers.{AreBytes, IsNumber, IsWord, order_byte, all_nan, empty_word}
unfoldable pub use Rattle.wkb_geom.specs.Numbers.{number, number_bytes}
pub use Rattle.wkb_geom.specs.Dimensions.{width, size, named, as_dimensions, written_dimension}
pub use Rattle.wkb_geom.specs.Codes.{Code, thousands}
pub use Rattle.wkb_geom.specs.Grammar.{Then, Begins, IsEach, IsCounted}
pub use Rattle.wkb_geom.specs.Values.{Coordinate, Value, point, line_string, polygon, multi_point, multi_line_string}
pub use Rattle.wkb_geom.specs.Values.{multi_polygon, collection, Values, no_members, member, kind, dimension, members}
pub use Rattle.wkb_geom.specs.Values.{each, count, nest, nest_each, member_count, member_count_each, listed_count}
pub use Rattle.wkb_geom.specs.Values.{listed_count_each, IsValueCoordinate, IsValuePoint, AreValueCoordinates, IsValue}
pub use Rattle.wkb_geom.specs.Values.{AreValues}
pub use Rattle.wkb_geom.specs.Spellings.{no_spellings, srid_count, srid_count_each, SpellsCoordinate, SpellsCoordinates}
pub use Rattle.wkb_geom.specs.Spellings.{has_srid, Spelling, Spellings, spelling, SpellsBody, SpellsEach, member_part}
pub use Rattle.wkb_geom.specs.Spellings.{Header, header, node, IsHeader, IsSrid, Spells, Wanted, any, part, IsPart}
pub use Rattle.wkb_geom.specs.Fronts.{Front, FrontWithin, max_nesting}
pub use Rattle.wkb_geom.specs.Refusals.{line_string_end, multi_point_end, left_in, short_line_string, short_multi_point}
pub use Rattle.wkb_geom.specs.Refusals.{Opens, OpensCounted, RefusesRings, no_ring_count, no_order_byte, bad_order_byte}
pub use Rattle.wkb_geom.specs.Refusals.{slots_asked, room_inside, short_point, RefusesEach, this_member, later_member}
pub use Rattle.wkb_geom.specs.Refusals.{srid_size, point_end, IsAllowed, short_ring, later_ring, wrong_part, bad_member}
pub use Rattle.wkb_geom.specs.Refusals.{ring_end, Refuses, no_code, bad_code, too_deep, no_count, bad_ring}
pub use Rattle.wkb_geom.specs.Geometries.{Geometry, Geometries, no_geometries, geometry, IsGeometry, AreGeometries}
pub use Rattle.wkb_geom.specs.Geometries.{normal, normal_each, normal_point, geometry_of, geometries_of, rectangle_ring}
pub use Rattle.wkb_geom.specs.Geometries.{triangle_ring, line, rectangle, triangle}
pub use Rattle.wkb_geom.specs.Encodings.{encoding, encodings, form_srid, inner, count_geometries, IsForm, IsWritable}
pub use Rattle.wkb_geom.specs.Encodings.{IsRewriting, IsRewritingWithSrid, fault, fault_each, coordinates_fault}
pub use Rattle.wkb_geom.specs.Encodings.{rings_fault, fault_under}
unfoldable pub use Rattle.wkb_geom.specs.Encodings.{code_of, or_else, dimensions_fault, count_fault, first_fault}
unfoldable pub use Rattle.wkb_geom.specs.Encodings.{size_fault, point_words, srid_encoding, header_encoding}
unfoldable pub use Rattle.wkb_geom.specs.Encodings.{words_encoding, coordinates_encoding, point_encoding}
unfoldable pub use Rattle.wkb_geom.specs.Encodings.{line_string_encoding, polygon_encoding, members_encoding}
pub use Rattle.wkb_geom.specs.Reading.{Cost, Reading, rejection, Item, type_kind, type_dimension, type_of, layout_of}
pub use Rattle.wkb_geom.specs.Reading.{laid, free, body_start, parts_start, count_in, head_by_code, at_no_cost}
pub use Rattle.wkb_geom.specs.Reading.{list_item, polygon_item, spellings, values, done, line_string_of, point_of}
pub use Rattle.wkb_geom.specs.Reading.{polygon_of, spelled_in, consumed, parts_body, coordinate, coordinates, ring_in}
pub use Rattle.wkb_geom.specs.Reading.{items, line_string_item, point_item, point_item_of, srid_in, head_by_order}
pub use Rattle.wkb_geom.specs.Reading.{meaning, layout_wanted, is_member, refused, collection_with}
pub use Rattle.wkb_geom.specs.Reading.{multi_line_string_with, multi_point_with, multi_polygon_with}
unfoldable pub use Rattle.wkb_geom.specs.Reading.{repeated, geometry_at, line_string_at, head_at, meaning_of}
pub use Rattle.wkb_geom.specs.Sizes.{byte_size, byte_sizes}
pub use Rattle.wkb_geom.proofs.Items.{length-items}
pub use Rattle.wkb_geom.specs.declared.error.Fault.{Fault}
