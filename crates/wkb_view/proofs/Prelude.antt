-- The words that the proofs of this crate share, passed on from one place. Declares nothing.
pub use Rattle.std.proofs.Common.{◌≡◌, ◌+◌, ◌≤◌, ℕ, suc, List, [], ◌∷◌, Ok, refl, arith, ◌-◌, ◌*◌, ◌/◌, length, sum_by}
pub use Rattle.std.proofs.Common.{sym, ap, ◌∙◌, zero, take, drop, length-drop, map, None, Some, false, min, ◌++◌, ◌<◌}
pub use Rattle.std.proofs.Common.{get_or, Bool, rules, Option, length-take, subst, length-append, true}
pub use Rattle.std.proofs.lemmas.List.{take_all, length-map, drop-drop, drop-take, append-nil}
pub use Rattle.std.proofs.lemmas.Option.{slice_get-map, get_or_from_slice_get}
pub use Rattle.std.proofs.lemmas.Result.{err_from_is_err_and}
pub use Rattle.std.specs.Borrow.{Bor}
pub use Rattle.std.specs.List.{each_same}
pub use Rattle.std.specs.Prelude.{slice_get, option_map, IfSome}
pub use Rattle.wkb_geom.specs.Encodings.{fault}
pub use Rattle.wkb_geom.proofs.Items.{number-take, length-items}
pub use Rattle.wkb_geom.specs.Geometries.{geometry_of}
pub use Rattle.wkb_geom.specs.Sizes.{rings_size}
pub use Rattle.wkb_geom.specs.Values.{polygon, line_string, point}
pub use Rattle.wkb_laws.proofs.Spelled.{in_full_lem}
pub use Rattle.wkb_laws.proofs.Values.{spelled_good, lawful-geometry_of}
pub use Rattle.wkb_view.specs.Coords.{ring_seen}
pub use Rattle.wkb_view.specs.Entries.{entries_asked, HasNoList, entries, capacity}
pub use Rattle.wkb_laws.specs.Fits.{fitted_line_strings, fitted_parts}
pub use Rattle.wkb_view.specs.Lawful.{AreBytes-take, AreBytes-drop, fitted_geometry-same, member_dimension}
pub use Rattle.wkb_view.specs.Lawful.{ring_lawful}
pub use Rattle.wkb_view.proofs.ViewLaws.{point_value}
pub use Rattle.wkb_view.specs.Members.{polygon_laid, polygon_seen, IsEncoding, IsMemberOfKind, member_item}
pub use Rattle.wkb_view.specs.Members.{polygon_items, members_in, point_ends, points_in, multi_line_string_seen}
pub use Rattle.wkb_view.specs.Members.{members_behind, multi_polygon_seen, AreOfDimension}
pub use Rattle.wkb_view.specs.Outcome.{Spent, CanCount, Stops, next_turn, cost_of}
pub use Rattle.wkb_view.specs.Pieces.{pieces, Passed}
pub use Rattle.wkb_view.specs.Prelude.{as_dimensions, coordinates, list_of_spellings, multi_point_end, multi_point_with}
pub use Rattle.wkb_view.specs.Prelude.{Coordinate, member_layout, slots_asked, parts_start}
pub use Rattle.wkb_view.specs.Prelude.{one_turn, BytesSpell, body_start, Endianness, coordinate, point_item, polygon_of}
pub use Rattle.wkb_view.specs.Prelude.{done, and_then, ReadError, Dimension, spellings, member_at, then_body, list_item}
pub use Rattle.wkb_view.specs.Prelude.{Reading, AreBytes, ring_in, Spelling, all_nan, point_of, consumed, count_in}
pub use Rattle.wkb_view.specs.Prelude.{costs, width, Layout, Listed, items, Item, is_nan, srid_in, Outcome, Cause}
unfoldable pub use Rattle.wkb_view.specs.Prelude.{number, repeated, head_at}
pub use Rattle.wkb_view.specs.Views.{point_seen, line_string_seen, multi_point_seen}
pub use Rattle.wkb_view.specs.declared.{counts.Counts.Counts, line_string.LineString.LineString}
