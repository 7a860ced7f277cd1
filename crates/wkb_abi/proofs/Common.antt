-- The words that most files here need, passed on from one place. Declares nothing.
pub use Rattle.std.proofs.Common.{arith, sym, ◌+◌, length, ap, ◌∙◌, ◌≡◌, List, refl, ℕ, ◌≤◌, zero, suc, ◌<◌, ◌^◌, []}
pub use Rattle.std.proofs.Common.{◌∷◌, ◌++◌, drop, Option, Some, None, subst, append_assoc, append-nil, ◌*◌, ◌≢◌, ◌⊎◌}
pub use Rattle.std.proofs.Common.{inl, inr, length-append, set}
pub use Rattle.std.proofs.lemmas.List.{drop-drop}
pub use Rattle.std.specs.Prelude.{is_some, slice_get, unwrap_or, slice_index, false, ◌-◌}
pub use Rattle.wkb_geom.specs.Dimensions.{width}
pub use Rattle.wkb_geom.specs.Numbers.{order_byte, IsNumber, number}
pub use Rattle.wkb_geom.specs.Refusals.{srid_size}
pub use Rattle.wkb_geom.specs.Spellings.{Header, Spelling, node, Spellings, no_spellings, spelling, Spells, header}
pub use Rattle.wkb_geom.specs.Spellings.{SpellsCoordinate, SpellsCoordinates, SpellsBody, Wanted, SpellsEach}
pub use Rattle.wkb_geom.specs.Values.{members, kind, dimension, point, line_string, polygon, multi_line_string}
pub use Rattle.wkb_geom.specs.Values.{multi_polygon, member_count, Coordinate, Value, Values, multi_point, collection}
pub use Rattle.wkb_geom.specs.Values.{no_members, member, member_count_each}
pub use Rattle.wkb_geom.specs.declared.{common.Dimension.Dimension, common.Endianness.Endianness}
pub use Rattle.wkb_abi.specs.Columns.{IsRefusedWith, IsRow, Reach}
pub use Rattle.wkb_abi.specs.LevelLists.{levels_of}
pub use Rattle.wkb_abi.specs.RowItems.{IsRowStep, RowFails, RowHas}
pub use Rattle.wkb_abi.specs.declared.{column.Column.Column, options.Options.Options, status.TheConstants.NO_ROOM}
pub use Rattle.wkb_abi.specs.declared.{status.TheConstants.OK, totals.Totals.Totals}
pub use Rattle.wkb_check.specs.Known.{HasGeometry}
pub use Rattle.wkb_check.specs.Public.{DescribesFront}
pub use Rattle.wkb_check.specs.Subjects.{Subject, subjects, subjects_of_each}
pub use Rattle.wkb_check.specs.declared.{answer.Summary.Summary, pieces.Piece.Piece}
pub use Rattle.wkb_geom.specs.Encodings.{encoding}
pub use Rattle.wkb_geom.specs.Geometries.{geometry_of}
pub use Rattle.wkb_check.proofs.Ahead.{here}
pub use Rattle.wkb_check.specs.Inputs.{IsAccepted}
pub use lib.Seq.{length-sets, sets, sets-eq}
