-- The words that the proofs of this crate share, passed on from one place. Declares nothing.
pub use Rattle.wkb_geom.specs.declared.{error.Fault.Fault, common.Dimension.Dimension, common.Dimensions.Dimensions}
pub use Rattle.wkb_geom.specs.declared.{common.Endianness.Endianness, common.Form.Form, error.WkbError.WkbError}
pub use Rattle.wkb_geom.specs.declared.common.Dimensions.TheVariants.{Unknown}
pub use Rattle.std.proofs.Common.{◌≡◌, ℕ, ◌≤◌, List, [], ◌++◌, length, take, drop, Option, Some, None, sym, subst, ap}
pub use Rattle.std.proofs.Common.{◌∙◌, append_assoc, append-nil, arith, take-append-drop, ◌-◌, ◌+◌, refl, ◌*◌, ◌<◌, ◌∷◌}
pub use Rattle.std.proofs.Common.{map, get_or, ◌^◌, Result, zero, suc, slice_get, Ok, Err, add-one, rules, Bool, ◌⊎◌}
pub use Rattle.std.proofs.lemmas.List.{drop_all}
pub use Rattle.std.proofs.lemmas.List.Sums.{sum_by-cons}
pub use Rattle.std.proofs.lemmas.List.Concat.{flat_map-append}
pub use Rattle.std.proofs.lemmas.Option.{slice_get_read}
pub use Rattle.std.specs.List.{flat_map, sum_by}
pub use Rattle.wkb_geom.specs.Dimensions.{written_dimension, size}
pub use Rattle.wkb_geom.specs.Geometries.{Geometry, geometries, collection}
pub use Rattle.wkb_geom.specs.Numbers.{number_bytes}
pub use Rattle.wkb_geom.specs.Encodings.{encoding, encodings, fault, fault_each, count_geometries}
unfoldable pub use Rattle.wkb_geom.specs.Encodings.{members_encoding, coordinates_encoding, line_string_encoding}
unfoldable pub use Rattle.wkb_geom.specs.Encodings.{words_encoding, header_encoding, dimensions_fault, polygon_encoding}
unfoldable pub use Rattle.wkb_geom.specs.Encodings.{first_fault, or_else, point_encoding, point_words, count_fault}
pub use Rattle.wkb_geom.proofs.Faults.{none_first, none_rest, none_both, count_below}
unfoldable pub use Rattle.wkb_write.specs.Counted.{counted}
pub use Rattle.wkb_sink.specs.Progress.{Progress, Advances, IsLaid, IsCut, progress, IsShort}
pub use Rattle.wkb_sink.specs.declared.{buffered.Stopped.Stopped, options.WriteOptions.WriteOptions}
pub use Rattle.wkb_sink.proofs.Laid.{no_room}
pub use Rattle.wkb_write.specs.Measures.{Finds, Measures, capped}
pub use Rattle.wkb_write.specs.Bodies.{Measure, bytes_behind_header}
unfoldable pub use Rattle.wkb_write.specs.Bodies.{parts_fault, parts_size}
pub use Rattle.std.specs.Prelude.{IsErrAnd}
pub use Rattle.wkb_write.specs.Answers.{encoding_of}
pub use Rattle.wkb_geom.specs.Sizes.{byte_size}
pub use Rattle.std.proofs.lemmas.Bool.Decides.{nat_tests}
