-- The words that the proofs of this crate share, passed on from one place. Declares nothing.
pub use Rattle.std.proofs.Common.{◌≡◌, ℕ, ◌≤◌, List, [], ◌++◌, length, take, drop, Option, Some, sym, ap, ◌∙◌}
pub use Rattle.std.proofs.Common.{append_assoc, append-nil, arith, length-drop, take_all, take-append-drop, ◌-◌, ◌+◌}
pub use Rattle.std.proofs.Common.{refl, replicate, ◌*◌, ◌<◌, ◌∷◌, Result, zero, suc, slice_get, subst, length-append}
pub use Rattle.std.proofs.Common.{Bool, true, false, Ok, Err, add-one, ◌/◌, slice_index, rules}
pub use Rattle.std.proofs.lemmas.List.{replicate_more, length-take-le, take-append-le, take_at}
pub use Rattle.std.proofs.lemmas.List.Concat.{flat_map-append}
pub use Rattle.std.specs.Io.KnownBytes.{Appends}
pub use Rattle.std.specs.List.{flat_map}
pub use Rattle.wkb_geom.specs.declared.common.Endianness.{Endianness}
pub use Rattle.wkb_geom.specs.Numbers.{number_bytes, empty_word}
unfoldable pub use Rattle.wkb_geom.specs.Encodings.{words_encoding, header_encoding, srid_encoding}
pub use Rattle.wkb_sink.specs.Blocks.{LaysAt, Waiting, block_size}
pub use Rattle.wkb_sink.specs.Progress.{Progress, Moves, RunsOut, Advances, IsReady, IsLaid, IsShort, IsBroken, IsCut}
pub use Rattle.wkb_sink.specs.Progress.{progress}
pub use Rattle.wkb_sink.specs.declared.{block.TheConstants.MIN_BLOCK, buffered.Stopped.Stopped}
pub use Rattle.wkb_sink.specs.Sinks.{IsWritten, IsBegun}
