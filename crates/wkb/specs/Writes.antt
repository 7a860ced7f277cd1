-- What sizes and writers promise, and what becomes of a sink.
use Rattle.std.specs.Prelude.{◌≡◌, ℕ, Result, IfOk, Vec}
use Rattle.std.specs.Global.{Global}
use Rattle.wkb_geom.specs.declared.error.WkbError.{WkbError}
use Rattle.wkb_geom.specs.declared.{common.Endianness.Endianness, common.Form.TheVariants.Ewkb}
use Rattle.wkb_geom.specs.Geometries.{Geometry}
use Rattle.wkb_geom.specs.Reading.{Item}
use Rattle.wkb_geom.specs.Spellings.{header}
use Rattle.wkb_write.specs.Answers.{encoding_of}
pub use Rattle.wkb_write.specs.Answers.{IsSizeOf, IsRefusedAs, IsWrittenAs, IsSpelled, IsSpelledAs, IsFailedAs, Writes}
pub use Rattle.wkb_write.specs.Answers.{WritesTo, WritesToVec, IsVecError, WritesToSlice, IsInFront, IsSliceError}
pub use Rattle.wkb_write.specs.Answers.{OutgrowsSlice}
pub use Rattle.wkb_write.specs.Measures.{Reports}
pub use Rattle.wkb_sink.specs.Sinks.{FailsBy, TellsFailure, IsOutOfMemory, IsIOError, IsOwnError, IsWritten, IsBegun}
pub use Rattle.wkb_sink.specs.Sinks.{Puts, put_fails, put_whole, PutsWhole, KnownOfFailure, IsShortOfMemory}
pub use Rattle.wkb_sink.specs.declared.{options.WriteOptions.WriteOptions, sink.Sink.Ghosts}
pub use Rattle.wkb_sink.specs.Held.{Outward, Growing, FitsCapacity, Lent}

-- the bytes that are returned at Ok are the geometry's encoding under the options
abbrev pub IsEncodingOf : WriteOptions → Geometry → Result (Vec ℕ Global) WkbError → Type 0
IsEncodingOf options g r = IfOk r (λ bytes. bytes.items ≡ encoding_of options g)

-- the options of EWKB with a geometry's own SRID
abbrev pub own_options : Endianness → Item → WriteOptions
own_options order w = record { endianness = order; form = Ewkb (header w.spelled).srid }
