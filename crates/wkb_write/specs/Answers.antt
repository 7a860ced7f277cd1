-- What a size and a writer return.
use Rattle.std.specs.Prelude.{◌≡◌, ◌<◌, ◌++◌, ◌⊎◌, ℕ, drop, length, Bool, List, Option, Some, None, Result, Ok}
use Rattle.std.specs.Prelude.{MatchResult, IsErrAnd, IfOk, IfErr, Vec}
use Rattle.std.specs.Global.{Global}
use Rattle.std.specs.declared.io.Error.{Error}
use Rattle.std.specs.Io.KnownBytes.{Appends}
use Rattle.wkb_laws.specs.Prelude.{Endianness, Form, Geometry, IsGeometry, normal, Value, Spelling, Spells, Fault}
use Rattle.wkb_geom.specs.declared.error.WkbError.{WkbError}
use Rattle.wkb_geom.specs.Errors.{IsMemory, TellsFault}
use Rattle.wkb_geom.specs.Encodings.{fault, fault_under, encoding, form_with_flags}
use Rattle.wkb_laws.specs.Written.{HasOptions}
use Rattle.wkb_write.specs.Measures.{Reports, Finds}
use Rattle.wkb_sink.specs.Puts.{PutsTo}
use Rattle.wkb_sink.specs.Sinks.{IsOwnError, Puts, TellsFailure}
use Rattle.wkb_sink.specs.declared.{sink.Sink.Ghosts, options.WriteOptions.WriteOptions}

-- a geometry's one encoding under some options
abbrev pub encoding_of : WriteOptions → Geometry → List ℕ
encoding_of options g = encoding options.endianness options.form g

-- the encoding of a member: in the codes of EWKB or in those of ISO, and without an SRID
unfoldable pub member_encoding : {X : Type 0} → (X → Geometry) → Endianness → Bool → X → List ℕ
member_encoding meant order has_flags x = encoding order (form_with_flags has_flags) (meant x)

-- why there is none: the first fault, else the size
abbrev pub fault_of : WriteOptions → Geometry → Option Fault
fault_of options g = fault_under options.endianness options.form g

-- the result is the length of the encoding, in either order, or the error that reports what is rejected
abbrev pub IsSizeOf : Form → Geometry → Result ℕ WkbError → Type 0
IsSizeOf form g r =
    (order : Endianness)
    → MatchResult r (λ n. (fault_under order form g ≡ None) × (n ≡ length (encoding order form g)))
    (λ e. Reports e (fault_under order form g))

-- the result is the length of the encoding, in either order, or the fault for which there is none
abbrev pub IsSized : Form → Geometry → Result ℕ Fault → Type 0
IsSized form g r =
    (order : Endianness)
    → MatchResult r (λ n. (fault_under order form g ≡ None) × (n ≡ length (encoding order form g)))
    (λ e. Finds e (fault_under order form g))

-- what is rejected is reported by the error, and the sink is untouched
abbrev pub IsRefusedAs : WriteOptions → Geometry → Result (Unit {0}) WkbError → Type 0 → Type 0
IsRefusedAs options g r untouched =
    (f : Fault) → fault_under options.endianness options.form g ≡ Some f → IsErrAnd r (λ e. TellsFault e f) × untouched

-- what is not rejected is put to the sink, at Ok the whole of it
abbrev pub IsWrittenAs : WriteOptions → Geometry → Result (Unit {0}) WkbError → Option (List ℕ) → Option (List ℕ) → Bool
    → Type 0
IsWrittenAs options g r old new failed =
    fault_under options.endianness options.form g ≡ None
    → Puts old new failed (encoding options.endianness options.form g) r

-- bytes that spell the value were appended, once. Each geometry is in the options' order, and only the outermost has
-- an SRID: that of the options
pub record IsSpelled (options : WriteOptions) (t : Value) (old new : Option (List ℕ)) : Type 0 where
  pub encoding : List ℕ
  pub spelling : Spelling
  pub spelled : Spells spelling t encoding
  pub options_kept : HasOptions options.endianness options.form spelling
  pub appended : Appends old new encoding

-- what was appended at Ok spells the value that the geometry means
abbrev pub IsSpelledAs : WriteOptions → Geometry → Result (Unit {0}) WkbError → Option (List ℕ) → Option (List ℕ)
    → Type 0
IsSpelledAs options g r old new = IfOk r (λ _. IsSpelled options (normal g) old new)

-- the error for what is not rejected is the sink's own, or says that the sink took nothing
abbrev pub IsFailedAs : WriteOptions → Geometry → Result (Unit {0}) WkbError → (Option Error → Type 0) → Type 0
IsFailedAs options g r fails_by = fault_under options.endianness options.form g ≡ None → IfErr r (IsOwnError fails_by)

-- what a writer promises of a geometry under its options: what it does with a rejected one and with one that is not,
-- what the appended bytes spell, and whose error it returns
pub record Writes (options : WriteOptions) (g : Geometry) (r : Result (Unit {0}) WkbError) (untouched : Type 0)
    (old new : Option (List ℕ)) (failed : Bool) (fails_by : Option Error → Type 0) : Type 0 where
  pub refused : IsRefusedAs options g r untouched
  pub written : IsWrittenAs options g r old new failed
  pub spelled : IsSpelledAs options g r old new
  pub own : IsFailedAs options g r fails_by

-- what a writer promises, by the sink's ghost members
abbrev pub WritesTo : {S : Type 0} → Ghosts S → S → S → WriteOptions → Geometry → Result (Unit {0}) WkbError → Type 0
WritesTo sink old new options g r =
    Writes options g r (new ≡ old) (sink.appended old) (sink.appended new) (sink.has_failed new) (sink.fails_by new)

-- what a writer promises that copies an encoding, of each geometry without a fault that has it
abbrev pub CopiesTo : {S : Type 0} → Ghosts S → S → S → WriteOptions → List ℕ → Result (Unit {0}) WkbError → Type 0
CopiesTo sink old new options bytes r =
    (g : Geometry) → IsGeometry g → fault g ≡ None → bytes ≡ encoding_of options g → WritesTo sink old new options g r

-- the sink took a geometry's encoding, or failed as the result says
abbrev pub PutsGeometry : {S : Type 0} → Ghosts S → S → S → WriteOptions → Geometry → Result (Unit {0}) (Option Error)
    → Type 0
PutsGeometry sink old new options g r = PutsTo sink old new (encoding_of options g) r

-- the result is that of putting, where a failure is reported by the error
abbrev pub TellsPut : Result (Unit {0}) (Option Error) → Result (Unit {0}) WkbError → Type 0
TellsPut put r = MatchResult put (λ u. r ≡ Ok u) (λ failure. IsErrAnd r (λ e. TellsFailure e failure))

-- the slice begins with the encoding, whose size is n, and the bytes after it are as they were
pub record IsInFront (old new encoding : List ℕ) (n : ℕ) : Type 0 where
  pub len : n ≡ length encoding
  pub whole : new ≡ encoding ++ drop n old

-- what isn't rejected is longer than the slice, and the error says that nothing was taken
pub record OutgrowsSlice (options : WriteOptions) (g : Geometry) (old : List ℕ) (e : WkbError) : Type 0 where
  pub writable : fault_of options g ≡ None
  pub short : length old < length (encoding_of options g)
  pub taken : TellsFailure e None

-- the error is an allocation failure, or reports what is rejected
abbrev pub IsVecError : WriteOptions → Geometry → WkbError → Type 0
IsVecError options g e = IsMemory e ⊎ Reports e (fault_of options g)

-- what a writer to a vector promises: the vector is the encoding, or the error reports what is rejected. Only where
-- nothing is, it may be an allocation failure
pub record WritesToVec (options : WriteOptions) (g : Geometry) (r : Result (Vec ℕ Global) WkbError) : Type 0 where
  pub ok : IfOk r (λ out. out.items ≡ encoding_of options g)
  pub writable : IfOk r (λ _. fault_of options g ≡ None)
  pub err : IfErr r (IsVecError options g)
  pub memory : IfErr r (λ e. IsMemory e → fault_of options g ≡ None)

-- the error reports what is rejected, or that the slice is too short
abbrev pub IsSliceError : WriteOptions → Geometry → List ℕ → WkbError → Type 0
IsSliceError options g old e = Reports e (fault_of options g) ⊎ OutgrowsSlice options g old e

-- what a writer to the front of a slice promises: the result is the size of the encoding, which stands there, or the
-- slice is as it was
pub record WritesToSlice (options : WriteOptions) (g : Geometry) (old new : List ℕ) (r : Result ℕ WkbError) : Type 0
  where
    pub ok : IfOk r (IsInFront old new (encoding_of options g))
    pub writable : IfOk r (λ _. fault_of options g ≡ None)
    pub err : IfErr r (IsSliceError options g old)
    pub kept : IfErr r (λ _. new ≡ old)
