-- What was appended to a sink, where it tells its bytes, and whether it has failed.
use Rattle.std.specs.Prelude.{◌≡◌, ◌==◌, ◌&&◌, nat_lt, ℕ, ◌<◌, Bool, true, false, List, [], ◌++◌, length, Option}
use Rattle.std.specs.Prelude.{Some, None, IsSomeAnd, Result, Ok, Err, MatchResult}
use Rattle.std.specs.declared.{io.Error.Error, io.ErrorKind.TheVariants.OutOfMemory, io.ErrorKind.TheVariants.WriteZero}
use Rattle.std.specs.IoError.{error_kind}
use Rattle.std.specs.Io.KnownBytes.{Appends}
use Rattle.wkb_geom.specs.declared.error.WkbError.{WkbError}
use Rattle.wkb_geom.specs.declared.error.WkbError.TheVariants as errors

-- whether this result of a put of the bytes is a failure
abbrev pub put_fails : {E : Type 0} → List ℕ → Result ℕ E → Bool
put_fails bytes (Ok n) = n == 0 && nat_lt 0 (length bytes)
put_fails bytes (Err e) = true

-- what was appended of bytes that are put as a whole, or not at all
abbrev pub put_whole : {E : Type 0} → Result Bool E → List ℕ → List ℕ
put_whole (Ok true) whole = whole
put_whole _ whole = []

-- a put with this result appended these bytes so
abbrev pub PutsWhole : {E : Type 0} → Option (List ℕ) → Option (List ℕ) → Result Bool E → List ℕ → Type 0
PutsWhole old new r whole = Appends old new (put_whole r whole)

-- a put of the bytes failed by this error, or by none, as nothing was taken of some bytes
abbrev pub FailsBy : List ℕ → Result ℕ Error → Option Error → Type 0
FailsBy bytes r (Some e) = r ≡ Err e
FailsBy bytes r None = (r ≡ Ok 0) × (0 < length bytes)

-- a fact is known of each error by which a put of the bytes failed
abbrev pub KnownOfFailure : List ℕ → Result ℕ Error → (Option Error → Type 0) → Type 0
KnownOfFailure bytes r known = (failure : Option Error) → FailsBy bytes r failure → known failure

-- a put failed by an error that reports a failed allocation
abbrev pub IsOutOfMemory : Option Error → Type 0
IsOutOfMemory failure = IsSomeAnd failure (λ e. error_kind e ≡ OutOfMemory)

-- a fact is known of each error that reports a failed allocation
abbrev pub IsShortOfMemory : (Option Error → Type 0) → Type 0
IsShortOfMemory known = (e : Error) → error_kind e ≡ OutOfMemory → known (Some e)

-- the error reports how the sink failed: it is the sink's own, or says that nothing was taken
abbrev pub TellsFailure : WkbError → Option Error → Type 0
TellsFailure e (Some own) = e ≡ errors.IOError own
TellsFailure (errors.IOError e) None = error_kind e ≡ WriteZero
TellsFailure _ None = ⊥

abbrev pub IsIOError : WkbError → Type 0
IsIOError (errors.IOError e) = Unit {0}
IsIOError _ = ⊥

-- the encoding was appended, once
pub record IsWritten (old new : Option (List ℕ)) (encoding : List ℕ) : Type 0 where
  pub appended : Appends old new encoding

-- a strict prefix of the encoding was appended
pub record IsBegun (old new : Option (List ℕ)) (encoding : List ℕ) : Type 0 where
  pub front : List ℕ
  pub rest : List ℕ
  pub whole : encoding ≡ front ++ rest
  pub left : 0 < length rest
  pub appended : Appends old new front

-- an error that reports a failure of this sink
abbrev pub IsOwnError : (Option Error → Type 0) → WkbError → Type 0
IsOwnError fails_by e = (failure : Option Error) × fails_by failure × TellsFailure e failure

-- the encoding was written, or the error says that the sink failed
abbrev pub Puts : Option (List ℕ) → Option (List ℕ) → Bool → List ℕ → Result (Unit {0}) WkbError → Type 0
Puts old new failed encoding r =
    MatchResult r (λ _. IsWritten old new encoding × (failed ≡ false))
    (λ e. IsIOError e × IsBegun old new encoding × (failed ≡ true))

-- the encoding was put, or the sink failed as the result of this step says
abbrev pub PutsOrStops : Option (List ℕ) → Option (List ℕ) → Bool → (Option Error → Type 0) → List ℕ
    → Result (Unit {0}) (Option Error) → Type 0
PutsOrStops old new failed fails_by encoding r =
    MatchResult r (λ _. IsWritten old new encoding × (failed ≡ false))
    (λ e. IsBegun old new encoding × (failed ≡ true) × fails_by e)
