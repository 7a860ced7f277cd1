-- What makes a geometry impossible to write, and its size.
use Rattle.std.specs.Prelude.{◌≡◌, ℕ, ◌+◌, ◌-◌, ◌^◌, min, Option, Some, None, Result, Ok, Err, MatchResult, MatchOption}
use Rattle.wkb_laws.specs.Prelude.{Dimensions, fault, count_fault, dimensions_fault, Fault}
use Rattle.wkb_geom.specs.declared.error.WkbError.{WkbError}
use Rattle.wkb_geom.specs.Errors.{TellsFault}
use Rattle.wkb_geom.specs.Geometries.{Geometry, IsGeometry, dimensions_of}
use Rattle.wkb_geom.specs.declared.error.Fault.TheVariants as fault
use Rattle.wkb_write.specs.declared.measure.Measured.{Measured}
use Rattle.wkb_write.specs.declared.measure.Measured.TheVariants as measured
use Rattle.wkb_write.specs.Bodies.{Measure, bytes_behind_header, body_fault, size_by_parts}

-- what was measured, as a result
abbrev pub result_of : Measured → Result ℕ Fault
result_of (measured.Bytes n) = Ok n
result_of (measured.UnsupportedDimensions n) = Err (fault.UnsupportedDimensions n)
result_of measured.Count = Err fault.Count
result_of measured.Size = Err fault.Size

-- the error reports the fault
pub record Reports (e : WkbError) (f : Option Fault) : Type 0 where
  pub fault : Fault
  pub is : f ≡ Some fault
  pub tells : TellsFault e fault

-- what was found is the fault
pub record Finds (e : Fault) (f : Option Fault) : Type 0 where
  pub is : f ≡ Some e

-- the words of the dimension, where it can't be written and this is the fault; none if it has no fault
abbrev pub FindsUnsupported : Dimensions → Option ℕ → Type 0
FindsUnsupported dim found =
    MatchOption found (dimensions_fault dim ≡ None)
    (λ n. Finds (fault.UnsupportedDimensions n) (dimensions_fault dim))

-- the count, which has no fault; none if the count is the fault
abbrev pub IsCountToWrite : ℕ → Option ℕ → Type 0
IsCountToWrite n count =
    MatchOption count (Finds fault.Count (count_fault n)) (λ m. (count_fault n ≡ None) × (m ≡ n))

-- the number, or the greatest `usize` where the number is greater
abbrev pub capped : ℕ → ℕ
capped n = min n (2 ^ 64 - 1)

-- there is no fault, and the result is the capped size; or the result is the fault
abbrev pub Measures : Option Fault → ℕ → Result ℕ Fault → Type 0
Measures fault size r = MatchResult r (λ n. (fault ≡ None) × (n ≡ capped size)) (λ e. Finds e fault)

-- what was measured is the part's first fault, or its size
abbrev pub IsMeasureOf : Measure → Measured → Type 0
IsMeasureOf part measured = Measures part.fault part.size (result_of measured)

-- the result is the geometry's first fault, or its size without the header
unfoldable pub IsMeasured : Geometry → Result ℕ Fault → Type 0
IsMeasured g r = Measures (fault g) (bytes_behind_header g) r

-- where the body was measured of a geometry of these dimensions, this was measured of the geometry
abbrev pub IsMeasuredBehindHeader : Dimensions → Measured → Measured → Type 0
IsMeasuredBehindHeader dim body measured =
    (g : Geometry) → dim ≡ dimensions_of g → Measures (body_fault g) (size_by_parts g) (result_of body)
    → IsMeasured g (result_of measured)

-- a statement holds for each geometry of which this was measured
abbrev pub OfMeasured : Measured → (Geometry → Type 0) → Type 0
OfMeasured measured P = (g : Geometry) → IsGeometry g → IsMeasured g (result_of measured) → P g

-- the result is the geometry's first fault, or its size without the header added to the size before it
unfoldable pub IsAdded : ℕ → Geometry → Result ℕ Fault → Type 0
IsAdded before g r = Measures (fault g) (before + bytes_behind_header g) r
