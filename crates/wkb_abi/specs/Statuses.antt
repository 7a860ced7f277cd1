-- The status of a refusal, and its numbers.
use Rattle.std.specs.Prelude.{◌≡◌, ◌⊎◌, ℕ, ◌+◌, List, length}
use Rattle.wkb_geom.specs.declared.{error.General.General, error.General.TheVariants.UnsupportedDimensions}
use Rattle.wkb_geom.specs.declared.{error.General.TheVariants.CodeOutOfRange, error.Cause.Cause}
use Rattle.wkb_laws.specs.Prelude.{InvalidByteOrder, ShortPoint, ShortLineString, ShortLinearRing, ShortMultiPoint, any}
use Rattle.wkb_geom.specs.Fronts.{max_nesting}
use Rattle.wkb_geom.specs.declared.error.Cause.TheVariants.{EndOfInput as end_of_input, General as general}
use Rattle.wkb_geom.specs.declared.error.Cause.TheVariants.{IncorrectType as incorrect_type}
use Rattle.wkb_geom.specs.declared.error.Cause.TheVariants.{NestingDepthExceeded as nesting_depth_exceeded}
use Rattle.wkb_geom.specs.Refusals.{Refuses, left_in}
use Rattle.wkb_check.specs.Public.{IsRefusedForWithin}
use Rattle.wkb_check.specs.Prelude.{IsAccepted, HaveOneValue, HaveTwoValues}
use Rattle.wkb_check.specs.declared.answer.Refused.{Refused}
use Rattle.wkb_abi.specs.Classes.{IsRefusalStatus}
use Rattle.wkb_abi.specs.declared.status.TheConstants.{INVALID_BYTE_ORDER, CODE_OUT_OF_RANGE, NESTING_DEPTH_EXCEEDED}
use Rattle.wkb_abi.specs.declared.status.TheConstants.{NO_ROOM, SHORT_LINE_STRING, SHORT_MULTI_POINT, SHORT_LINEAR_RING}
use Rattle.wkb_abi.specs.declared.status.TheConstants.{OK, UNKNOWN_OPTION, SHORT_HEADER, INCORRECT_TYPE, SHORT_POINT}
use Rattle.wkb_abi.specs.declared.numbers.TheConstants.{FIRST, SECOND, DIFFERENT, EQUAL}
use Rattle.wkb_abi.specs.declared.fault.WkbFault.{WkbFault}

-- the status of a fault of the bytes (no reading rejects an unsupported dimension)
abbrev pub general_status : General → ℕ
general_status InvalidByteOrder = INVALID_BYTE_ORDER
general_status (CodeOutOfRange code) = CODE_OUT_OF_RANGE
general_status (UnsupportedDimensions n) = INCORRECT_TYPE
general_status (ShortPoint end len) = SHORT_POINT
general_status (ShortLineString end len) = SHORT_LINE_STRING
general_status (ShortMultiPoint end len) = SHORT_MULTI_POINT
general_status (ShortLinearRing end len) = SHORT_LINEAR_RING

-- the status of a cause
abbrev pub cause_status : Cause → ℕ
cause_status end_of_input = SHORT_HEADER
cause_status (general g) = general_status g
cause_status incorrect_type = INCORRECT_TYPE
cause_status (nesting_depth_exceeded n) = NESTING_DEPTH_EXCEEDED

-- the part of this number is rejected, which begins at this offset, and has no more numbers
abbrev pub plain_fault : ℕ → ℕ → ℕ → WkbFault
plain_fault status part offset =
    record { part = part; offset = offset; end = 0; len = 0; code = 0; status = status }

-- a part is rejected that would end there, where the input ends here
abbrev pub short_fault : ℕ → ℕ → ℕ → ℕ → ℕ → WkbFault
short_fault status part offset end len =
    record { part = part; offset = offset; end = end; len = len; code = 0; status = status }

-- the numbers of a fault of the bytes
abbrev pub general_fault : ℕ → ℕ → ℕ → General → WkbFault
general_fault status part offset InvalidByteOrder = plain_fault status part offset
general_fault status part offset (CodeOutOfRange code) =
    record { part = part; offset = offset; end = 0; len = 0; code = code; status = status }
general_fault status part offset (UnsupportedDimensions n) = plain_fault status part offset
general_fault status part offset (ShortPoint end len) = short_fault status part offset end len
general_fault status part offset (ShortLineString end len) = short_fault status part offset end len
general_fault status part offset (ShortMultiPoint end len) = short_fault status part offset end len
general_fault status part offset (ShortLinearRing end len) = short_fault status part offset end len

-- the numbers of a cause that rejects the part of this number and this offset
abbrev pub cause_fault : ℕ → ℕ → Cause → WkbFault
cause_fault part offset (general g) = general_fault (general_status g) part offset g
cause_fault part offset cause = plain_fault (cause_status cause) part offset

-- The input is rejected, with room for this many collections. The status says why, and the fault says which part, its
-- numbers, and where it begins: from there on the input has as many bytes as from the rejected part on.
pub record IsFaultWithin (room : ℕ) (input : List ℕ) (status : ℕ) (fault : WkbFault) : Type 0 where
  pub cause : Cause
  pub turns : ℕ
  pub slots : ℕ
  pub refuses : Refuses room any input cause turns slots
  pub offset : ℕ
  pub status_is : status ≡ cause_status cause
  pub fault_is : fault ≡ cause_fault turns offset cause
  pub begins : offset + length (left_in refuses) ≡ length input

-- whatever input is rejected so, with whatever room, this status and this fault say so
abbrev pub ReportsRefusal : Refused → ℕ → WkbFault → Type 0
ReportsRefusal e status fault =
    (room : ℕ) (input : List ℕ) → IsRefusedForWithin room input e → IsFaultWithin room input status fault

-- The input is rejected. The status says why, and the fault says which part, its numbers, and where it begins.
abbrev pub IsFault : List ℕ → ℕ → WkbFault → Type 0
IsFault input status fault = IsFaultWithin max_nesting input status fault

-- the first input is rejected, or it begins with a geometry and the second is rejected; the status and the fault tell
-- why, and `which` the input
abbrev pub IsRefusedInTurn : List ℕ → List ℕ → ℕ → WkbFault → ℕ → Type 0
IsRefusedInTurn a b status fault which =
    (IsFault a status fault × (which ≡ FIRST)) ⊎ (IsAccepted a × IsFault b status fault × (which ≡ SECOND))

-- whether both inputs begin with geometries of one value, as a number
pub data IsComparison (a b : List ℕ) (equal : ℕ) : Type 0 where
  one_value : equal ≡ EQUAL → HaveOneValue a b → IsComparison a b equal
  two_values : equal ≡ DIFFERENT → HaveTwoValues a b → IsComparison a b equal

-- what a call returns that writes into a room
pub data IsStatusOfListing (status : ℕ) : Type 0 where
  does : status ≡ OK → IsStatusOfListing status
  lacks_room : status ≡ NO_ROOM → IsStatusOfListing status
  refuses : IsRefusalStatus status → IsStatusOfListing status

-- and has options
abbrev pub IsStatusOfWriting : ℕ → Type 0
IsStatusOfWriting status = (status ≡ UNKNOWN_OPTION) ⊎ IsStatusOfListing status
