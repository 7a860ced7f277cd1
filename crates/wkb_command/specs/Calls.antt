-- Calls on hex texts.
use Rattle.std.specs.Prelude.{◌≡◌, ℕ, ◌%◌, Bool, List, length, Ok, ◌⊎◌, MatchBool}
use Rattle.std.specs.List.{AllPass}
use Rattle.hex.specs.Hex.{decode_of, is_hex_digit}
use Rattle.hex.specs.declared.{error.FromHexError.FromHexError, error.FromHexError.TheVariants.OutOfMemory}
use Rattle.wkb_geom.specs.declared.{error.Cause.Cause, error.WkbError.WkbError}
use Rattle.wkb.specs.Canonical.{HaveOneValue, HaveTwoValues}
use Rattle.wkb_command.specs.Readings.{Accepts, IsRefused}
use Rattle.wkb_command.specs.declared.{calls.Cost.Cost, calls.HexFault.HexFault, calls.HexFault.TheVariants.NotHex}
use Rattle.wkb_command.specs.declared.{calls.HexFault.TheVariants.Wkb, calls.HexFault.TheVariants.Memory}
use Rattle.wkb_geom.specs.declared.error.WkbError.TheVariants as errors

-- hex digits in either case, two for each byte
pub record IsHex (text : List ℕ) : Type 0 where
  pub pairs : length text % 2 ≡ 0
  pub digits : AllPass is_hex_digit text

-- the text is the hex of these bytes
pub record IsHexOf (text bytes : List ℕ) : Type 0 where
  pub decoded : decode_of text ≡ Ok bytes

-- what is said of the bytes that a text spells
abbrev pub OfHex : List ℕ → (List ℕ → Type 0) → Type 0
OfHex text P = (bytes : List ℕ) × IsHexOf text bytes × P bytes

-- two texts are hex, and the statement holds for the bytes that they spell
abbrev pub OfTwoHexes : List ℕ → List ℕ → (List ℕ → List ℕ → Type 0) → Type 0
OfTwoHexes first second P = OfHex first (λ a. OfHex second (λ b. P a b))

-- whether two inputs begin with geometries of one value
abbrev pub AreCompared : Bool → List ℕ → List ℕ → Type 0
AreCompared equal a b = MatchBool equal (HaveOneValue a b) (HaveTwoValues a b)

-- whether an input is accepted, after so many turns and slots
abbrev pub IsCost : Cost → List ℕ → Type 0
IsCost cost bytes =
    MatchBool cost.accepted (Accepts bytes cost.counts.turns cost.counts.slots)
    ((cause : Cause) × IsRefused bytes cause cost.counts.turns cost.counts.slots)

-- A failure of a call: not all of its texts are hex, or an error is right for what they spell, or an allocation failed.
abbrev pub IsFailureOf : Type 0 → (WkbError → Type 0) → HexFault → Type 0
IsFailureOf AreHex IsRight NotHex = ¬ AreHex
IsFailureOf AreHex IsRight (Wkb e) = IsRight e
IsFailureOf AreHex IsRight Memory = Unit {0}

-- a failure of a call on one text, for whose bytes an error is right
abbrev pub FailsOn : List ℕ → (List ℕ → WkbError → Type 0) → HexFault → Type 0
FailsOn text IsRight = IsFailureOf (IsHex text) (λ e. OfHex text (λ bytes. IsRight bytes e))

-- and of one on two texts
abbrev pub FailsOnTwo : List ℕ → List ℕ → (List ℕ → List ℕ → WkbError → Type 0) → HexFault → Type 0
FailsOnTwo first second IsRight =
    IsFailureOf (IsHex first × IsHex second) (λ e. OfTwoHexes first second (λ a b. IsRight a b e))

-- an allocation failed, or the text isn't hex
abbrev pub IsDecodingFailure : List ℕ → HexFault → Type 0
IsDecodingFailure text failure = (failure ≡ Memory) ⊎ ((failure ≡ NotHex) × ¬ IsHex text)

-- a failed allocation is always `Memory`
abbrev pub FailureOfError : WkbError → HexFault → Type 0
FailureOfError (errors.Memory e) failure = failure ≡ Memory
FailureOfError e failure = failure ≡ Wkb e

abbrev pub FailureOfHexError : FromHexError → HexFault → Type 0
FailureOfHexError OutOfMemory failure = failure ≡ Memory
FailureOfHexError _ failure = failure ≡ NotHex
