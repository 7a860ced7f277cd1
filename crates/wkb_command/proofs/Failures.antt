-- The failures of the calls.
use Rattle.std.proofs.Common.{arith, ◌≡◌, ℕ, List, Result, Ok, Err, ◌⊎◌, IfErr, IsErrAnd}
use Rattle.hex.specs.Hex.{decode_of}
use Rattle.hex.specs.declared.{error.FromHexError.FromHexError, error.FromHexError.TheVariants.OutOfMemory}
use Rattle.wkb_geom.specs.Errors.{IsMemory}
use Rattle.wkb_geom.specs.declared.error.WkbError.{WkbError}
use Rattle.wkb_geom.specs.declared.error.WkbError.TheVariants as errors
use Rattle.wkb_command.specs.declared.calls.HexFault.{HexFault}
use Rattle.wkb_command.specs.Calls.{IsFailureOf, IsDecodingFailure, FailureOfError, FailureOfHexError}
use Rattle.wkb_command.proofs.Spelled.{not_hex}

decode_failure : (text : List ℕ) (e : FromHexError) (failure : HexFault) → (e ≡ OutOfMemory) ⊎ (decode_of text ≡ Err e)
    → FailureOfHexError e failure → IsDecodingFailure text failure
decode_failure text e failure h is = grind (arith, not_hex)

pub decode_failed : {T : Type 0} (text : List ℕ) (e : FromHexError) (r : Result T HexFault)
    → (e ≡ OutOfMemory) ⊎ (decode_of text ≡ Err e) → IsErrAnd r (FailureOfHexError e)
    → IfErr r (IsDecodingFailure text)
decode_failed text e (Ok x) h failed = tt
decode_failed text e (Err failure) h failed = decode_failure text e failure h failed

-- a call on the bytes of hex texts failed, and what it says of them is right for the texts
pub call_failed : {T : Type 0} (AreHex Said : Type 0) (IsRight : WkbError → Type 0) (e : WkbError)
    (r : Result T HexFault)
    → IsMemory e ⊎ Said → IsErrAnd r (FailureOfError e) → (Said → IsRight e) → IfErr r (IsFailureOf AreHex IsRight)
call_failed AreHex Said IsRight e r h failed f = grind arith
