-- What is written of the geometry that bytes begin with.
use Rattle.std.specs.Prelude.{◌≡◌, ◌≤◌, ℕ, List, length}
use lib.Seq.{sets}
use Rattle.wkb_laws.specs.Prelude.{Endianness, Form, encoding, geometry_of, Value}
use Rattle.wkb_check.specs.Known.{HasGeometry}
use Rattle.wkb_sink.specs.declared.options.WriteOptions.{WriteOptions}

-- the encoding of a value under options
abbrev pub encoding_for : WriteOptions → Value → List ℕ
encoding_for options t = encoding options.endianness options.form (geometry_of t)

-- whatever geometry the input begins with, this is its encoding under the options
abbrev pub IsFrontEncoding : List ℕ → WriteOptions → List ℕ → Type 0
IsFrontEncoding input options bytes = (g : HasGeometry input) → encoding_for options g.value ≡ bytes

-- whatever geometry the input begins with, its encoding in this order and form has this size
abbrev pub IsFrontSize : List ℕ → Endianness → Form → ℕ → Type 0
IsFrontSize input order form n = (g : HasGeometry input) → n ≡ length (encoding order form (geometry_of g.value))

-- whatever geometry the input begins with, its encoding under the options is no longer than the slice
abbrev pub FrontFits : List ℕ → WriteOptions → List ℕ → Type 0
FrontFits input options slice = (g : HasGeometry input) → length (encoding_for options g.value) ≤ length slice

-- whatever geometry the input begins with, its encoding under the options was laid at the start of the slice
abbrev pub LaysFront : List ℕ → WriteOptions → List ℕ → List ℕ → Type 0
LaysFront input options old new = (g : HasGeometry input) → new ≡ sets old 0 (encoding_for options g.value)
