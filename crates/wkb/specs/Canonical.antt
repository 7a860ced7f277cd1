-- The canonical form of an input, and the comparison of two.
use Rattle.std.specs.Prelude.{◌≡◌, ◌⊎◌, ℕ, ◌^◌, ◌<◌, ◌≤◌, List, length}
use Rattle.wkb_laws.specs.Prelude.{Endianness, Form, Iso, Value, Spelling, Front, geometry_of, encoding, IsRewriting}
use Rattle.wkb_geom.specs.declared.{error.Overflow.TheVariants.Size, error.WkbError.WkbError}
use Rattle.wkb_geom.specs.declared.error.WkbError.TheVariants as errors
use Rattle.wkb_sink.specs.declared.options.WriteOptions.{WriteOptions}
use Rattle.wkb_read.specs.Reads.{IsRefusal}
pub use Rattle.wkb_check.specs.Inputs.{IsAccepted, HaveOneValue, HaveTwoValues}

-- the error says that the encoding is too long
abbrev pub IsSize : WkbError → Type 0
IsSize (errors.OverflowError o) = o ≡ Size
IsSize _ = ⊥

-- the rewriting has a length that `usize` holds, and with the SRID of the form it has not
pub record OverflowsWithSrid (order : Endianness) (form : Form) (input : List ℕ) : Type 0 where
  pub s : Spelling
  pub t : Value
  pub rest : List ℕ
  pub front : Front input s t rest
  pub plain : length (encoding order Iso (geometry_of t)) < 2 ^ 64
  pub with_srid : 2 ^ 64 ≤ length (encoding order form (geometry_of t))

-- the encoding under these options of the geometry that the input begins with
abbrev pub IsRewritingUnder : WriteOptions → List ℕ → List ℕ → Type 0
IsRewritingUnder options input out = IsRewriting options.endianness options.form input out

-- the input is rejected, or its encoding under these options is too long, and the error says which
abbrev pub IsRefusedUnder : WriteOptions → List ℕ → WkbError → Type 0
IsRefusedUnder options input e =
    IsRefusal input e ⊎ (OverflowsWithSrid options.endianness options.form input × IsSize e)

-- the first input is rejected, or it begins with a geometry and the second is rejected, and the error says why
abbrev pub IsPairRefusal : List ℕ → List ℕ → WkbError → Type 0
IsPairRefusal a b e = IsRefusal a e ⊎ (IsAccepted a × IsRefusal b e)
