-- What becomes of a row that is written.
use Rattle.std.specs.Prelude.{◌≡◌, ℕ, ◌<◌, ◌++◌, List, None, length, drop}
use Rattle.wkb_geom.specs.declared.common.Dimensions.{Dimensions}
use Rattle.wkb_sink.specs.declared.options.WriteOptions.{WriteOptions}
use Rattle.wkb_write.specs.Prelude.{encoding_of, fault_of, Geometry}
use Rattle.wkb_levels.specs.declared.{levels.Levels.Levels, row.Kind.Kind, write.Written.Written}
use Rattle.wkb_levels.specs.declared.write.Written.TheVariants as written
use Rattle.wkb_levels.specs.Meant.{IsLevelRow}

-- the bytes are the encoding of row i under the options
pub record HasRowEncoding (l : Levels) (kind : Kind) (d : Dimensions) (o : WriteOptions) (i : ℕ) (bytes : List ℕ)
    : Type 0 where
  pub geometry : Geometry
  pub row : IsLevelRow l kind d i geometry
  pub writable : fault_of o geometry ≡ None
  pub is : bytes ≡ encoding_of o geometry

-- what became of row i, and of the bytes
pub data IsRowWrite (l : Levels) (kind : Kind) (d : Dimensions) (o : WriteOptions) (i : ℕ) (before after : List ℕ)
    (outcome : Written) : Type 0 where
  put : (bytes : List ℕ) → HasRowEncoding l kind d o i bytes → outcome ≡ written.Whole (length bytes)
      → after ≡ bytes ++ drop (length bytes) before → IsRowWrite l kind d o i before after outcome
  lacks : (bytes : List ℕ) → HasRowEncoding l kind d o i bytes → outcome ≡ written.LacksRoom (length bytes)
      → length before < length bytes → after ≡ before → IsRowWrite l kind d o i before after outcome
  unfit : ((bytes : List ℕ) → HasRowEncoding l kind d o i bytes → ⊥) → outcome ≡ written.Unfit → after ≡ before
      → IsRowWrite l kind d o i before after outcome
