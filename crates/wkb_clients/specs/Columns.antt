-- Encodings of the rows of a column of coordinates.
use Rattle.std.specs.Prelude.{ℕ, Option, MatchOption, Vec}
use Rattle.std.specs.Global.{Global}
use Rattle.wkb.specs.Prelude.{Dimensions}
use Rattle.wkb.specs.Levels.{Levels, Kind, HasNoLevelRow, HasRowEncoding}
use Rattle.wkb.specs.Writes.{WriteOptions}

-- what is found is the encoding of row i as a geometry of this kind, or nothing if the row means none
abbrev pub FindsRowEncoding : Levels → Kind → Dimensions → WriteOptions → ℕ → Option (Vec ℕ Global) → Type 0
FindsRowEncoding l kind d options i found =
    MatchOption found (HasNoLevelRow l kind d i) (λ bytes. HasRowEncoding l kind d options i bytes.items)
