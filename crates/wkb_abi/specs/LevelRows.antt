-- The statuses of the rows of a column in levels, and what is written of them.
use Rattle.std.specs.Prelude.{◌≡◌, ℕ, ◌+◌, min, List, length, Option, Some, None, true, false}
use Rattle.wkb_levels.specs.EndLists.{ends_of}
use Rattle.wkb_levels.specs.RowWrites.{HasRowEncoding}
use Rattle.wkb_abi.specs.Columns.{is_unset_bit}
use Rattle.wkb_abi.specs.LevelTargets.{levels_in, target_asked}
use Rattle.wkb_abi.specs.RowItems.{rows_of, AreRowAnswers, IsRowStep, KeepsAfter, LastEndSuffices}
use Rattle.wkb_abi.specs.declared.{level_column.LevelColumn.LevelColumn, level_column.LevelTarget.LevelTarget}
use Rattle.wkb_abi.specs.declared.{options.Options.Options, status.TheConstants.NULL_ROW}
use Rattle.wkb_abi.specs.declared.{status.TheConstants.UNKNOWN_OPTION, status.TheConstants.BAD_LEVELS}

-- row i isn't null, and these bytes are its encoding as what is asked for
pub record HasLevelEncoding (c : LevelColumn) (asked : Option LevelTarget) (i : ℕ) (bytes : List ℕ) : Type 0 where
  pub present : is_unset_bit c.validity.now (c.validity_offset + i) ≡ false
  pub target : LevelTarget
  pub is_asked : asked ≡ Some target
  pub encoding : HasRowEncoding (levels_in c) target.kind target.dim target.options i bytes

-- row i has no encoding, and this status says why
pub data LacksLevels (c : LevelColumn) (asked : Option LevelTarget) (i status : ℕ) : Type 0 where
  null_row : is_unset_bit c.validity.now (c.validity_offset + i) ≡ true → status ≡ NULL_ROW
      → LacksLevels c asked i status
  unknown : is_unset_bit c.validity.now (c.validity_offset + i) ≡ false → asked ≡ None → status ≡ UNKNOWN_OPTION
      → LacksLevels c asked i status
  unfit : is_unset_bit c.validity.now (c.validity_offset + i) ≡ false → (t : LevelTarget) → asked ≡ Some t
      → ((bytes : List ℕ) → HasRowEncoding (levels_in c) t.kind t.dim t.options i bytes → ⊥) → status ≡ BAD_LEVELS
      → LacksLevels c asked i status

-- the status of row i and the length of its encoding, which is laid behind those before it if there is room
abbrev pub IsLevelStep : LevelColumn → Option LevelTarget → ℕ → ℕ × ℕ → ℕ → List ℕ → List ℕ → Type 0
IsLevelStep c asked i result start before after =
    IsRowStep (HasLevelEncoding c asked) (LacksLevels c asked) i result.0 result.1 start before after

-- as many rows as the column and both of these lists have entries for
abbrev pub level_rows : LevelColumn → List ℕ → List ℕ → ℕ
level_rows c statuses ends = min (rows_of statuses ends) (length (ends_of (levels_in c).row_ends))

-- after the last encoding of these rows nothing has changed
abbrev pub KeepsLevelRest : LevelColumn → List ℕ → List ℕ → List ℕ → List ℕ → Type 0
KeepsLevelRest c statuses ends before after = KeepsAfter (level_rows c statuses ends) statuses ends before after

-- with room up to the end of the last of these rows none of them lacks room
abbrev pub LastLevelEndSuffices : LevelColumn → List ℕ → List ℕ → List ℕ → Type 0
LastLevelEndSuffices c statuses ends out = LastEndSuffices (level_rows c statuses ends) statuses ends out

-- the encodings of the rows of a column, as the numbers ask for them
abbrev pub EncodeLevels : ℕ → ℕ → Options → LevelColumn → List ℕ → List ℕ → List ℕ → Type 0
EncodeLevels kind dimension o c statuses ends out =
    AreRowAnswers (HasLevelEncoding c (target_asked kind dimension o)) (LacksLevels c (target_asked kind dimension o))
    (level_rows c statuses ends) statuses ends out
