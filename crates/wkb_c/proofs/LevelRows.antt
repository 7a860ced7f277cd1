-- What becomes of a row in levels.
use Rattle.wkb_abi.proofs.Common.{◌≡◌, ℕ, ◌+◌, List, length, Option, Some, None, ap, arith, false, IsRowStep}
use Rattle.wkb_laws.specs.Prelude.{Dimensions}
use Rattle.wkb_levels.specs.declared.{levels.Levels.Levels, levels.Place.Place, write.Written.Written}
use Rattle.wkb_levels.specs.declared.{write.Written.TheVariants.Whole, write.Written.TheVariants.LacksRoom}
use Rattle.wkb_levels.specs.declared.write.Written.TheVariants.{Unfit}
use Rattle.wkb_levels.specs.Columns.{IsFloor}
use Rattle.wkb_levels.specs.RowWrites.{IsRowWrite, HasRowEncoding}
use Rattle.wkb_levels.specs.RowWrites as row_writes
use Rattle.wkb_abi.specs.Columns.{is_unset_bit}
use Rattle.wkb_abi.specs.LevelRows.{HasLevelEncoding, LacksLevels, unfit}
use Rattle.wkb_abi.specs.LevelTargets.{levels_in, Ready}
use Rattle.wkb_abi.specs.declared.{level_column.LevelColumn.LevelColumn, level_column.LevelTarget.LevelTarget}
use Rattle.wkb_abi.specs.declared.{status.TheConstants.BAD_LEVELS, status.TheConstants.NO_ROOM, status.TheConstants.OK}
use Rattle.wkb_c.proofs.Encodings.{some_encoding}
use Rattle.wkb_abi.specs.RowItems.{nothing}
use Rattle.wkb_c.proofs.RowItems.{IsLent, unchanged, laid_step, lacks_step}

-- the status of a row of which this became
abbrev pub row_status : Written → ℕ
row_status (Whole n) = OK
row_status (LacksRoom n) = NO_ROOM
row_status Unfit = BAD_LEVELS

-- how long its encoding is
abbrev pub row_size : Written → ℕ
row_size (Whole n) = n
row_size (LacksRoom n) = n
row_size Unfit = 0

-- in front of all rows nothing is passed
pub ready_first : (c : LevelColumn) (asked : Option LevelTarget) (floor : Place)
    → ((l : Levels) (d : Dimensions) → IsFloor l d 0 floor) → Ready c asked 0 floor
ready_first c None floor front = tt
ready_first c (Some t) floor front = front (levels_in c) t.dim

module _ {c : LevelColumn} {asked : Option LevelTarget} {i : ℕ} (t : LevelTarget) (is_asked : asked ≡ Some t)
    (present : is_unset_bit c.validity.now (c.validity_offset + i) ≡ false) where
  has_encoding : (bytes : List ℕ) → HasRowEncoding (levels_in c) t.kind t.dim t.options i bytes
      → HasLevelEncoding c asked i bytes
  has_encoding bytes has = record { present = present; target = t; is_asked = is_asked; encoding = has }

  -- what became of a row is what a step of it says
  pub written_step : {start : ℕ} {before lent sub after : List ℕ} {w : Written} → IsLent start before lent sub after
      → IsRowWrite (levels_in c) t.kind t.dim t.options i lent sub w
      → IsRowStep (HasLevelEncoding c asked) (LacksLevels c asked) i (row_status w) (row_size w) start before after
  written_step l (row_writes.put bytes has is whole) =
      laid_step l bytes (has_encoding bytes has) (ap row_status is)
      (omega (arith, ap length has.is, some_encoding t.options.endianness t.options.form has.geometry))
      (record { count_is = ap row_size is; whole = whole })
  written_step l (row_writes.lacks bytes has is short same) =
      lacks_step l bytes (has_encoding bytes has) (ap row_status is)
      (record { count_is = ap row_size is; short = short }) same
  written_step l (row_writes.unfit differ is same) =
      nothing (unfit present t is_asked differ (ap row_status is)) (ap row_size is) (unchanged l same)
