-- Why a row has no items is never that it lacks room.
use Rattle.wkb_abi.proofs.Common.{ℕ, Option, arith, Column, RowFails, Options, NO_ROOM}
use Rattle.wkb_abi.specs.LevelRows.{LacksLevels}
use Rattle.wkb_abi.specs.Writings.{FailsToWrite}
use Rattle.wkb_abi.specs.declared.{level_column.LevelColumn.LevelColumn, level_column.LevelTarget.LevelTarget}

-- the status of a row without items is another
abbrev pub TellsOther : (ℕ → ℕ → Type 0) → Type 0
TellsOther Fails = (i : ℕ) → Fails i NO_ROOM → ⊥

pub encodings_tell_other : (o : Options) (c : Column) → TellsOther (RowFails (FailsToWrite o) c)
encodings_tell_other o c i x = grind arith

pub levels_tell_other : (c : LevelColumn) (asked : Option LevelTarget) → TellsOther (LacksLevels c asked)
levels_tell_other c asked i x = grind arith
