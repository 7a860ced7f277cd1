-- The rows of a column one after another.
use Rattle.std.specs.Prelude.{◌≡◌, ◌+◌, ◌≤◌, ◌<◌, length, Option, Some, None}
use Rattle.wkb_geom.specs.declared.common.Dimensions.{Dimensions}
use Rattle.wkb_levels.specs.declared.{levels.Levels.Levels, row.Kind.Kind, row.Row.Row, rows.Rows.Rows}
use Rattle.wkb_levels.specs.EndLists.{ends_of}
use Rattle.wkb_levels.specs.Meant.{FindsRow}

-- all rows of these levels, as geometries of this kind and dimension, are still to come
pub record AreAllRows (l : Levels) (kind : Kind) (d : Dimensions) (rows : Rows) : Type 0 where
  pub levels : rows.levels ≡ l
  pub kind_is : rows.kind ≡ kind
  pub dimension : rows.dim ≡ d
  pub first : rows.at ≡ 0

-- the rows behind the next are still to come
pub record IsPast (old new : Rows) : Type 0 where
  pub levels : new.levels ≡ old.levels
  pub kind : new.kind ≡ old.kind
  pub dimension : new.dim ≡ old.dim
  pub next : new.at ≡ old.at + 1

-- the next row is given, as a geometry or as nothing if it means none; or no row is left
abbrev pub GivesRow : Rows → Option (Option Row) → Rows → Type 0
GivesRow old None new = (length (ends_of old.levels.row_ends) ≤ old.at) × (new ≡ old)
GivesRow old (Some row) new =
    (old.at < length (ends_of old.levels.row_ends)) × FindsRow old.levels old.kind old.dim old.at row × IsPast old new
