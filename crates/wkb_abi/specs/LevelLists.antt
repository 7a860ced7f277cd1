-- The slices that the levels are written to, as the code has them.
use Rattle.std.specs.Prelude.{◌≡◌, ℕ, List, Some}
use Rattle.wkb_geom.specs.Codes.{dimension_of_thousands}
use Rattle.wkb_geom.specs.declared.common.Dimension.{Dimension}
use Rattle.wkb_check.specs.Prelude.{HasGeometry, subjects}
use Rattle.wkb_abi.specs.Coordinates.{LevelLists, levels, HasRoomUpTo, totals_after, with_levels, IsCoordinatesStep}
use Rattle.wkb_abi.specs.Coordinates.{AreColumnCoordinates, LevelsSuffice}
use Rattle.wkb_abi.specs.RowItems.{rows_of}
use Rattle.wkb_abi.specs.Columns.{IsRow}
use Rattle.wkb_abi.specs.declared.{column.Column.Column, level_slices.LevelSlices.LevelSlices, totals.Totals.Totals}

-- what they hold
abbrev pub levels_of : LevelSlices → LevelLists
levels_of out = levels out.words.now out.ring_ends.now out.single_ends.now

-- both are over the same slices
pub record AreSameSlices (before after : LevelSlices) : Type 0 where
  pub words_stay : after.words.ghost_name ≡ before.words.ghost_name
  pub ring_ends_stay : after.ring_ends.ghost_name ≡ before.ring_ends.ghost_name
  pub single_ends_stay : after.single_ends.ghost_name ≡ before.single_ends.ghost_name

-- the slices have room for the levels of the geometry that a row begins with, from these totals on
abbrev pub HasRoomFor : Dimension → List ℕ → Totals → LevelSlices → Type 0
HasRoomFor asked row from out =
    (g : HasGeometry row) → HasRoomUpTo asked (levels_of out) (totals_after from (subjects g.spelled g.value))

-- the levels of the geometry that a row begins with are written to the slices
abbrev pub LaysLevels : Dimension → List ℕ → Totals → LevelSlices → LevelSlices → Type 0
LaysLevels asked row from before after =
    (g : HasGeometry row) → levels_of after ≡ with_levels asked (subjects g.spelled g.value) from (levels_of before)

-- the status of row i, where its levels begin and end, and what becomes of the slices
abbrev pub LaysRow : Column → ℕ → ℕ → ℕ → Totals → Totals → LevelSlices → LevelSlices → Type 0
LaysRow c dimension i status from to before after =
    IsCoordinatesStep c dimension i status from to (levels_of before) (levels_of after)

-- the same of any row with these bytes, where the number names the dimension
abbrev pub LaysAny : Dimension → List ℕ → ℕ → Totals → Totals → LevelSlices → LevelSlices → Type 0
LaysAny asked row status from to before after =
    (c : Column) (dimension i : ℕ) → IsRow c i row → dimension_of_thousands dimension ≡ Some asked
    → LaysRow c dimension i status from to before after

-- the levels of all rows are written to the slices, with a status and an end for each row
abbrev pub AreLevels : Column → ℕ → List ℕ → List ℕ → Totals → LevelSlices → LevelSlices → Type 0
AreLevels c dimension statuses row_ends at before now =
    AreColumnCoordinates c dimension statuses row_ends (levels_of before) (rows_of statuses row_ends) at (levels_of now)

-- with room up to here in the dimension of this number no row lacks room
abbrev pub TotalsSuffice : ℕ → LevelSlices → Totals → List ℕ → List ℕ → Type 0
TotalsSuffice dimension out to statuses row_ends =
    LevelsSuffice dimension (levels_of out) to (rows_of statuses row_ends) statuses
