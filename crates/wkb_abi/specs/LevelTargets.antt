-- The levels that are given, and what each row of them is written as.
use Rattle.std.specs.Prelude.{ℕ, length, Option, Some, None, ◌==◌, if◌then◌else◌}
use Rattle.wkb_laws.specs.Prelude.{Dimension, as_dimensions}
use Rattle.wkb_geom.specs.declared.code.TheConstants.{POINT, LINE_STRING, POLYGON, MULTI_POINT, MULTI_LINE_STRING}
use Rattle.wkb_geom.specs.declared.code.TheConstants.{MULTI_POLYGON}
use Rattle.wkb_levels.specs.declared.{ends.Ends.TheVariants.Each, ends.Ends.TheVariants.At, levels.Levels.Levels}
use Rattle.wkb_levels.specs.declared.{levels.Place.Place, row.Kind.Kind}
use Rattle.wkb_levels.specs.declared.row.Kind.TheVariants as kinds
use Rattle.wkb_levels.specs.Columns.{IsFloor}
use Rattle.wkb_abi.specs.declared.{level_column.LevelColumn.LevelColumn, level_column.LevelTarget.LevelTarget}
use Rattle.wkb_abi.specs.declared.{options.Options.Options, options.Request.Request}
use Rattle.wkb_geom.specs.Codes.{dimension_of_thousands}
use Rattle.wkb_abi.specs.Requests.{request_of, options_for}

-- the levels of a column; a level without ends has one item of the next level each
abbrev pub levels_in : LevelColumn → Levels
levels_in c =
    record {
      words = c.words;
      ring_ends = if length c.ring_ends.now == 0 then Each 0 c.rings else At 0 c.ring_ends;
      single_ends = if length c.single_ends.now == 0 then Each 0 c.singles else At 0 c.single_ends;
      row_ends = if length c.row_ends.now == 0 then Each 0 c.rows else At 0 c.row_ends;
    }

-- the kind of this number
abbrev pub kind_named : ℕ → Option Kind
kind_named n =
    if n == POINT then Some kinds.Point else (if n == LINE_STRING then Some kinds.LineString else
    (if n == POLYGON then Some kinds.Polygon else (if n == MULTI_POINT then Some kinds.MultiPoint else
    (if n == MULTI_LINE_STRING then Some kinds.MultiLineString else
    (if n == MULTI_POLYGON then Some kinds.MultiPolygon else None)))))

-- what a kind, a dimension and a request ask for together; levels have no SRID of their own
abbrev pub target_with : Option Kind → Option Dimension → Option Request → Option LevelTarget
target_with (Some kind) (Some d) (Some request) =
    Some (record { kind = kind; dim = as_dimensions d; options = options_for request None })
target_with (Some kind) (Some d) None = None
target_with (Some kind) None request = None
target_with None d request = None

-- what the numbers ask for, where each means something
abbrev pub target_asked : ℕ → ℕ → Options → Option LevelTarget
target_asked kind dimension o = target_with (kind_named kind) (dimension_of_thousands dimension) (request_of o)

-- where something is asked for, the rows before row i reach this far
abbrev pub Ready : LevelColumn → Option LevelTarget → ℕ → Place → Type 0
Ready c None i floor = Unit {0}
Ready c (Some t) i floor = IsFloor (levels_in c) t.dim i floor
