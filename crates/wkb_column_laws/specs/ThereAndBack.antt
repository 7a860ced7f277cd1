-- What the two calls say of each other: a column's rows are written as levels, these are given on, and the rows come
-- back from them.
use Rattle.std.specs.Prelude.{◌≡◌, ℕ, ◌*◌, ◌^◌, ◌<◌, ◌≤◌, List, [], ◌∷◌, length, take, map, Option, Some, None, true}
use Rattle.std.specs.Prelude.{slice_index}
use Rattle.wkb_laws.specs.Prelude.{Dimension, width, as_dimensions, encoding, point_words, Front, Geometry, geometry_of}
use Rattle.wkb_geom.specs.Codes.{dimension_of_thousands}
use Rattle.wkb_geom.specs.Geometries as geometries
use Rattle.wkb_geom.specs.Numbers.{AreBytes}
use Rattle.wkb_geom.specs.Spellings.{Spelling, node, header, Spellings, no_spellings, spelling}
use Rattle.wkb_geom.specs.Values.{Coordinate, Value, point, multi_point, kind, dimension}
use Rattle.wkb_abi.specs.Columns.{IsRow, is_null_row}
use Rattle.wkb_abi.specs.Coordinates.{LevelLists, AreColumnCoordinates}
use Rattle.wkb_abi.specs.LevelRows.{HasLevelEncoding, LacksLevels, EncodeLevels, level_rows}
use Rattle.wkb_abi.specs.LevelTargets.{target_asked}
use Rattle.wkb_abi.specs.Requests.{request_of, options_for}
use Rattle.wkb_abi.specs.RowItems.{RowHas, IsRowAnswer, AreEncodings, rows_of}
use Rattle.wkb_abi.specs.Writings.{HasEncoding}
use Rattle.wkb_abi.specs.declared.{column.Column.Column, totals.Totals.Totals, level_column.LevelColumn.LevelColumn}
use Rattle.wkb_abi.specs.declared.{level_column.LevelTarget.LevelTarget, options.Options.Options}
use Rattle.wkb_abi.specs.declared.{options.Request.Request, options.TheConstants.EWKB_OWN_SRID, status.TheConstants.OK}
use Rattle.wkb_abi.specs.declared.{status.TheConstants.NO_ROOM, status.TheConstants.NULL_ROW}
use Rattle.wkb_levels.specs.Cuts.{start_at}
use Rattle.wkb_sink.specs.declared.options.WriteOptions.{WriteOptions}

-- the words of a point, also those of an empty one
abbrev pub point_spelled : Spelling → Option Coordinate → Coordinate
point_spelled (node h words ss) None = words
point_spelled (node h words ss) (Some c) = c

-- the words of each point of a multi point
abbrev pub points_spelled : Spellings → List (Option Coordinate) → List Coordinate
points_spelled ss [] = []
points_spelled no_spellings (c ∷ points) = []
points_spelled (spelling s ss) (c ∷ points) = point_spelled s c ∷ points_spelled ss points

-- the geometry that bytes spell, whose empty points have the words that are there
abbrev pub as_spelled : Spelling → Value → Geometry
as_spelled s (point d c) = geometries.point (as_dimensions d) (Some (point_spelled s c))
as_spelled (node h words ss) (multi_point d points) =
    geometries.multi_point (as_dimensions d) (map (λ c. Some c) (points_spelled ss points))
as_spelled s t = geometry_of t

-- each empty point has the words that are written of an empty point
abbrev pub HasEmptyWords : Spelling → Value → Type 0
HasEmptyWords s (point d c) = point_spelled s c ≡ point_words d c
HasEmptyWords (node h words ss) (multi_point d points) = points_spelled ss points ≡ map (point_words d) points
HasEmptyWords s t = Unit {0}

-- the encoding of a geometry under options
abbrev pub bytes_of : WriteOptions → Geometry → List ℕ
bytes_of options g = encoding options.endianness options.form g

-- These levels are what was written of the rows of a column: their words and ends, as many as the totals say, and which
-- rows are null.
pub record AreLevelsOf (c : Column) (asked : Dimension) (row_ends : List ℕ) (to : Totals) (out : LevelLists)
    (l : LevelColumn) : Type 0 where
  pub words : l.words.now ≡ take (width asked * to.coordinates) out.words
  pub ring_ends : l.ring_ends.now ≡ take to.rings out.ring_ends
  pub rings : l.rings ≡ length l.ring_ends.now
  pub single_ends : l.single_ends.now ≡ take to.singles out.single_ends
  pub singles : l.singles ≡ length l.single_ends.now
  pub row_ends_are : l.row_ends.now ≡ row_ends
  pub rows : l.rows ≡ length l.row_ends.now
  pub validity : l.validity.now ≡ c.validity.now
  pub validity_offset : l.validity_offset ≡ c.validity_offset

-- The levels of a column's rows were written in a dimension, as the contract of the call says, and given on.
pub record AreGivenOn (c : Column) (dimension : ℕ) (asked : Dimension) (statuses : List ℕ) (rows : ℕ) (l : LevelColumn)
    : Type 0 where
  pub bytes : AreBytes c.bytes.now
  pub small : length c.bytes.now < 2 ^ 63
  pub asked_is : dimension_of_thousands dimension ≡ Some asked
  pub out : LevelLists
  pub to : Totals
  pub now : LevelLists
  pub row_ends : List ℕ
  pub written : AreColumnCoordinates c dimension statuses row_ends out rows to now
  pub levels : AreLevelsOf c asked row_ends to now l

-- The levels of row i were written: its status is OK, and it begins with a geometry of the dimension asked for that is
-- no collection.
pub record IsLevelled (c : Column) (asked : Dimension) (statuses : List ℕ) (i : ℕ) (s : Spelling) (t : Value) : Type 0
  where
    pub ok : slice_index statuses i ≡ OK
    pub row : List ℕ
    pub is_row : IsRow c i row
    pub rest : List ℕ
    pub front : Front row s t rest
    pub plain : kind t < 7
    pub dimension_is : dimension t ≡ asked

-- Such a row has an encoding in the levels, as one of its kind and under any options: that of what its bytes spell.
-- Levels have no SRID of their own.
abbrev pub BackAsSpelled : Type 0
BackAsSpelled =
    (c : Column) (dimension : ℕ) (asked : Dimension) (statuses : List ℕ) (rows : ℕ) (l : LevelColumn)
    → AreGivenOn c dimension asked statuses rows l
    → (i : ℕ) → i < rows → (s : Spelling) (t : Value) → IsLevelled c asked statuses i s t
    → (o : Options) (request : Request) → request_of o ≡ Some request
    → HasLevelEncoding l (target_asked (kind t) dimension o) i (bytes_of (options_for request None) (as_spelled s t))

-- A null row stays one.
abbrev pub NullStaysNull : Type 0
NullStaysNull =
    (c : Column) (dimension : ℕ) (asked : Dimension) (statuses : List ℕ) (rows : ℕ) (l : LevelColumn)
    → AreGivenOn c dimension asked statuses rows l
    → (i : ℕ) → is_null_row c i ≡ true → (target : Option LevelTarget) → LacksLevels l target i NULL_ROW

-- row i has this encoding: it was written up to this end, or there was no room for it
abbrev pub IsWrittenBack : List ℕ → ℕ → ℕ → ℕ → ℕ → List ℕ → Type 0
IsWrittenBack encoding i status start end out =
    IsRowAnswer (λ j bytes. bytes ≡ encoding) (λ j status. ⊥) i status start end out

-- the options don't ask for an SRID that only the row has
abbrev pub NeedsNoSrid : Options → Spelling → Type 0
NeedsNoSrid o s = o.form ≡ EWKB_OWN_SRID → (header s).srid ≡ None

-- What is written of such a row's levels, as of its kind, is the encoding of the row under the same options, if its
-- empty points have the words that are written of them, and it has no SRID where the options ask for its own.
abbrev pub ThereAndBack : Type 0
ThereAndBack =
    (c : Column) (dimension : ℕ) (asked : Dimension) (statuses : List ℕ) (rows : ℕ) (l : LevelColumn)
    → AreGivenOn c dimension asked statuses rows l
    → (i : ℕ) → i < rows → (s : Spelling) (t : Value) → IsLevelled c asked statuses i s t → HasEmptyWords s t
    → (o : Options) → NeedsNoSrid o s → (encoding : List ℕ) → RowHas (HasEncoding o) c i encoding
    → (back_statuses ends out : List ℕ) → EncodeLevels (kind t) dimension o l back_statuses ends out
    → i < level_rows l back_statuses ends
    → IsWrittenBack encoding i (slice_index back_statuses i) (start_at 0 ends i) (slice_index ends i) out

-- row i is null, or comes back as one of this kind under these options
pub data ComesBack (c : Column) (asked : Dimension) (statuses : List ℕ) (o : Options) (k i : ℕ) : Type 0 where
  stays_null : is_null_row c i ≡ true → ComesBack c asked statuses o k i
  is_levelled : (s : Spelling) (t : Value) → IsLevelled c asked statuses i s t → kind t ≡ k → HasEmptyWords s t
      → NeedsNoSrid o s → ComesBack c asked statuses o k i

-- no row below this number has the status NO_ROOM
abbrev pub AllHadRoom : ℕ → List ℕ → Type 0
AllHadRoom rows statuses = (i : ℕ) → i < rows → slice_index statuses i ≡ NO_ROOM → ⊥

-- the rows below this number have the same statuses, the same ends and the same bytes
pub record AreTheSame (rows : ℕ) (row_statuses ends out back_statuses back_ends back : List ℕ) : Type 0 where
  pub statuses : (i : ℕ) → i < rows → slice_index row_statuses i ≡ slice_index back_statuses i
  pub ends_are : (i : ℕ) → i < rows → slice_index ends i ≡ slice_index back_ends i
  pub bytes : take (start_at 0 ends rows) out ≡ take (start_at 0 back_ends rows) back

-- If each row of a column is null or comes back, and no row lacks room, the encodings of the column and those of its
-- levels have the same statuses, ends and bytes.
abbrev pub ColumnsComeBack : Type 0
ColumnsComeBack =
    (c : Column) (dimension : ℕ) (asked : Dimension) (statuses : List ℕ) (rows : ℕ) (l : LevelColumn)
    → AreGivenOn c dimension asked statuses rows l
    → (k : ℕ) (o : Options) (request : Request) → request_of o ≡ Some request
    → ((i : ℕ) → i < rows → ComesBack c asked statuses o k i)
    → (row_statuses ends out : List ℕ) → AreEncodings o c row_statuses ends out → rows ≤ rows_of row_statuses ends
    → AllHadRoom rows row_statuses
    → (back_statuses back_ends back : List ℕ) → EncodeLevels k dimension o l back_statuses back_ends back
    → rows ≤ level_rows l back_statuses back_ends → AllHadRoom rows back_statuses
    → AreTheSame rows row_statuses ends out back_statuses back_ends back
