-- The coordinates of a column's rows, in levels (GeoArrow: a geometry has parts, a part has rings, a ring has
-- coordinates). A single is a point, a line string or a polygon; a point and a line string are one ring.
use Rattle.std.specs.Prelude.{◌≡◌, ℕ, suc, ◌+◌, ◌*◌, ◌<◌, ◌≤◌, List, [], ◌∷◌, length, sum, flat_map, take, Some, None}
use Rattle.std.specs.Prelude.{slice_index}
use lib.Seq.{sets}
use Rattle.wkb_geom.specs.Codes.{dimension_of_thousands}
use Rattle.wkb_laws.specs.Prelude.{Dimension, Xy, Xyz, Xym, Xyzm, width, empty_word}
use Rattle.wkb_geom.specs.Values.{Coordinate, point, line_string, polygon}
use Rattle.wkb_abi.specs.Columns.{IsRow, LacksRow, IsRefusedWith}
use Rattle.wkb_abi.specs.declared.{column.Column.Column, totals.Totals.Totals, status.TheConstants.OK}
use Rattle.wkb_abi.specs.declared.{status.TheConstants.NO_ROOM, status.TheConstants.UNKNOWN_OPTION}
use Rattle.wkb_abi.specs.RowItems.{end_of, HoldsItems, KeepsFrom, NoneLacksRoom}
use Rattle.wkb_check.specs.Prelude.{IsAccepted, Subject, whole, ring, dimension_in, subject_coordinates, subjects}

-- the z of a coordinate of this dimension
abbrev pub z_of : Dimension → Coordinate → ℕ
z_of Xy c = empty_word
z_of Xyz c = slice_index c 2
z_of Xym c = empty_word
z_of Xyzm c = slice_index c 2

-- the m of a coordinate of this dimension
abbrev pub m_of : Dimension → Coordinate → ℕ
m_of Xy c = empty_word
m_of Xyz c = empty_word
m_of Xym c = slice_index c 2
m_of Xyzm c = slice_index c 3

-- the words that the first dimension names, of a coordinate of the second dimension
abbrev pub words_asked : Dimension → Dimension → Coordinate → List ℕ
words_asked Xy own c = slice_index c 0 ∷ slice_index c 1 ∷ []
words_asked Xyz own c = slice_index c 0 ∷ slice_index c 1 ∷ z_of own c ∷ []
words_asked Xym own c = slice_index c 0 ∷ slice_index c 1 ∷ m_of own c ∷ []
words_asked Xyzm own c = slice_index c 0 ∷ slice_index c 1 ∷ z_of own c ∷ m_of own c ∷ []

-- the words that the dimension names, of all coordinates of a subject
abbrev pub asked_subject_words : Dimension → Subject → List ℕ
asked_subject_words asked x = flat_map (words_asked asked (dimension_in x)) (subject_coordinates x)

-- how many coordinates it has, if it is a ring
abbrev pub ring_counts : Subject → List ℕ
ring_counts (ring order d cs) = length cs ∷ []
ring_counts (whole s (point d c)) = 1 ∷ []
ring_counts (whole s (line_string d cs)) = length cs ∷ []
ring_counts (whole s _) = []

-- how many rings it has, if it is a single
abbrev pub single_counts : Subject → List ℕ
single_counts (ring order d cs) = []
single_counts (whole s (point d c)) = 1 ∷ []
single_counts (whole s (line_string d cs)) = 1 ∷ []
single_counts (whole s (polygon d rings)) = length rings ∷ []
single_counts (whole s _) = []

-- where items end one after another that have these lengths, the first of which begins here
abbrev pub ends : ℕ → List ℕ → List ℕ
ends start [] = []
ends start (n ∷ ns) = (start + n) ∷ ends (start + n) ns

-- before the first row
abbrev pub no_totals : Totals
no_totals = record { coordinates = 0; rings = 0; singles = 0 }

-- the totals count the coordinates, rings and singles of these subjects
pub record AreTotals (own : Totals) (xs : List Subject) : Type 0 where
  pub coordinates_are : own.coordinates ≡ sum (flat_map ring_counts xs)
  pub rings_are : own.rings ≡ length (flat_map ring_counts xs)
  pub singles_are : own.singles ≡ length (flat_map single_counts xs)

-- where the coordinates, rings and singles of these subjects end that begin here
abbrev pub totals_after : Totals → List Subject → Totals
totals_after from xs = record {
  coordinates = end_of from.coordinates (sum (flat_map ring_counts xs));
  rings = end_of from.rings (length (flat_map ring_counts xs));
  singles = end_of from.singles (length (flat_map single_counts xs));
}

-- the three lists that the levels are written to
pub record LevelLists : Type 0 where
  pub words : List ℕ
  pub ring_ends : List ℕ
  pub single_ends : List ℕ

abbrev pub levels : List ℕ → List ℕ → List ℕ → LevelLists
levels words ring_ends single_ends = record { words = words; ring_ends = ring_ends; single_ends = single_ends }

-- the lists have room up to here
pub record HasRoomUpTo (asked : Dimension) (out : LevelLists) (to : Totals) : Type 0 where
  pub words_fit : width asked * to.coordinates ≤ length out.words
  pub rings_fit : to.rings ≤ length out.ring_ends
  pub singles_fit : to.singles ≤ length out.single_ends

-- the lists after the levels of these subjects are laid into them, from these totals on
abbrev pub with_levels : Dimension → List Subject → Totals → LevelLists → LevelLists
with_levels asked xs from out = record {
  words = sets out.words (width asked * from.coordinates) (flat_map (asked_subject_words asked) xs);
  ring_ends = sets out.ring_ends from.rings (ends from.coordinates (flat_map ring_counts xs));
  single_ends = sets out.single_ends from.singles (ends from.rings (flat_map single_counts xs));
}

-- a list is that of the words, of the rings or of the singles
pub data Level : Type 0 where
  of_words : Level
  of_rings : Level
  of_singles : Level

-- the list of a level
abbrev pub list_of : Level → LevelLists → List ℕ
list_of of_words out = out.words
list_of of_rings out = out.ring_ends
list_of of_singles out = out.single_ends

-- how many items of it there are up to these totals
abbrev pub many_in : Level → Dimension → Totals → ℕ
many_in of_words asked at = width asked * at.coordinates
many_in of_rings asked at = at.rings
many_in of_singles asked at = at.singles

-- what these subjects give a level, from these totals on
abbrev pub items_of : Level → Dimension → List Subject → Totals → List ℕ
items_of of_words asked xs from = flat_map (asked_subject_words asked) xs
items_of of_rings asked xs from = ends from.coordinates (flat_map ring_counts xs)
items_of of_singles asked xs from = ends from.rings (flat_map single_counts xs)

-- each list holds what these subjects give its level
abbrev pub HoldLevels : Dimension → List Subject → Totals → Totals → LevelLists → Type 0
HoldLevels asked xs from to out =
    (k : Level) → HoldsItems (list_of k out) (many_in k asked from) (many_in k asked to) (items_of k asked xs from)

-- the levels of these subjects that begin here are written, or there is no room for them
pub data AreLaid (asked : Dimension) (xs : List Subject) (status : ℕ) (from to : Totals) (out : LevelLists) : Type 0
  where
    written : status ≡ OK → to ≡ totals_after from xs → HoldLevels asked xs from to out
        → AreLaid asked xs status from to out
    no_room : status ≡ NO_ROOM → to ≡ totals_after from xs → (HasRoomUpTo asked out to → ⊥)
        → AreLaid asked xs status from to out

-- row i has no coordinates, and this status says why
pub data LacksCoordinates (c : Column) (dimension i status : ℕ) : Type 0 where
  no_row : LacksRow c i status → LacksCoordinates c dimension i status
  unknown : (row : List ℕ) → IsRow c i row → dimension_of_thousands dimension ≡ None → status ≡ UNKNOWN_OPTION
      → LacksCoordinates c dimension i status
  refused : (row : List ℕ) (asked : Dimension) → IsRow c i row → dimension_of_thousands dimension ≡ Some asked
      → IsRefusedWith row status → LacksCoordinates c dimension i status

-- the status of row i, and where its levels begin and end in the lists
pub data IsCoordinatesRow (c : Column) (dimension i status : ℕ) (from to : Totals) (out : LevelLists) : Type 0 where
  handed : (asked : Dimension) → dimension_of_thousands dimension ≡ Some asked → (row : List ℕ) → IsRow c i row
      → (a : IsAccepted row) → AreLaid asked (subjects a.s a.t) status from to out
      → IsCoordinatesRow c dimension i status from to out
  failed : LacksCoordinates c dimension i status → to ≡ from → IsCoordinatesRow c dimension i status from to out

-- The rows below this number, each after the one before it: row i begins at `at i`. After the last levels that are
-- written nothing has changed.
pub record AreColumnCoordinates (c : Column) (dimension : ℕ) (statuses row_ends : List ℕ) (before : LevelLists)
    (rows : ℕ) (to : Totals) (after : LevelLists) : Type 0 where
  pub at : ℕ → Totals
  pub first : at 0 ≡ no_totals
  pub last : at rows ≡ to
  pub each : (i : ℕ) → i < rows
      → IsCoordinatesRow c dimension i (slice_index statuses i) (at i) (at (suc i)) after
  pub row_ends_are : (i : ℕ) → i < rows → slice_index row_ends i ≡ (at (suc i)).singles
  pub long : (k : Level) → length (list_of k after) ≡ length (list_of k before)
  pub kept : (k : Level) (n : ℕ)
      → ((i : ℕ) → i < rows → slice_index statuses i ≡ OK → (asked : Dimension)
      → dimension_of_thousands dimension ≡ Some asked → many_in k asked (at (suc i)) ≤ n)
      → KeepsFrom n (list_of k before) (list_of k after)

-- row i after rows up to these totals: what is in front of it stays, and after its levels nothing changes
pub record IsCoordinatesStep (c : Column) (dimension i status : ℕ) (from to : Totals) (before after : LevelLists)
    : Type 0 where
  pub row : IsCoordinatesRow c dimension i status from to after
  pub long : (k : Level) → length (list_of k after) ≡ length (list_of k before)
  pub front : (k : Level) (asked : Dimension) → dimension_of_thousands dimension ≡ Some asked
      → take (many_in k asked from) (list_of k after) ≡ take (many_in k asked from) (list_of k before)
  pub kept : (k : Level) (n : ℕ) → (status ≡ OK → (asked : Dimension)
      → dimension_of_thousands dimension ≡ Some asked → many_in k asked to ≤ n)
      → KeepsFrom n (list_of k before) (list_of k after)

-- with room up to here in the dimension of this number none of the rows below a number lacks room
abbrev pub LevelsSuffice : ℕ → LevelLists → Totals → ℕ → List ℕ → Type 0
LevelsSuffice dimension out to rows statuses =
    (asked : Dimension) → dimension_of_thousands dimension ≡ Some asked
    → NoneLacksRoom (HasRoomUpTo asked out to) rows statuses
