-- What one piece of a geometry gives each level: the code's step.
use Rattle.std.specs.Prelude.{ℕ, ◌+◌, ◌-◌, ◌*◌, ◌^◌, ◌<◌, ◌≤◌, List, [], ◌∷◌, length, drop, sum, flat_map, nat_lt, ◌&&◌}
use Rattle.std.specs.Prelude.{IsTrue, if◌then◌else◌}
use lib.Seq.{sets}
use Rattle.wkb_laws.specs.Prelude.{Endianness, Dimension, width, coordinate, coordinates}
use Rattle.wkb_geom.specs.declared.code.TheConstants.{POLYGON}
use Rattle.wkb_check.specs.Prelude.{HasGeometry, IsPieceAt, DescribesFront, subjects}
use Rattle.wkb_check.specs.declared.{answer.Summary.Summary, pieces.Piece.Piece}
use Rattle.wkb_abi.specs.Coordinates.{LevelLists, words_asked, ends, AreTotals}
use Rattle.wkb_abi.specs.RowItems.{end_of}
use Rattle.wkb_abi.specs.declared.totals.Totals.{Totals}

-- how many coordinates it has, if it is a ring
abbrev pub ring_sizes : Piece → List ℕ
ring_sizes p = if nat_lt p.kind 3 then p.count ∷ [] else []

-- how many rings it has, if it is a single
abbrev pub single_sizes : Piece → List ℕ
single_sizes p = if nat_lt 0 p.kind && nat_lt p.kind 4 then (if nat_lt p.kind 3 then 1 else p.count) ∷ [] else []

-- how many rings a geometry has that is no collection and has so many parts, by its first piece
abbrev pub ring_number : Piece → ℕ → ℕ
ring_number p parts = if nat_lt p.kind 3 then 1 else (if nat_lt p.kind 6 then p.count else parts - (1 + p.count))

-- how many singles it has
abbrev pub single_number : Piece → ℕ
single_number p = if nat_lt p.kind 4 then 1 else p.count

-- a geometry in which the check found this, and whose first piece is this, has these totals
abbrev pub AreTotalsOf : Summary → Piece → Totals → Type 0
AreTotalsOf found first own =
    (input : List ℕ) → DescribesFront input found → IsPieceAt input 0 first → (g : HasGeometry input)
    → AreTotals own (subjects g.spelled g.value)

-- the coordinates of a piece are inside the row, if they have this dimension
abbrev pub AreInside : List ℕ → Dimension → Piece → Type 0
AreInside row own p = p.offset + 8 * width own * p.count ≤ length row

-- the coordinates of a piece that has some are inside the row
abbrev pub IsRingInside : List ℕ → Piece → Type 0
IsRingInside row p = IsTrue (nat_lt p.kind POLYGON) → AreInside row p.dimension p

-- the words that are asked for of so many coordinates, read in this order and dimension
abbrev pub words_from : Dimension → Endianness → Dimension → ℕ → List ℕ → List ℕ
words_from asked order own count bytes = flat_map (words_asked asked own) (coordinates order own count bytes)

-- the words that are asked for of the coordinate that is read from here on in this order and dimension
abbrev pub words_read : Dimension → Endianness → Dimension → List ℕ → ℕ → List ℕ
words_read asked order own row from = words_asked asked own (coordinate order own (drop from row))

-- the words that the dimension names, read in the order and dimension of the piece
abbrev pub words_asked_of : Dimension → List ℕ → Piece → List ℕ
words_asked_of asked row p = words_from asked p.order p.dimension p.count (drop p.offset row)

-- these, if it has coordinates
abbrev pub piece_words : Dimension → List ℕ → Piece → List ℕ
piece_words asked row p = if nat_lt p.kind 3 then words_asked_of asked row p else []

-- the list of words with its own, which begin here
abbrev pub with_words : Dimension → List ℕ → Piece → Totals → List ℕ → List ℕ
with_words asked row p at words = sets words (width asked * at.coordinates) (piece_words asked row p)

-- the list of ring ends with its own, if it is a ring
abbrev pub with_ring_end : Piece → Totals → List ℕ → List ℕ
with_ring_end p at ring_ends = sets ring_ends at.rings (ends at.coordinates (ring_sizes p))

-- the list of single ends with its own, if it is a single
abbrev pub with_single_end : Piece → Totals → List ℕ → List ℕ
with_single_end p at single_ends = sets single_ends at.singles (ends at.rings (single_sizes p))

-- the row has the coordinates of a piece, and there is room for what it gives each level
pub record PieceFits (asked : Dimension) (row : List ℕ) (p : Piece) (at : Totals) (out : LevelLists) : Type 0 where
  pub inside : IsRingInside row p
  pub words_fit : width asked * (at.coordinates + sum (ring_sizes p)) ≤ length out.words
  pub ring_ends_fit : at.rings + length (ring_sizes p) ≤ length out.ring_ends
  pub single_ends_fit : at.singles + length (single_sizes p) ≤ length out.single_ends
  pub small : at.rings < 2 ^ 63

-- the lists with what a piece gives each level
abbrev pub with_piece : Dimension → List ℕ → Piece → Totals → LevelLists → LevelLists
with_piece asked row p at out = record {
  words = with_words asked row p at out.words;
  ring_ends = with_ring_end p at out.ring_ends;
  single_ends = with_single_end p at out.single_ends;
}

-- the totals after so many more coordinates, rings and singles
abbrev pub totals_plus : Totals → ℕ → ℕ → ℕ → Totals
totals_plus at coordinates rings singles = record {
  coordinates = end_of at.coordinates coordinates;
  rings = end_of at.rings rings;
  singles = end_of at.singles singles;
}

-- those after one more piece
abbrev pub totals_with : Totals → Piece → Totals
totals_with at p = totals_plus at (sum (ring_sizes p)) (length (ring_sizes p)) (length (single_sizes p))
