-- What the levels of a column mean.
use Rattle.std.specs.Prelude.{ℕ, ◌+◌, ◌-◌, ◌<◌, ◌/◌, ◌≤◌, List, [], ◌∷◌, length, slice_index, slice_range}
use Rattle.std.specs.List.{AllByRecursion}
use Rattle.wkb_geom.specs.declared.common.Dimensions.{Dimensions}
use Rattle.wkb_geom.specs.Dimensions.{size}
use Rattle.wkb_levels.specs.declared.{ends.Ends.Ends, levels.Levels.Levels, levels.Place.Place}
use Rattle.wkb_levels.specs.Cuts.{AreEnds, pieces_from}
use Rattle.wkb_levels.specs.EndLists.{start_of, ends_of, begin_of}
use Rattle.wkb_levels.specs.RingLists.{rings_in}

-- the rings, and the singles, of the whole column
abbrev pub column_rings : Levels → Dimensions → List (List (List ℕ))
column_rings l d = rings_in d l.words.now l.ring_ends

abbrev pub column_singles : Levels → Dimensions → List (List (List (List ℕ)))
column_singles l d = pieces_from 0 (column_rings l d) (start_of l.single_ends) (ends_of l.single_ends)

-- the numbers of the single that row i begins with, and of the one behind it
abbrev pub row_begin : Levels → ℕ → ℕ
row_begin l i = begin_of l.row_ends i

abbrev pub row_end : Levels → ℕ → ℕ
row_end l i = slice_index (ends_of l.row_ends) i

-- the singles of row i
abbrev pub singles_of : Levels → Dimensions → ℕ → List (List (List (List ℕ)))
singles_of l d i = slice_range (column_singles l d) (row_begin l i) (row_end l i)

-- the items of a level from one number up to another end in order, and within the limit
abbrev pub AreEndsBetween : ℕ → Ends → ℕ → ℕ → Type 0
AreEndsBetween limit e from to = AreEnds limit (begin_of e from) (slice_range (ends_of e) from to)

-- the levels of row i are in order, and within one another
pub record AreRowLevels (l : Levels) (d : Dimensions) (i : ℕ) : Type 0 where
  pub some_words : 0 < size d
  pub order : row_begin l i ≤ row_end l i
  pub within : row_end l i ≤ length (ends_of l.single_ends)
  pub singles : AreEndsBetween (length (ends_of l.ring_ends)) l.single_ends (row_begin l i) (row_end l i)
  pub rings : AreEndsBetween (length l.words.now / size d) l.ring_ends
      (begin_of l.single_ends (row_begin l i)) (begin_of l.single_ends (row_end l i))

-- ---- how far rows reach

-- where row i begins and ends in rings, and in coordinates
abbrev pub rings_begin : Levels → ℕ → ℕ
rings_begin l i = begin_of l.single_ends (row_begin l i)

abbrev pub rings_end : Levels → ℕ → ℕ
rings_end l i = begin_of l.single_ends (row_end l i)

abbrev pub coordinates_begin : Levels → ℕ → ℕ
coordinates_begin l i = begin_of l.ring_ends (rings_begin l i)

abbrev pub coordinates_end : Levels → ℕ → ℕ
coordinates_end l i = begin_of l.ring_ends (rings_end l i)

-- items from one number up to another don't fall, nor pass so many
pub record AreItems (count from to : ℕ) : Type 0 where
  pub order : from ≤ to
  pub within : to ≤ count

-- row i spans singles; and rings; and coordinates: at that level and those above it, its end is not before its begin,
-- nor past the level's end
abbrev pub SpansSingles : Levels → ℕ → Type 0
SpansSingles l i = AreItems (length (ends_of l.single_ends)) (row_begin l i) (row_end l i)

abbrev pub SpansRings : Levels → ℕ → Type 0
SpansRings l i = SpansSingles l i × AreItems (length (ends_of l.ring_ends)) (rings_begin l i) (rings_end l i)

pub record SpansCoordinates (l : Levels) (d : Dimensions) (i : ℕ) : Type 0 where
  pub rings : SpansRings l i
  pub some_words : 0 < size d
  pub coordinates : AreItems (length l.words.now / size d) (coordinates_begin l i) (coordinates_end l i)

-- at a level, each row before row i that spans items there ends at this number, or before it
abbrev pub EndUpTo : (ℕ → Type 0) → (ℕ → ℕ) → ℕ → ℕ → Type 0
EndUpTo Spans end i n = (j : ℕ) → j < i → Spans j → end j ≤ n

-- row i spans items of each level, and begins at none before the end of an earlier row that spans items there
pub record IsClear (l : Levels) (d : Dimensions) (i : ℕ) : Type 0 where
  pub spans : SpansCoordinates l d i
  pub singles : EndUpTo (SpansSingles l) (row_end l) i (row_begin l i)
  pub rings : EndUpTo (SpansRings l) (rings_end l) i (rings_begin l i)
  pub coordinates : EndUpTo (SpansCoordinates l d) (coordinates_end l) i (coordinates_begin l i)

-- how far the rows before row i reach at a level: none ends later there, and no lower number is as much
pub record IsLevelFloor (Spans : ℕ → Type 0) (end : ℕ → ℕ) (i floor : ℕ) : Type 0 where
  pub enough : EndUpTo Spans end i floor
  pub least : (n : ℕ) → EndUpTo Spans end i n → floor ≤ n

-- how far the rows before row i reach
pub record IsFloor (l : Levels) (d : Dimensions) (i : ℕ) (floor : Place) : Type 0 where
  pub singles : IsLevelFloor (SpansSingles l) (row_end l) i floor.singles
  pub rings : IsLevelFloor (SpansRings l) (rings_end l) i floor.rings
  pub coordinates : IsLevelFloor (SpansCoordinates l d) (coordinates_end l) i floor.coordinates

-- how many items of a level some rows span
abbrev pub spanned : (ℕ → ℕ) → (ℕ → ℕ) → List ℕ → ℕ
spanned begin end [] = 0
spanned begin end (i ∷ rows) = end i - begin i + spanned begin end rows

-- the rows are different ones, the last first
abbrev pub AreFromLast : List ℕ → Type 0
AreFromLast [] = Unit {0}
AreFromLast (i ∷ rows) = AllByRecursion (λ j. j < i) rows × AreFromLast rows
