-- What a range says of numbers: which are within it, and what is left to widen it.
use Rattle.std.specs.Prelude.{◌≡◌, ℕ, ◌≤◌, List, drop, false, from_bits}
use Rattle.std.specs.Float.{binary64, ◌≤ᶠ◌}
use Rattle.wkb_laws.specs.Prelude.{Dimension, Coordinate}
use Rattle.wkb_geom.specs.Numbers.{is_nan}
use Rattle.wkb_geom.specs.Ranks.{rank}
use Rattle.wkb_bounds.specs.declared.range.Range.{Range}
use Rattle.wkb_bounds.specs.Ranges.{widened, range_of}
use Rattle.wkb_bounds.specs.Ordinates.{Axis, words_in}

-- In the order of numbers the word is between the least and the greatest of the range.
pub record IsWithin (r : Range) (w : ℕ) : Type 0 where
  pub least : rank r.least ≤ rank w
  pub greatest : rank w ≤ rank r.greatest

-- Whatever range is widened by these words, the word is within it.
abbrev pub BringsWithin : List ℕ → ℕ → Type 0
BringsWithin ws w = (r : Range) → IsWithin (widened r ws) w

-- The coordinates before an index have widened the range: widened by those from it on, it is the range of all.
pub record WidenedBefore (a : Axis) (d : Dimension) (r : Range) (cs : List Coordinate) (i : ℕ) : Type 0 where
  pub left : widened r (words_in a d (drop i cs)) ≡ range_of (words_in a d cs)
  pub few : r.count ≤ i

-- The least and the greatest of a range are numbers.
pub record HasNumbers (r : Range) : Type 0 where
  pub least : is_nan r.least ≡ false
  pub greatest : is_nan r.greatest ≡ false

-- A number is no less than the first of two, and no greater than the second.
pub record IsBetween (low high w : ℕ) : Type 0 where
  pub least : from_bits binary64 low ≤ᶠ from_bits binary64 w
  pub greatest : from_bits binary64 w ≤ᶠ from_bits binary64 high
