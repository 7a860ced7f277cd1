-- Ranges that a walk over the pieces of a geometry widens.
use Rattle.std.specs.Prelude.{◌≡◌, ℕ, ◌≤◌, List, [], ◌++◌, length, drop, nat_lt, if◌then◌else◌}
use Rattle.wkb_geom.specs.declared.code.TheConstants.{POLYGON}
use Rattle.wkb_laws.specs.Prelude.{coordinates}
use Rattle.wkb_check.specs.Known.{HasGeometry}
use Rattle.wkb_check.specs.declared.{pieces.Piece.Piece, pieces.Pieces.Pieces}
use Rattle.wkb_check.specs.Pieces.{own_end, IsAhead, all_pieces}
use Rattle.wkb_bounds.specs.declared.{range.Bounds.Bounds, axes.AxisExtremes.AxisExtremes}
use Rattle.wkb_bounds.specs.Ranges.{widened}
use Rattle.wkb_bounds.specs.Ordinates.{Axis, words_in, words_of_each}
use Rattle.wkb_bounds.specs.Bounded.{on, nothing, bounds_by}

-- the words of a piece's own coordinates on an axis
abbrev pub piece_words : Axis → List ℕ → Piece → List ℕ
piece_words a buf p =
    words_in a p.dimension
    (if nat_lt p.kind POLYGON then coordinates p.order p.dimension p.count (drop p.offset buf) else [])

-- no axis counts more numbers than this
abbrev pub CountsUpTo : ℕ → AxisExtremes → Type 0
CountsUpTo n k = (a : Axis) → (on a (bounds_by k)).count ≤ n

-- the ranges are widened by a piece, and count no more numbers than there are bytes up to its end
pub record WidensByPiece (buf : List ℕ) (p : Piece) (old new : AxisExtremes) : Type 0 where
  pub widens : (a : Axis) → on a (bounds_by new) ≡ widened (on a (bounds_by old)) (piece_words a buf p)
  pub few : CountsUpTo (own_end p) new

-- the bounds are widened by the pieces that were passed, and the others are to come
pub record WidenedSoFar (buf : List ℕ) (w : Pieces) (b : Bounds) (g : HasGeometry buf) : Type 0 where
  pub passed : List Piece
  pub left : List Piece
  pub all : all_pieces g ≡ passed ++ left
  pub ahead : IsAhead w left
  pub widens : (a : Axis) → on a b ≡ widened (on a nothing) (words_of_each (piece_words a buf) passed)

-- these pieces are to come of whatever geometry is there, whose ranges are widened by the others
pub record HasWidened (buf : List ℕ) (w : Pieces) (k : AxisExtremes) : Type 0 where
  pub so_far : (g : HasGeometry buf) → WidenedSoFar buf w (bounds_by k) g
  pub same : w.bytes.now ≡ buf
  pub few : CountsUpTo w.at k
  pub inside : w.at ≤ length buf
