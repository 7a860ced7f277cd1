-- The box around a polygon's exterior, and what it holds.
use Rattle.std.specs.Prelude.{◌≡◌, ℕ, List, [], ◌∷◌, Some, false, slice_get}
use Rattle.wkb.specs.Prelude.{Dimension, is_nan}
use Rattle.wkb.specs.Checks.{range_of, words_in, x_axis, y_axis}
use Rattle.wkb.specs.Ranges.{IsWithin}
use Rattle.wkb_clients.specs.Common.{Coordinate, Listed, LinearRing, ring_seen, ring_dimension}
use Rattle.wkb_clients.specs.declared.boxes.BoundingBox.{BoundingBox}

-- the box has the range of the coordinates' words on each axis
pub record HasRanges (d : Dimension) (cs : List Coordinate) (box : BoundingBox) : Type 0 where
  pub x_is : box.x ≡ range_of (words_in x_axis d cs)
  pub y_is : box.y ≡ range_of (words_in y_axis d cs)

-- the box has the ranges of a ring's x and y
abbrev pub IsBoxOfRing : LinearRing → BoundingBox → Type 0
IsBoxOfRing r box = HasRanges (ring_dimension r) (ring_seen r) box

-- the exterior's coordinates, none if there is no ring
abbrev pub exterior_of : List (List Coordinate) → List Coordinate
exterior_of [] = []
exterior_of (ring ∷ rings) = ring

-- the box has the ranges of the x and y of a polygon's exterior
abbrev pub IsBoxOf : Listed (List (List Coordinate)) → BoundingBox → Type 0
IsBoxOf p box = HasRanges p.dimension (exterior_of p.parts) box

-- each number of these coordinates is within the box
pub record HoldsNumbers (cs : List Coordinate) (box : BoundingBox) : Type 0 where
  pub x_within : (i w : ℕ) (c : Coordinate) → slice_get cs i ≡ Some c → slice_get c 0 ≡ Some w → is_nan w ≡ false
      → IsWithin box.x w
  pub y_within : (i w : ℕ) (c : Coordinate) → slice_get cs i ≡ Some c → slice_get c 1 ≡ Some w → is_nan w ≡ false
      → IsWithin box.y w

-- each number of a polygon's exterior is within the box
abbrev pub HoldsExterior : Listed (List (List Coordinate)) → BoundingBox → Type 0
HoldsExterior p box = HoldsNumbers (exterior_of p.parts) box
