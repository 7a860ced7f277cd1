-- What the box of coordinates holds.
use Rattle.std.proofs.Common.{arith, ◌≡◌, List, Some, slice_get, refl, sym, subst}
use Rattle.wkb.specs.Checks.{x_axis, y_axis, words_in}
use Rattle.wkb.specs.Ranges.{IsWithin, ordinate_within, within_range_of}
use Rattle.wkb_clients.specs.Common.{Coordinate, Dimension}
use Rattle.wkb_clients.specs.Boxes.{HasRanges, HoldsNumbers, exterior_of}
use Rattle.wkb_clients.specs.declared.boxes.BoundingBox.{BoundingBox}

pub holds : (d : Dimension) (cs : List Coordinate) (box : BoundingBox) → HasRanges d cs box → HoldsNumbers cs box
holds d cs box h =
    record {
      x_within = λ i w c at word number. subst (λ r. IsWithin r w) (sym h.x_is)
          (within_range_of (words_in x_axis d cs) w (ordinate_within x_axis d cs i 0 w c refl at word number));
      y_within = λ i w c at word number. subst (λ r. IsWithin r w) (sym h.y_is)
          (within_range_of (words_in y_axis d cs) w (ordinate_within y_axis d cs i 1 w c refl at word number));
    }

-- the ring that is there is the exterior
pub exterior_is : (rings : List (List Coordinate)) (ring : List Coordinate) → Some ring ≡ slice_get rings 0
    → exterior_of rings ≡ ring
exterior_is rings ring is = grind arith
