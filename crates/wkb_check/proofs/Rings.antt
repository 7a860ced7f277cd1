-- The next ring, and those after it.
use Rattle.std.proofs.Common.{◌≡◌, ℕ, zero, suc, ◌*◌, ◌≤◌, List, ◌∷◌, length, drop, arith, length-drop, drop-drop}
use Rattle.wkb_laws.specs.Prelude.{Dimension, Endianness, width, number, length-items, coordinate, ring_end, Coordinate}
use Rattle.wkb_check.specs.Prelude.{own_end, ring_piece, decoded_rings, AreWhole}

-- the next of r rings, and those after it
pub record NextRing (buf : List ℕ) (order : Endianness) (d : Dimension) (r m at next : ℕ) : Type 0 where
  pub ring : List Coordinate
  pub many : length ring ≡ number order 4 (drop at buf)
  pub are : decoded_rings order d r (drop at buf) ≡ ring ∷ decoded_rings order d m (drop next buf)
  pub whole : AreWhole order d m (drop next buf)
  pub next_is : next ≡ own_end (ring_piece order d at (length ring))
  pub inside : next ≤ length buf

pub next_ring : (buf : List ℕ) (order : Endianness) (d : Dimension) (r m at next : ℕ)
    → AreWhole order d r (drop at buf) → r ≡ suc m
    → next ≡ own_end (ring_piece order d at (number order 4 (drop at buf))) → NextRing buf order d r m at next
next_ring buf order d zero m at next w e ends = absurd (omega (arith, e))
next_ring buf order d (suc r) m at next w e ends =
    let bytes = drop at buf in
    let many : ℕ = number order 4 bytes in
    let cs-many = length-items (8 * width d) (coordinate order d) many (drop 4 bytes) in
    let rest : drop (ring_end d many) bytes ≡ drop next buf = grind (arith, drop-drop) in
    grind (arith, length-drop)
