-- What stands at the start of the bytes of a geometry, and behind its header.
use Rattle.std.proofs.Common.{◌≡◌, ℕ, ◌+◌, ◌≤◌, List, [], ◌∷◌, ◌++◌, length, refl, sym, ap, ◌∙◌, arith, length-append}
use Rattle.wkb_laws.specs.Prelude.{Endianness, Dimension, number, IsEach, Coordinate, Value, kind, dimension, Spelling}
use Rattle.wkb_laws.specs.Prelude.{node, SpellsCoordinates, Spells, ring_end}
use Rattle.wkb_laws.proofs.Parts.{then_length, then_append, drop_front, header_length}
use Rattle.wkb_laws.proofs.Complete.{ring_read}
use Rattle.wkb_laws.proofs.Lengths.{coordinates_length}
use Rattle.wkb_check.specs.Known.{AreWhole, decoded_rings, HasGeometry}

-- what follows a geometry is shorter
pub spelled_long : (s : Spelling) (t : Value) (x : List ℕ) → Spells s t x → 5 ≤ length x
spelled_long (node h words ss) t x a =
    omega (arith, then_length a, header_length h (kind t) (dimension t) a.front a.first)

pub rest_smaller : {bytes : List ℕ} (g : HasGeometry bytes) → length g.rest + 5 ≤ length bytes
rest_smaller g = grind (arith, length-append, spelled_long)

-- ---- rings

-- these rings are at the start
pub record RingsFirst (order : Endianness) (d : Dimension) (rings : List (List Coordinate)) (n : ℕ)
    (body : List ℕ) : Type 0 where
  pub whole : AreWhole order d n body
  pub are : decoded_rings order d n body ≡ rings

pub rings_first : (order : Endianness) (d : Dimension) (rings : List (List Coordinate)) (x rest : List ℕ)
    → IsEach (SpellsCoordinates order d) rings x → RingsFirst order d rings (length rings) (x ++ rest)
rings_first order d [] x rest h = record { whole = tt; are = refl }
rings_first order d (ring ∷ rings) x rest h =
    let body = h.front ++ (h.rest ++ rest) in
    let read = ring_read order d ring h.front (h.rest ++ rest) h.first in
    let end : ring_end d (number order 4 body) ≡ length h.front =
    ap (ring_end d) read.many ∙ sym (coordinates_length order d ring h.front h.first) in
    let behind = drop_front (ring_end d (number order 4 body)) h.front (h.rest ++ rest) (sym end) in
    let others = rings_first order d rings h.rest rest h.second in
    rw (then_append h rest)
    (grind (arith, length-append))
