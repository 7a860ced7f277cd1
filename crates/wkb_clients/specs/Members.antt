-- The bytes of a member, and a word of a member's ring.
use Rattle.std.proofs.Common.{◌≡◌, ℕ, ◌+◌, ◌*◌, List, length, drop, Some, slice_get}
use Rattle.std.specs.Borrow.{Bor}
use Rattle.wkb_clients.specs.Common.{Dimension, width, number, Coordinate, polygon, header, Item, IsMember}
use Rattle.wkb_clients.specs.Common.{IsWordOf, StandsAt, member_start, ring_start}

-- the bytes are the geometry's at the place of its member of this number
abbrev pub LendsMember : Item → ℕ → List ℕ → Type 0
LendsMember whole k bytes = StandsAt (member_start k whole.spelled whole.value) bytes whole.encoding

-- these are the bytes of the geometry's member of this number and of the next one, which begins where the first ends
pub record AreNeighbours (whole : Item) (k : ℕ) (both : Bor (List ℕ) × Bor (List ℕ)) : Type 0 where
  pub first : LendsMember whole k both.0.now
  pub second : StandsAt (member_start k whole.spelled whole.value + length both.0.now) both.1.now whole.encoding

-- Member k of the geometry is a polygon, and this is word n of coordinate i of its exterior: the number, in the
-- polygon's order, as many words after the exterior's count.
pub record IsCornerWord (whole : Item) (k i n w : ℕ) : Type 0 where
  pub part : Item
  pub dimension : Dimension
  pub rings : List (List Coordinate)
  pub ring : List Coordinate
  pub is_member : IsMember k whole.spelled whole.value part.spelled part.value
  pub value_is : part.value ≡ polygon dimension rings
  pub exterior : slice_get rings 0 ≡ Some ring
  pub word : IsWordOf ring i n w
  pub place : ℕ
  pub place_is : place
      ≡ member_start k whole.spelled whole.value + ring_start 0 part.spelled dimension rings + 4
      + 8 * (width dimension * i + n)
  pub stands : number (header part.spelled).order 8 (drop place whole.encoding) ≡ w
