-- A ring of a polygon in a collection, and a word of it in a blob, after an offset.
use Rattle.std.proofs.Common.{◌≡◌, ℕ, ◌+◌, ◌*◌, List, drop, Option, Result, Some, slice_get}
use Rattle.std.specs.Prelude.{◌⊎◌, MatchOption, MatchResult}
use Rattle.wkb_clients.specs.Common.{Dimension, number, width, Coordinate, Values, polygon, collection, header}
use Rattle.wkb_clients.specs.Common.{Spelling, Item, IsMemory, WkbError, IsMember, IsWordOf, HoldsMember, HoldsRing}
use Rattle.wkb_clients.specs.Common.{IsFront, LinearRing, ring_seen}
use Rattle.wkb_clients.specs.declared.collections.WordPath.{WordPath}

-- the geometry is a collection, its member k a polygon, and these are the coordinates of its ring j
pub record IsRingOf (whole : Item) (k j : ℕ) (ring : List Coordinate) : Type 0 where
  pub dimension : Dimension
  pub members : Values
  pub spelled : Spelling
  pub of_polygon : Dimension
  pub rings : List (List Coordinate)
  pub value_is : whole.value ≡ collection dimension members
  pub is_member : IsMember k whole.spelled whole.value spelled (polygon of_polygon rings)
  pub is : slice_get rings j ≡ Some ring

-- the geometry has no such ring
abbrev pub HasNoRing : Item → ℕ → ℕ → Type 0
HasNoRing whole k j = (ring : List Coordinate) → IsRingOf whole k j ring → ⊥

-- what is found is such a ring, or nothing if there is none
abbrev pub FindsRing : Item → ℕ → ℕ → Option LinearRing → Type 0
FindsRing whole k j found = MatchOption found (HasNoRing whole k j) (λ r. IsRingOf whole k j (ring_seen r))

-- At the offset there is a collection whose member k is a polygon, and this is word n of coordinate i of that polygon's
-- ring j: the number, in the polygon's order, as many words after the ring's count. The ring starts where it does in
-- the polygon, and the polygon where it does in the collection.
pub record IsRingWordAt (blob : List ℕ) (offset k j i n w : ℕ) : Type 0 where
  pub whole : Item
  pub front : IsFront (drop offset blob) whole
  pub ring : List Coordinate
  pub is_ring : IsRingOf whole k j ring
  pub part : Item
  pub polygon : HoldsMember whole k part
  pub of_polygon : HoldsRing part j ring
  pub word : IsWordOf ring i n w
  pub place : ℕ
  pub place_is : place ≡ offset + polygon.start + of_polygon.start + 4 + 8 * (width of_polygon.dimension * i + n)
  pub stands : number (header part.spelled).order 8 (drop place blob) ≡ w

-- at the offset there is no collection with such a word
abbrev pub HasNoRingWordAt : List ℕ → ℕ → ℕ → ℕ → ℕ → ℕ → Type 0
HasNoRingWordAt blob offset k j i n = (w : ℕ) → IsRingWordAt blob offset k j i n w → ⊥

-- there is no such word
abbrev pub HasNoWordOn : List ℕ → ℕ → WordPath → Type 0
HasNoWordOn blob offset at = HasNoRingWordAt blob offset at.member at.ring at.coordinate at.word

-- what is found is the word, or nothing if there is none; and an error is an allocation failure, or there is none
abbrev pub FindsRingWord : List ℕ → ℕ → WordPath → Result (Option ℕ) WkbError → Type 0
FindsRingWord blob offset at result =
    MatchResult result
    (λ found. MatchOption found (HasNoWordOn blob offset at)
    (λ w. IsRingWordAt blob offset at.member at.ring at.coordinate at.word w))
    (λ e. IsMemory e ⊎ HasNoWordOn blob offset at)
