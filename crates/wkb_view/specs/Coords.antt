-- What the views of coordinates and rings mean.
use Rattle.std.specs.Prelude.{◌≡◌, ℕ, ◌+◌, ◌*◌, List, take, drop, Option, IfSome}
use Rattle.std.specs.Borrow.{Bor}
use Rattle.std.specs.List.{flat_map}
use Rattle.wkb_laws.specs.Prelude.{words_encoding, SpellsCoordinate, SpellsCoordinates}
use Rattle.wkb_view.specs.Prelude.{Dimension, Endianness, Coordinate, width, coordinate, ring_in}
use Rattle.wkb_view.specs.declared.{coord.Coord.Coord, linear_ring.LinearRing.LinearRing}

-- what is seen in a view
abbrev pub words_seen : Coord → Coordinate
words_seen c = coordinate c.order c.dimension c.bytes.now

abbrev pub ring_seen : LinearRing → List Coordinate
ring_seen r = ring_in r.order r.dimension r.bytes.now

-- the bytes of the coordinate that begins at an offset
abbrev pub coordinate_encoding : Dimension → ℕ → List ℕ → List ℕ
coordinate_encoding d start encoding = take (8 * width d) (drop start encoding)

-- the order, the dimension and the bytes of a coordinate
abbrev pub coord_order : Coord → Endianness
coord_order c = c.order

abbrev pub coord_dimension : Coord → Dimension
coord_dimension c = c.dimension

abbrev pub coord_encoding : Coord → List ℕ
coord_encoding c = c.bytes.now

-- the order, the dimension and the bytes of a ring: its count and its coordinates
abbrev pub ring_order : LinearRing → Endianness
ring_order r = r.order

abbrev pub ring_dimension : LinearRing → Dimension
ring_dimension r = r.dimension

abbrev pub ring_encoding : LinearRing → List ℕ
ring_encoding r = r.bytes.now

-- where the coordinate at an index begins in a ring's bytes
abbrev pub ring_offset : LinearRing → ℕ → ℕ
ring_offset r i = 4 + 8 * width r.dimension * i

-- the bytes of the coordinate at an index
abbrev pub ring_coord_bytes : LinearRing → ℕ → List ℕ
ring_coord_bytes r i = coordinate_encoding r.dimension (ring_offset r i) r.bytes.now

-- the bytes that are lent, if any, are these coordinates as they are written in this order, without a count
abbrev pub LendsCoordinates : Endianness → List Coordinate → Option (Bor (List ℕ)) → Type 0
LendsCoordinates order cs lent = IfSome lent (λ b. b.now ≡ flat_map (words_encoding order) cs)

-- the bytes of a coordinate spell its words, and those of a ring its coordinates
abbrev pub CoordBytesSpell : Coord → Type 0
CoordBytesSpell c = SpellsCoordinate c.order c.dimension (words_seen c) c.bytes.now

abbrev pub RingBytesSpell : LinearRing → Type 0
RingBytesSpell r = SpellsCoordinates r.order r.dimension (ring_seen r) r.bytes.now
