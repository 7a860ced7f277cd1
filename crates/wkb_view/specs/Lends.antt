-- What `buf` of every view says: the bytes that it lends, and all that reading found of their geometry.
use Rattle.std.specs.Prelude.{◌≡◌, ℕ, ◌<◌, ◌^◌, List, length, map, Some, slice_get}
use Rattle.wkb_laws.specs.Prelude.{Iso, IsWritable, Front, Geometry, geometry_of, IsGeometry, normal, Value}
use Rattle.wkb_laws.specs.Fits.{fitted_geometry}
use Rattle.wkb_view.specs.Prelude.{AreBytes, BytesSpell, Endianness, Item, list_of_values, Coordinate, Listed, order_of}
use Rattle.wkb_geom.specs.Values.{Values}
use Rattle.wkb_geom.specs.Spellings.{SpellsCoordinates}
use Rattle.wkb_view.specs.declared.linear_ring.LinearRing.{LinearRing}
use Rattle.wkb_view.specs.Coords.{ring_seen, ring_encoding}
use Rattle.wkb_laws.specs.Places.{StandsAt, ring_start}

-- the bytes of a slice
pub record AreSlice (lent : List ℕ) : Type 0 where
  pub bytes : AreBytes lent
  pub fits : length lent < 2 ^ 64

-- what a geometry means to a caller of the geometry traits
abbrev pub geometry_seen : Item → Geometry
geometry_seen w = fitted_geometry (geometry_of w.value)

-- the input begins with the bytes of this geometry, which spell its value
pub record IsFront (buf : List ℕ) (w : Item) : Type 0 where
  pub rest : List ℕ
  pub front : Front buf w.spelled w.value rest
  pub encoding_is : front.front ≡ w.encoding

-- the value can be written in either order
abbrev pub CanBeWritten : Value → Type 0
CanBeWritten t = (order : Endianness) → IsWritable order Iso (geometry_of t)

-- What every geometry is that was read, wherever it is handed on, and every part of it: its bytes are those of a
-- slice and begin with it, and its value is lawful, can be written, is its own normal value, and is what the traits
-- show.
pub record IsRead (w : Item) : Type 0 where
  pub front : IsFront w.encoding w
  pub bytes : AreBytes w.encoding
  pub fits : length w.encoding < 2 ^ 64
  pub lawful : IsGeometry (geometry_of w.value)
  pub seen : geometry_seen w ≡ geometry_of w.value
  pub normal : normal (geometry_of w.value) ≡ w.value
  pub writable : CanBeWritten w.value

-- the bytes that a view lends are its geometry's, spell it and begin with it, and it was read
pub record Lends (w : Item) (lent : List ℕ) : Type 0 where
  pub encoding : lent ≡ w.encoding
  pub spells : BytesSpell w
  pub front : IsFront lent w
  pub read : IsRead w

-- what the members of a collection mean
abbrev pub members_seen : Values → List Geometry
members_seen vs = map (λ v. fitted_geometry (geometry_of v)) (list_of_values vs)

-- A ring of a polygon, by what its view lends: the ring's bytes spell its coordinates in the polygon's order and
-- dimension, and are the polygon's at the ring's place.
pub record IsRingAt (p : Listed (List (List Coordinate))) (j : ℕ) (r : LinearRing) : Type 0 where
  pub spelled : SpellsCoordinates (order_of p.spelled) p.dimension (ring_seen r) (ring_encoding r)
  pub stands : StandsAt (ring_start j p.spelled p.dimension p.parts) (ring_encoding r) p.encoding
  pub at : Some (ring_seen r) ≡ slice_get p.parts j
