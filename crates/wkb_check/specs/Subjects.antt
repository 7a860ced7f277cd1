-- What the pieces and the entries of a geometry are about: itself, and its rings and members at every level.
use Rattle.std.specs.Prelude.{ℕ, List, [], ◌∷◌, ◌++◌, Some, None}
use Rattle.wkb_laws.specs.Prelude.{Endianness, Dimension, Coordinate, Value, Values, point, line_string, polygon}
use Rattle.wkb_laws.specs.Prelude.{no_members, member, dimension, members}
use Rattle.wkb_geom.specs.Spellings.{Spelling, node, Spellings, no_spellings, spelling, Spells, SpellsCoordinates}

-- a geometry, or a ring of a polygon
pub data Subject : Type 0 where
  whole : Spelling → Value → Subject
  ring : Endianness → Dimension → List Coordinate → Subject

-- the order of its words
abbrev pub order_in : Subject → Endianness
order_in (whole (node h words ss) t) = h.order
order_in (ring order d cs) = order

-- the dimension of a subject
abbrev pub dimension_in : Subject → Dimension
dimension_in (whole s t) = dimension t
dimension_in (ring order d cs) = d

-- the coordinates of a point or a line string; the words of an empty point are NaNs
abbrev pub coordinates_of : List ℕ → Value → List Coordinate
coordinates_of words (point d None) = words ∷ []
coordinates_of words (point d (Some c)) = c ∷ []
coordinates_of words (line_string d cs) = cs
coordinates_of words _ = []

-- the coordinates of a subject
abbrev pub subject_coordinates : Subject → List Coordinate
subject_coordinates (whole (node h words ss) t) = coordinates_of words t
subject_coordinates (ring order d cs) = cs

-- the bytes spell the subject
abbrev pub SpellsSubject : Subject → List ℕ → Type 0
SpellsSubject (whole s t) bytes = Spells s t bytes
SpellsSubject (ring order d cs) bytes = SpellsCoordinates order d cs bytes

-- the rings of a polygon
abbrev pub rings_of : Value → List (List Coordinate)
rings_of (polygon d rings) = rings
rings_of _ = []

abbrev pub subjects_of_rings : Endianness → Dimension → List (List Coordinate) → List Subject
subjects_of_rings order d [] = []
subjects_of_rings order d (cs ∷ rest) = ring order d cs ∷ subjects_of_rings order d rest

-- a geometry, its rings and its members, in preorder
abbrev mutual
  pub subjects : Spelling → Value → List Subject
  subjects (node h words ss) t =
      whole (node h words ss) t
      ∷ (subjects_of_rings h.order (dimension t) (rings_of t) ++ subjects_of_each ss (members t))

  pub subjects_of_each : Spellings → Values → List Subject
  subjects_of_each ss no_members = []
  subjects_of_each no_spellings (member t ts) = []
  subjects_of_each (spelling s ss) (member t ts) = subjects s t ++ subjects_of_each ss ts
