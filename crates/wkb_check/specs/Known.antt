-- Geometries and rings that are known to be at the start of some bytes.
use Rattle.std.specs.Prelude.{◌≡◌, ℕ, zero, suc, ◌≤◌, List, [], ◌∷◌, length, drop}
use Rattle.wkb_laws.specs.Prelude.{Dimension, Endianness, Begins, number, ring_in, ring_end}
use Rattle.wkb_geom.specs.Spellings.{Spelling, Spellings, Spells, SpellsEach, any}
use Rattle.wkb_geom.specs.Values.{Coordinate, Value, Values, count}

-- the first n rings of some bytes
abbrev pub decoded_rings : Endianness → Dimension → ℕ → List ℕ → List (List Coordinate)
decoded_rings order d zero bytes = []
decoded_rings order d (suc n) bytes =
    ring_in order d bytes ∷ decoded_rings order d n (drop (ring_end d (number order 4 bytes)) bytes)

-- n rings are there
abbrev pub AreWhole : Endianness → Dimension → ℕ → List ℕ → Type 0
AreWhole order d zero bytes = Unit {0}
AreWhole order d (suc n) bytes =
    (4 ≤ length bytes) × (ring_end d (number order 4 bytes) ≤ length bytes)
    × AreWhole order d n (drop (ring_end d (number order 4 bytes)) bytes)

-- a geometry at the start of the bytes
pub record HasGeometry (bytes : List ℕ) : Type 0 where
  pub spelled : Spelling
  pub value : Value
  pub rest : List ℕ
  pub begins : Begins (Spells spelled value) bytes rest

-- n geometries at the start of the bytes, and what they are
pub record HasGeometries (n : ℕ) (bytes rest : List ℕ) : Type 0 where
  pub spelled : Spellings
  pub values : Values
  pub begins : Begins (SpellsEach any spelled values) bytes rest
  pub counted : n ≡ count values
