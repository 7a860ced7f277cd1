-- A geometry's first fault after its header, and the size of the bytes there, by its parts.
use Rattle.wkb_laws.specs.Prelude.{Fault, Dimensions, Form, size, Coordinate, byte_size, byte_sizes, or_else}
use Rattle.wkb_laws.specs.Prelude.{count_fault, first_fault, coordinates_fault, fault, fault_each, count_geometries}
use Rattle.std.specs.Prelude.{◌≡◌, ℕ, ◌+◌, ◌-◌, ◌*◌, min, List, length, map, Option, None, MatchOption}
use Rattle.std.specs.Borrow.{Bor}
use Rattle.std.specs.List.{sum_by}
use Rattle.wkb_geom.specs.Geometries.{Geometry, point, line_string, polygon, multi_point, multi_line_string}
use Rattle.wkb_geom.specs.Geometries.{multi_polygon, collection, rectangle, triangle, line, geometries}
use Rattle.wkb_sink.specs.Options.{header_size}

-- the first fault and the size of a part
pub record Measure : Type 0 where
  pub fault : Option Fault
  pub size : ℕ

-- the first fault of parts after their count
unfoldable pub parts_fault : {X : Type 0} → (X → Measure) → List X → Option Fault
parts_fault part xs = or_else (count_fault (length xs)) (first_fault (λ x. (part x).fault) xs)

-- the size of parts, of a header before each, and of their count
unfoldable pub parts_size : {X : Type 0} → ℕ → (X → Measure) → List X → ℕ
parts_size header part xs = 4 + header * length xs + sum_by (λ x. (part x).size) xs

-- parts after their count
abbrev pub parts_measure : {X : Type 0} → ℕ → (X → Measure) → List X → Measure
parts_measure header part xs = record { fault = parts_fault part xs; size = parts_size header part xs }

-- the words of a coordinate, where its dimension can be written
abbrev pub coordinate_words : Dimensions → ℕ
coordinate_words d = min (size d) 4

-- a coordinate of this dimension has as many words, where it can be written
abbrev pub HasWords : Dimensions → ℕ → Type 0
HasWords d words = words ≡ coordinate_words d

abbrev pub ring_bytes : Dimensions → List Coordinate → ℕ
ring_bytes d cs = 4 + 8 * coordinate_words d * length cs

-- a point after its header
abbrev pub point_measure : Dimensions → Option (List ℕ) → Measure
point_measure d c = record { fault = None; size = 8 * coordinate_words d }

abbrev pub ring_measure : Dimensions → List Coordinate → Measure
ring_measure d cs = record { fault = coordinates_fault cs; size = ring_bytes d cs }

abbrev pub polygon_measure : Dimensions → List (List Coordinate) → Measure
polygon_measure d rings = parts_measure 0 (ring_measure d) rings

-- the size of a geometry without its header
abbrev pub bytes_behind_header : Geometry → ℕ
bytes_behind_header g = byte_size g - 5

abbrev pub member_measure : Geometry → Measure
member_measure g = record { fault = fault g; size = bytes_behind_header g }

-- a geometry after other bytes
abbrev pub measure_after : ℕ → Geometry → Measure
measure_after before g = record { fault = fault g; size = before + bytes_behind_header g }

-- a collection of values, by what each means
abbrev pub collection_of : {X : Type 0} → (X → Geometry) → Dimensions → List X → Geometry
collection_of meant d xs = collection d (geometries (map meant xs))

-- a geometry that is no collection
abbrev pub IsLeaf : Geometry → Type 0
IsLeaf (collection d gs) = ⊥
IsLeaf g = Unit {0}

-- the members of a geometry of these dimensions, by what each means; none of a leaf
abbrev pub AreMembersOf : {X : Type 0} → Geometry → (X → Geometry) → Dimensions → Option (Bor (List X)) → Type 0
AreMembersOf g meant d members = MatchOption members (IsLeaf g) (λ xs. collection_of meant d xs.now ≡ g)

-- the first fault after the header
abbrev pub body_fault : Geometry → Option Fault
body_fault (point d c) = None
body_fault (line_string d cs) = coordinates_fault cs
body_fault (polygon d rings) = parts_fault (ring_measure d) rings
body_fault (multi_point d points) = parts_fault (point_measure d) points
body_fault (multi_line_string d lines) = parts_fault (ring_measure d) lines
body_fault (multi_polygon d polygons) = parts_fault (polygon_measure d) polygons
body_fault (collection d gs) = or_else (count_fault (count_geometries gs)) (fault_each gs)
body_fault (line d start end) = None
body_fault (rectangle d least greatest) = None
body_fault (triangle d first second third) = None

-- the size without the header, by the parts
abbrev pub size_by_parts : Geometry → ℕ
size_by_parts (point d c) = 8 * coordinate_words d
size_by_parts (line_string d cs) = ring_bytes d cs
size_by_parts (polygon d rings) = parts_size 0 (ring_measure d) rings
size_by_parts (multi_point d points) = parts_size 5 (point_measure d) points
size_by_parts (multi_line_string d lines) = parts_size 5 (ring_measure d) lines
size_by_parts (multi_polygon d polygons) = parts_size 5 (polygon_measure d) polygons
size_by_parts (collection d gs) = 4 + byte_sizes gs
size_by_parts (line d start end) = 4 + 16 * coordinate_words d
size_by_parts (rectangle d least greatest) = 88
size_by_parts (triangle d first second third) = 8 + 32 * coordinate_words d

-- the size with the header that the form writes, by the parts
abbrev pub whole_size_by_parts : Form → Geometry → ℕ
whole_size_by_parts form g = header_size form + size_by_parts g
