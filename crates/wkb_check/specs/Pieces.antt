-- The pieces of a geometry in preorder: itself, and its rings and members at every level; where they are in its bytes,
-- and what is still to come of them.
use Rattle.std.specs.Prelude.{◌≡◌, ℕ, ◌+◌, ◌*◌, ◌<◌, ◌≤◌, List, [], ◌∷◌, ◌++◌, length, drop, Option, Some, None}
use Rattle.std.specs.Prelude.{is_some, false, IfSome, ◌-◌, slice_index_or, nat_lt, if◌then◌else◌}
use Rattle.wkb_laws.specs.Prelude.{Dimension, Xy, Head, type_of, Endianness, width, order_byte, number, srid_size}
use Rattle.wkb_geom.specs.declared.code.TheConstants.{POLYGON}
use Rattle.wkb_geom.specs.Spellings.{Header, header, Spelling, node}
use Rattle.wkb_geom.specs.Values.{Value, point, line_string, polygon, multi_point, multi_line_string, multi_polygon}
use Rattle.wkb_geom.specs.Values.{collection, kind, dimension, count}
use Rattle.wkb_check.specs.Known.{HasGeometry, HasGeometries, AreWhole, decoded_rings}
use Rattle.wkb_check.specs.Subjects.{Subject, whole, ring, subjects, subjects_of_rings, subjects_of_each}
use Rattle.wkb_check.specs.declared.{pieces.Piece.Piece, pieces.Pieces.Pieces}

-- how many coordinates, rings or members a geometry has
abbrev pub count_of : Value → ℕ
count_of (point d c) = 1
count_of (line_string d cs) = length cs
count_of (polygon d rings) = length rings
count_of (multi_point d points) = length points
count_of (multi_line_string d lines) = length lines
count_of (multi_polygon d polygons) = length polygons
count_of (collection d ts) = count ts

-- the bytes before them: the header, and the count of all but a point
abbrev pub leading : Header → Value → ℕ
leading h (point d c) = 5 + srid_size (is_some h.srid)
leading h _ = 9 + srid_size (is_some h.srid)

-- the coordinates of a piece end here, or its rings or members begin
abbrev pub own_end : Piece → ℕ
own_end p = if nat_lt p.kind POLYGON then p.offset + 8 * width p.dimension * p.count else p.offset

-- the piece of a geometry that begins at this byte
abbrev pub piece_of : ℕ → Spelling → Value → Piece
piece_of at (node h words ss) t = record {
  kind = kind t;
  dimension = dimension t;
  order = h.order;
  srid = h.srid;
  count = count_of t;
  begin = at;
  offset = at + leading h t;
}

-- whatever geometry begins at this byte, this is its piece
abbrev pub IsPieceAt : List ℕ → ℕ → Piece → Type 0
IsPieceAt buf at p = (g : HasGeometry (drop at buf)) → p ≡ piece_of at g.spelled g.value

-- a geometry has one member and no rings: the one at the start of these bytes
pub record OnlyMember (s : Spelling) (t : Value) (bytes : List ℕ) : Type 0 where
  pub high : nat_lt (kind t) 4 ≡ false
  pub member : HasGeometry bytes
  pub are : subjects s t ≡ whole s t ∷ subjects member.spelled member.value

-- whatever geometry the first bytes begin with, it is so
abbrev pub IsOnlyMember : List ℕ → List ℕ → Type 0
IsOnlyMember buf bytes = (g : HasGeometry buf) → OnlyMember g.spelled g.value bytes

-- the kind, the dimension, the order and the SRID are those of the header of a geometry
pub record HeaderIs (s : Spelling) (t : Value) (k : ℕ) (d : Dimension) (order : Endianness) (srid : Option ℕ)
    : Type 0 where
  pub kind_is : k ≡ kind t
  pub dimension_is : d ≡ dimension t
  pub order_is : order ≡ (header s).order
  pub srid_is : srid ≡ (header s).srid

-- whatever geometry begins at this byte, they are those of its header
abbrev pub IsHeaderAt : List ℕ → ℕ → ℕ → Dimension → Endianness → Option ℕ → Type 0
IsHeaderAt buf at k d order srid = (g : HasGeometry (drop at buf)) → HeaderIs g.spelled g.value k d order srid

-- the piece of a ring of n coordinates that begins at this byte
abbrev pub ring_piece : Endianness → Dimension → ℕ → ℕ → Piece
ring_piece order d at n =
    record { kind = 0; dimension = d; order = order; srid = None; count = n; begin = at; offset = at + 4 }

-- the piece of a subject that begins at this byte
abbrev pub piece_at : ℕ → Subject → Piece
piece_at at (whole s t) = piece_of at s t
piece_at at (ring order d cs) = ring_piece order d at (length cs)

-- where subjects end, the first of which begins at this byte, and each other where the own bytes of the one before end
abbrev pub last_end : ℕ → List Subject → ℕ
last_end at [] = at
last_end at (x ∷ xs) = last_end (own_end (piece_at at x)) xs

-- their pieces
abbrev pub subject_pieces : ℕ → List Subject → List Piece
subject_pieces at [] = []
subject_pieces at (x ∷ xs) = piece_at at x ∷ subject_pieces (own_end (piece_at at x)) xs

-- the pieces of a geometry that begins at this byte
abbrev pub pieces_of : ℕ → Spelling → Value → List Piece
pieces_of at s t = subject_pieces at (subjects s t)

-- all pieces of a geometry at the start of some bytes
abbrev pub all_pieces : {bytes : List ℕ} → HasGeometry bytes → List Piece
all_pieces g = pieces_of 0 g.spelled g.value

-- the first n rings of some bytes
abbrev pub first_rings : Endianness → Dimension → ℕ → List ℕ → List Subject
first_rings order d n bytes = subjects_of_rings order d (decoded_rings order d n bytes)

-- These pieces are to come from this byte on, and no others: the rings of a polygon, and then geometries with all that
-- is inside them.
pub record Ahead (buf : List ℕ) (order : Endianness) (d : Dimension) (rings geometries at : ℕ) (xs : List Piece)
    : Type 0 where
  pub more : List ℕ
  pub whole : AreWhole order d rings (drop at buf)
  pub all : HasGeometries geometries (drop (last_end at (first_rings order d rings (drop at buf))) buf) more
  pub are : xs
      ≡ subject_pieces at (first_rings order d rings (drop at buf) ++ subjects_of_each all.spelled all.values)

abbrev pub IsAhead : Pieces → List Piece → Type 0
IsAhead w xs = Ahead w.bytes.now w.order w.dimension w.rings w.geometries w.at xs

-- some pieces are, or none
pub record HasAhead (w : Pieces) : Type 0 where
  pub pieces : List Piece
  pub are : IsAhead w pieces

-- the first of these pieces was taken, and the others are to come
pub record IsTaken (now : Pieces) (xs : List Piece) (p : Piece) : Type 0 where
  pub rest : List Piece
  pub first : xs ≡ p ∷ rest
  pub ahead : IsAhead now rest

-- a piece's coordinates, rings or members begin after `from`, and its own bytes end at `to`, inside the input
pub record IsInside (buf : List ℕ) (from to : ℕ) (p : Piece) : Type 0 where
  pub begins : from < p.offset
  pub ends : to ≡ own_end p
  pub inside : to ≤ length buf

-- this piece was taken: it is the first of whatever pieces were to come, and the bytes are the same
pub record Takes (w now : Pieces) (p : Piece) : Type 0 where
  pub steps : (xs : List Piece) → IsAhead w xs → IsTaken now xs p
  pub inside : IsInside w.bytes.now w.at now.at p
  pub same : now.bytes.now ≡ w.bytes.now

-- all pieces of a geometry at the start of these bytes are to come
pub record HasAll (bytes : List ℕ) (w : Pieces) : Type 0 where
  pub ahead : (g : HasGeometry bytes) → IsAhead w (all_pieces g)
  pub begins : w.at ≡ 0
  pub rings : w.rings ≡ 0
  pub geometries : w.geometries ≡ 1
  pub same : w.bytes.now ≡ bytes

-- the rings of a polygon in this order and dimension are to come, and no geometry after them
pub record AreRings (order : Endianness) (d : Dimension) (w : Pieces) : Type 0 where
  pub order_is : w.order ≡ order
  pub dimension_is : w.dimension ≡ d
  pub alone : w.geometries ≡ 0

-- this piece is a ring of a polygon in this order and dimension
pub record IsRing (order : Endianness) (d : Dimension) (p : Piece) : Type 0 where
  pub kind_is : p.kind ≡ 0
  pub order_is : p.order ≡ order
  pub dimension_is : p.dimension ≡ d

-- all of them but the first one are
pub record IsBehind (bytes : List ℕ) (first : Piece) (w : Pieces) : Type 0 where
  pub steps : (g : HasGeometry bytes) → IsTaken w (all_pieces g) first
  pub inside : IsInside bytes 0 w.at first
  pub same : w.bytes.now ≡ bytes
  pub rings : first.kind ≡ POLYGON → AreRings first.order first.dimension w

-- this piece was taken, or none
pub record TakesOrStays (w : Pieces) (result : Option Piece) (now : Pieces) : Type 0 where
  pub takes : IfSome result (Takes w now)
  pub further : IfSome result (λ p. w.at < now.at)
  pub same : now.bytes.now ≡ w.bytes.now
  pub stays : result ≡ None → now ≡ w

-- the next of these pieces was taken, if there is one
abbrev pub IsNext : Pieces → List Piece → Option Piece → Type 0
IsNext now xs None = xs ≡ []
IsNext now xs (Some p) = IsTaken now xs p

-- a call of `next`: the next of these pieces was taken, if there is one, and the bytes are the same
pub record Steps (w : Pieces) (result : Option Piece) (now : Pieces) : Type 0 where
  pub steps : (xs : List Piece) → IsAhead w xs → IsNext now xs result
  pub inside : IfSome result (λ p. IsInside w.bytes.now w.at now.at p)
  pub further : IfSome result (λ p. w.at < now.at)
  pub same : now.bytes.now ≡ w.bytes.now

-- the bytes that are not behind it
abbrev pub bytes_left : Pieces → ℕ
bytes_left w = length w.bytes.now - w.at

-- the header of a geometry of this kind with an x and a y, whose code is the number of its kind and nothing else
abbrev pub bare_head : Endianness → ℕ → Head
bare_head order k = record { order = order; wkb_type = type_of k Xy; has_srid = false }

-- bytes that begin with such a header
pub record IsBare (order : Endianness) (bytes : List ℕ) : Type 0 where
  pub long : 5 ≤ length bytes
  pub in_order : slice_index_or bytes 0 0 ≡ order_byte order
  pub least : 1 ≤ number order 4 (drop 1 bytes)
  pub most : number order 4 (drop 1 bytes) ≤ 7

-- a geometry comes next, and begins with such a header
abbrev pub IsBareNext : Endianness → Pieces → Type 0
IsBareNext order w = w.rings ≡ 0 × (0 < w.geometries × IsBare order (drop w.at w.bytes.now))
