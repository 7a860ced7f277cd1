-- Where the subjects of a geometry stand in its bytes, and what its pieces and entries say of them.
use Rattle.std.proofs.Common.{rules, ◌≡◌, ℕ, ◌+◌, ◌*◌, ◌≤◌, List, [], ◌∷◌, ◌++◌, length, drop, Some, None, refl, ap}
use Rattle.std.proofs.Common.{◌∙◌, arith, nat_lt, if◌then◌else◌, true, false}
use Rattle.wkb_laws.specs.Prelude.{Endianness, Dimension, width, Coordinate, Value, Values, point, line_string, polygon}
use Rattle.wkb_laws.specs.Prelude.{no_members, member, members, kind, dimension, Spelling, node, Spellings}
use Rattle.wkb_laws.specs.Prelude.{no_spellings, spelling, Spells, SpellsBody, SpellsCoordinate, SpellsCoordinates}
use Rattle.wkb_laws.specs.Prelude.{SpellsEach, Wanted, Begins, coordinates, all_nan, Header, Then, IsEach, coordinate}
use Rattle.wkb_laws.proofs.Lengths.{coordinate_length, coordinates_length}
use Rattle.wkb_laws.proofs.Parts.{items_read, each_len, coordinate_read}
use Rattle.wkb_check.specs.Prelude.{Piece, Subject, whole, ring, dimension_in, subject_coordinates, SpellsSubject}
use Rattle.wkb_check.specs.Prelude.{rings_of, subjects, subjects_of_rings, subjects_of_each, leading, count_of, own_end}
use Rattle.wkb_check.specs.Prelude.{piece_of, ring_piece, piece_at, last_end, subject_pieces, pieces_of}
use Rattle.wkb_check.proofs.Placing.{spelled_end, geometry_stands, body_at, counted_at, body_stands, front_stands}
use Rattle.wkb_check.proofs.Placing.{rest_stands}
pub use Rattle.wkb_check.proofs.Placing.{Stands}

-- ---- subjects one after another

-- the bytes of the subject stand here
pub record IsPlaced (input : List ℕ) (at : ℕ) (x : Subject) : Type 0 where
  pub bytes : List ℕ
  pub rest : List ℕ
  pub stands : Stands input at bytes rest
  pub spell : SpellsSubject x bytes

-- so do those of each, where the one before ends
abbrev pub ArePlaced : List ℕ → ℕ → List Subject → Type 0
ArePlaced input at [] = Unit {0}
ArePlaced input at (x ∷ xs) = IsPlaced input at x × ArePlaced input (own_end (piece_at at x)) xs

placed_append : (input : List ℕ) (at : ℕ) (xs ys : List Subject) → ArePlaced input at xs
    → ArePlaced input (last_end at xs) ys → ArePlaced input at (xs ++ ys)
placed_append input at [] ys f g = g
placed_append input at (x ∷ xs) ys f g = (f.0, placed_append input (own_end (piece_at at x)) xs ys f.1 g)

is_placed : {input : List ℕ} {at : ℕ} {bytes rest : List ℕ} (x : Subject) → Stands input at bytes rest
    → SpellsSubject x bytes → IsPlaced input at x
is_placed {bytes = bytes} {rest = rest} x stands sp = grind arith

rings_placed : {input : List ℕ} (order : Endianness) (d : Dimension) (rings : List (List Coordinate)) {at : ℕ}
    {bytes rest : List ℕ} → Stands input at bytes rest → IsEach (SpellsCoordinates order d) rings bytes
    → ArePlaced input at (subjects_of_rings order d rings)
rings_placed order d [] stands h = tt
rings_placed order d (cs ∷ rings) {at} stands h = (
  is_placed (ring order d cs) (front_stands stands h) h.first,
  rings_placed order d rings
      (rest_stands stands h (own_end (ring_piece order d at (length cs)))
      (omega (arith, coordinates_length order d cs h.front h.first))) h.second,
)

-- The rings follow a count, and so do the members.
inside_placed : {input : List ℕ} {bytes rest : List ℕ} {Q : List ℕ → Type 0} (h : Header) (words : List ℕ)
    (ss : Spellings) (t : Value) (at : ℕ) → Stands input (body_at h at) bytes rest
    → (both : Then (SpellsBody h.order words t) Q bytes)
    → (Stands input (at + leading h t) both.rest rest
    → ArePlaced input (at + leading h t) (subjects_of_each ss (members t)))
    → ArePlaced input (own_end (piece_of at (node h words ss) t))
    (subjects_of_rings h.order (dimension t) (rings_of t) ++ subjects_of_each ss (members t))
inside_placed h words ss (point d c) at stands both each = tt
inside_placed h words ss (line_string d cs) at stands both each = tt
inside_placed {input} h words ss (polygon d rings) at stands both each =
    let b = both.first.1 in
    placed_append input (counted_at h at) (subjects_of_rings h.order d rings) []
    (rings_placed h.order d rings
    (rest_stands (front_stands stands both) b (counted_at h at) (omega (arith, b.first.len))) b.second) tt
inside_placed h words ss t at stands both each =
    each (rest_stands stands both (counted_at h at) (omega (arith, both.first.1.len)))

mutual
  placed : {input : List ℕ} (s : Spelling) (t : Value) {at : ℕ} {bytes rest : List ℕ}
      → Stands input at bytes rest → Spells s t bytes → ArePlaced input at (subjects s t)
  placed (node h words ss) t {at} stands sp = (
    is_placed (whole (node h words ss) t) stands sp,
    inside_placed h words ss t at (body_stands h t stands sp) sp.second
        (λ there. each_placed _ ss (members t) there sp.second.second),
  )

  each_placed : {input : List ℕ} (w : Wanted) (ss : Spellings) (ts : Values) {at : ℕ} {bytes rest : List ℕ}
      → Stands input at bytes rest → SpellsEach w ss ts bytes → ArePlaced input at (subjects_of_each ss ts)
  each_placed w ss no_members stands sp = tt
  each_placed w no_spellings (member t ts) stands sp = tt
  each_placed {input} w (spelling s ss) (member t ts) {at} stands sp =
      placed_append input at (subjects s t) (subjects_of_each ss ts) (placed s t (front_stands stands sp) sp.first.0)
      (each_placed w ss ts (rest_stands stands sp _ (spelled_end at s t sp.front sp.first.0)) sp.second)

pub all_placed : (input : List ℕ) (at : ℕ) {rest : List ℕ} (s : Spelling) (t : Value)
    → Begins (Spells s t) (drop at input) rest → ArePlaced input at (subjects s t)
all_placed input at {rest} s t b =
    placed s t (geometry_stands input at (record { spelled = s; value = t; rest = rest; begins = b })) b.first

-- ---- what a piece says of its subject

abbrev pub kind_in : Subject → ℕ
kind_in (whole s t) = kind t
kind_in (ring order d cs) = 0

abbrev pub count_in : Subject → ℕ
count_in (whole s t) = count_of t
count_in (ring order d cs) = length cs

-- of a point: whether its words are all NaNs
abbrev pub PointIs : Subject → Type 0
PointIs (whole (node h words ss) (point d None)) = all_nan words ≡ true
PointIs (whole (node h words ss) (point d (Some c))) = all_nan c ≡ false
PointIs _ = Unit {0}

-- the coordinates that are read where it says
abbrev pub piece_coordinates : List ℕ → Piece → List Coordinate
piece_coordinates input p =
    if nat_lt p.kind 3 then coordinates p.order p.dimension p.count (drop p.offset input) else []

pub record IsPieceOf (input : List ℕ) (p : Piece) (x : Subject) : Type 0 where
  pub kind_is : p.kind ≡ kind_in x
  pub dimension_is : p.dimension ≡ dimension_in x
  pub count_is : p.count ≡ count_in x
  pub coordinates_are : piece_coordinates input p ≡ subject_coordinates x
  pub point_is : PointIs x
  pub inside : nat_lt p.kind 3 ≡ true → p.offset + 8 * width p.dimension * p.count ≤ length input

-- the coordinates that are read at this place, and that they are inside the input
record AreRead (input : List ℕ) (order : Endianness) (d : Dimension) (offset n : ℕ) (cs : List Coordinate)
    : Type 0 where
  pub read : coordinates order d n (drop offset input) ≡ cs
  pub inside : offset + 8 * width d * n ≤ length input

coordinates_read : {input : List ℕ} {offset : ℕ} {bytes rest : List ℕ} (order : Endianness) (d : Dimension)
    (cs : List Coordinate) → Stands input offset bytes rest → IsEach (SpellsCoordinate order d) cs bytes
    → AreRead input order d offset (length cs) cs
coordinates_read {bytes = bytes} {rest = rest} order d cs stands h = record {
  read =
      ap (coordinates order d (length cs)) stands.is
      ∙ items_read (SpellsCoordinate order d) (8 * width d) (coordinate order d)
      (λ c x y is. (coordinate_length order d c x is, coordinate_read order d c x y is)) cs bytes rest h;
  inside = omega (
    arith,
    stands.inside,
    each_len (SpellsCoordinate order d) (8 * width d) (λ c x is. coordinate_length order d c x is) cs bytes h,
  );
}

one_read : {input : List ℕ} {offset : ℕ} {bytes rest : List ℕ} (order : Endianness) (d : Dimension) (c : Coordinate)
    → Stands input offset bytes rest → SpellsCoordinate order d c bytes → AreRead input order d offset 1 (c ∷ [])
one_read {bytes = bytes} order d c stands h = coordinates_read order d (c ∷ []) stands (search rules)

-- a piece of a point, a line string or a ring, whose coordinates are read where it says
with_coordinates : {input : List ℕ} {p : Piece} {x : Subject} → p.kind ≡ kind_in x → p.dimension ≡ dimension_in x
    → p.count ≡ count_in x → nat_lt p.kind 3 ≡ true
    → AreRead input p.order p.dimension p.offset p.count (subject_coordinates x) → PointIs x → IsPieceOf input p x
with_coordinates {input} {p} {x} kind_is dimension_is count_is low r point_is = grind arith

body_says : {input : List ℕ} (at : ℕ) {body rest : List ℕ} (h : Header) (own : List ℕ) (ss : Spellings) (t : Value)
    → Stands input (body_at h at) body rest → SpellsBody h.order own t body
    → IsPieceOf input (piece_of at (node h own ss) t) (whole (node h own ss) t)
body_says at h own ss (point d None) stands b = search (rules, with_coordinates, one_read)
body_says at h own ss (point d (Some c)) stands b = search (rules, with_coordinates, one_read)
body_says at h own ss (line_string d cs) stands b =
    with_coordinates refl refl refl refl
    (coordinates_read h.order d cs (rest_stands stands b.1 (counted_at h at) (omega (arith, b.1.first.len)))
    b.1.second) tt
body_says at h own ss _ stands b = grind arith

pub says : {input : List ℕ} {at : ℕ} {bytes rest : List ℕ} (x : Subject) → Stands input at bytes rest
    → SpellsSubject x bytes → IsPieceOf input (piece_at at x) x
says {at = at} (whole (node h words ss) t) stands sp =
    body_says at h words ss t (front_stands (body_stands h t stands sp) sp.second) sp.second.first
says {at = at} (ring order d cs) stands sp =
    with_coordinates refl refl refl refl
    (coordinates_read order d cs (rest_stands stands sp (at + 4) (omega (arith, sp.first.len))) sp.second) tt

-- these are the pieces of the subjects, one for one
abbrev pub ArePiecesOf : List ℕ → List Piece → List Subject → Type 0
ArePiecesOf input [] [] = Unit {0}
ArePiecesOf input (p ∷ ps) (x ∷ xs) = IsPieceOf input p x × ArePiecesOf input ps xs
ArePiecesOf input _ _ = ⊥

each_says : (input : List ℕ) (at : ℕ) (xs : List Subject) → ArePlaced input at xs
    → ArePiecesOf input (subject_pieces at xs) xs
each_says input at [] f = tt
each_says input at (x ∷ xs) f = (says x f.0.stands f.0.spell, each_says input (own_end (piece_at at x)) xs f.1)

pub pieces_match : (input : List ℕ) (at : ℕ) {rest : List ℕ} (s : Spelling) (t : Value)
    → Begins (Spells s t) (drop at input) rest → ArePiecesOf input (pieces_of at s t) (subjects s t)
pieces_match input at s t g = each_says input at (subjects s t) (all_placed input at s t g)
