-- How long an encoding is, by the SRIDs of the pieces.
use Rattle.std.proofs.Common.{◌≡◌, ℕ, ◌+◌, ◌*◌, ◌≤◌, List, [], ◌∷◌, ◌++◌, length, is_some, refl, ap, ◌∙◌, arith}
use Rattle.std.proofs.Common.{length-append}
use Rattle.wkb_laws.specs.Prelude.{Endianness, Dimension, Form, Coordinate, AreBytes, Value, Values, no_members, member}
use Rattle.wkb_laws.specs.Prelude.{dimension, members, Spelling, node, Spellings, no_spellings, spelling, Spells}
use Rattle.wkb_laws.specs.Prelude.{SpellsEach, kind, Wanted, srid_count, srid_count_each, srid_size, form_srid}
use Rattle.wkb_laws.specs.Prelude.{geometry_of, encoding, type_kind, Header}
use Rattle.wkb_laws.proofs.Lengths.{spelled_length, encoding_length, value_size, srid_size_is, none_without_members}
use Rattle.wkb_laws.proofs.Lengths.{none_in_points}
use Rattle.wkb_laws.proofs.Values.{normal-geometry_of, lawful-geometry_of}
use Rattle.wkb_check.specs.Prelude.{HasGeometry, DescribesFront, own_end, piece_of, ring_piece}
use Rattle.wkb_check.specs.declared.{pieces.Piece.Piece, answer.Summary.Summary}
use Rattle.wkb_check.specs.Prelude.{piece_at, last_end, subject_pieces, pieces_of, IsPieceAt}
use Rattle.wkb_check.specs.Subjects.{Subject, rings_of, subjects, subjects_of_rings, subjects_of_each}
use Rattle.wkb_check.proofs.Ahead.{here, type_kind_is}
use Rattle.wkb_rewrite.proofs.Comparing.{same_spelling, value_good}
use Rattle.wkb_rewrite.proofs.Laying.{most_srid}

-- the bytes of the SRIDs of pieces
abbrev pub srid_sizes : List Piece → ℕ
srid_sizes [] = 0
srid_sizes (p ∷ ps) = srid_size (is_some p.srid) + srid_sizes ps

pub sizes_append : (ps qs : List Piece) → srid_sizes (ps ++ qs) ≡ srid_sizes ps + srid_sizes qs
sizes_append [] qs = omega arith
sizes_append (p ∷ ps) qs = omega (arith, sizes_append ps qs)

srids_append : (at : ℕ) (xs ys : List Subject)
    → srid_sizes (subject_pieces at (xs ++ ys))
    ≡ srid_sizes (subject_pieces at xs) + srid_sizes (subject_pieces (last_end at xs) ys)
srids_append at [] ys = omega arith
srids_append at (x ∷ xs) ys = omega (arith, srids_append (own_end (piece_at at x)) xs ys)

rings_have_none : (order : Endianness) (d : Dimension) (at : ℕ) (rings : List (List Coordinate))
    → srid_sizes (subject_pieces at (subjects_of_rings order d rings)) ≡ 0
rings_have_none order d at [] = refl
rings_have_none order d at (cs ∷ rings) =
    omega (arith, rings_have_none order d (own_end (ring_piece order d at (length cs))) rings)

mutual
  srids_counted : (at : ℕ) (s : Spelling) (t : Value) (x : List ℕ) → Spells s t x
      → srid_sizes (pieces_of at s t) ≡ 4 * srid_count s
  srids_counted at (node h words ss) t x a =
      let from = own_end (piece_of at (node h words ss) t) in
      let rings = subjects_of_rings h.order (dimension t) (rings_of t) in
      omega (
        arith,
        srid_size_is (is_some h.srid),
        srids_append from rings (subjects_of_each ss (members t)),
        rings_have_none h.order (dimension t) from (rings_of t),
        each_counted (last_end from rings) _ ss (members t) a.second.rest a.second.second,
      )

  each_counted : (at : ℕ) (w : Wanted) (ss : Spellings) (ts : Values) (x : List ℕ) → SpellsEach w ss ts x
      → srid_sizes (subject_pieces at (subjects_of_each ss ts)) ≡ 4 * srid_count_each ss
  each_counted at w no_spellings no_members x a = refl
  each_counted at w (spelling s ss) (member t ts) x a =
      omega (
        arith,
        srids_append at (subjects s t) (subjects_of_each ss ts),
        srids_counted at s t a.front a.first.0,
        each_counted (last_end at (subjects s t)) w ss ts a.rest a.second,
      )
  each_counted at w _ _ x a = absurd a

-- up to multi points only the outermost geometry can have one
none_inside : (h : Header) (words : List ℕ) (ss : Spellings) (t : Value) (x : List ℕ) → Spells (node h words ss) t x
    → kind t ≤ 4
    → srid_count_each ss ≡ 0
none_inside h words ss t x a low = grind (arith, none_in_points, none_without_members)

pub own_srid_alone : (at : ℕ) (s : Spelling) (t : Value) (x : List ℕ) → Spells s t x → (p : Piece) → p ≡ piece_of at s t
    → p.kind ≤ 4
    → srid_sizes (pieces_of at s t) ≡ srid_size (is_some p.srid)
own_srid_alone at (node h words ss) t x a p is low =
    omega (
      arith,
      srids_counted at (node h words ss) t x a,
      none_inside h words ss t x a (omega (arith, ap (λ (q : Piece). q.kind) is)),
      ap (λ (q : Piece). srid_size (is_some q.srid)) is,
      srid_size_is (is_some h.srid),
    )

-- whichever geometry is there, it has as many bytes
pub long_of : {buf : List ℕ} {found : Summary} → DescribesFront buf found → (g : HasGeometry buf)
    → found.bytes ≡ length g.begins.front
long_of d g = d.described.bytes_are ∙ ap length (same_spelling (here d) g refl).encoding

-- the encoding has the form's SRID, and not those that the pieces have
pub measured : (order : Endianness) (form : Form) (buf : List ℕ) {bytes : ℕ} (g : HasGeometry buf) → AreBytes buf
    → bytes ≡ length g.begins.front
    → bytes + srid_size (is_some (form_srid form))
    ≡ length (encoding order form (geometry_of g.value)) + srid_sizes (pieces_of 0 g.spelled g.value)
measured order form buf g b long =
    let good = value_good g b in
    omega (
      arith,
      srid_size_is (is_some (form_srid form)),
      srids_counted 0 g.spelled g.value g.begins.front g.begins.first,
      spelled_length g.spelled g.value g.begins.front g.begins.first,
      encoding_length order form (geometry_of g.value) (lawful-geometry_of g.value good.0) good.1,
      ap value_size (normal-geometry_of g.value good.0),
    )

-- so it is at most the four bytes of an SRID longer than the input
pub at_most : (order : Endianness) (form : Form) (buf : List ℕ) (g : HasGeometry buf) → AreBytes buf
    → length (encoding order form (geometry_of g.value)) ≤ length buf + 4
at_most order form buf g b =
    omega (
      arith,
      measured order form buf g b refl,
      most_srid (is_some (form_srid form)),
      ap length g.begins.whole,
      length-append g.begins.front g.rest,
    )

-- the kind of its first piece is that which was found
pub kind_of : {buf : List ℕ} {found : Summary} → DescribesFront buf found → (p : Piece) → IsPieceAt buf 0 p
    → p.kind ≡ type_kind found.wkb_type
kind_of d p is = let there = is (here d) in grind (arith, type_kind_is)
