-- What the pieces of a geometry say is what its value says.
use Rattle.std.proofs.Common.{◌≡◌, ℕ, zero, suc, ◌+◌, ◌*◌, List, [], ◌∷◌, ◌++◌, drop, map, refl, ap, ◌∙◌, arith}
use Rattle.std.proofs.Common.{replicate, append-nil, drop-drop, add_comm, mul-one, if◌then◌else◌, ◌&&◌, ◌==◌}
use native.Mathlib.Numerals.{unary_clauses}
use Rattle.std.proofs.lemmas.List.{map-append}
use Rattle.std.specs.List.{concat}
use Rattle.wkb_laws.specs.Prelude.{Endianness, Dimension, Coordinate, Value, Values, member, dimension, members, width}
use Rattle.wkb_laws.specs.Prelude.{all_nan, empty_word, number, Begins, coordinates, Spelling, node, Spellings}
use Rattle.wkb_laws.specs.Prelude.{no_spellings, spelling, no_members, Spells, items}
unfoldable use Rattle.wkb_laws.specs.Prelude.{point_words}
use Rattle.wkb_check.specs.Prelude.{pieces_of, Subject, whole, ring, rings_of, subject_coordinates, subjects}
use Rattle.wkb_check.specs.declared.pieces.Piece.{Piece}
use Rattle.wkb_check.specs.Prelude.{subjects_of_rings, subjects_of_each}
use Rattle.wkb_check.proofs.Subjects.{IsPieceOf, ArePiecesOf, pieces_match}
use Rattle.wkb_rewrite.specs.Shares.{Share, share_in, own_words}
use Rattle.wkb_rewrite.proofs.ValueShares.{own_share, ring_share, shares_of, shares_of_each}

-- ---- the words of a piece are those of its coordinates, one after another

items_more : {A : Type 0} (f : List ℕ → A) (size m n : ℕ) (x : List ℕ)
    → items size f (n + m) x ≡ items size f m x ++ items size f n (drop (size * m) x)
items_more f size zero n x = simp unary_clauses
items_more f size (suc m) n x =
    simp (unary_clauses, drop-drop, items_more f size m n (drop size x), add_comm size (size * m))

flat : (order : Endianness) (d : Dimension) (n : ℕ) (x : List ℕ)
    → items 8 (number order 8) (width d * n) x ≡ concat (coordinates order d n x)
flat order d zero x = simp unary_clauses
flat order d (suc n) x =
    simp (unary_clauses, items_more (number order 8) 8 (width d) (width d * n) x, flat order d n (drop (8 * width d) x))

-- ---- one piece

abbrev share_of : Subject → Share
share_of (whole s t) = own_share t
share_of (ring order d cs) = ring_share d cs

-- the words that are written of a piece of this kind with these words
abbrev written : ℕ → ℕ → List ℕ → List ℕ
written k n words = if (k == 1) && all_nan words then replicate n empty_word else words

module _ (buf : List ℕ) (p : Piece) where
  own : (x : Subject) → IsPieceOf buf p x → own_words buf p ≡ concat (subject_coordinates x)
  own x m = grind (arith, flat)

  share_is : (x : Subject) → IsPieceOf buf p x → share_in buf p ≡ share_of x
  unfolding point_words
  share_is x m = grind (arith, own, append-nil, mul-one)

-- ---- all pieces

each_share : (buf : List ℕ) (ps : List Piece) (xs : List Subject) → ArePiecesOf buf ps xs
    → map (share_in buf) ps ≡ map share_of xs
each_share buf [] [] m = refl
each_share buf (p ∷ ps) (x ∷ xs) m = λ i. share_is buf p x m.0 i ∷ each_share buf ps xs m.1 i
each_share buf _ _ m = absurd m

rings_shares : (order : Endianness) (d : Dimension) (rings : List (List Coordinate))
    → map share_of (subjects_of_rings order d rings) ≡ map (ring_share d) rings
rings_shares order d [] = refl
rings_shares order d (cs ∷ rings) = ap (λ l. ring_share d cs ∷ l) (rings_shares order d rings)

mutual
  value_shares : (s : Spelling) (t : Value) → map share_of (subjects s t) ≡ shares_of s t
  value_shares (node h words ss) t =
      simp (map-append, rings_shares h.order (dimension t) (rings_of t), each_shares ss (members t))

  each_shares : (ss : Spellings) (ts : Values) → map share_of (subjects_of_each ss ts) ≡ shares_of_each ss ts
  each_shares no_spellings no_members = refl
  each_shares no_spellings (member t ts) = refl
  each_shares (spelling s ss) no_members = refl
  each_shares (spelling s ss) (member t ts) = simp (map-append, value_shares s t, each_shares ss ts)

pub pieces_say : (buf : List ℕ) (at : ℕ) (s : Spelling) (t : Value) (rest : List ℕ)
    → Begins (Spells s t) (drop at buf) rest → map (share_in buf) (pieces_of at s t) ≡ shares_of s t
pieces_say buf at s t rest b =
    each_share buf (pieces_of at s t) (subjects s t) (pieces_match buf at s t b)
    ∙ value_shares s t
