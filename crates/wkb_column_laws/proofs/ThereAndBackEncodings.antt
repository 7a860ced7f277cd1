-- What bytes spell, with the words of its empty points, can be written; and where these are the words that are written
-- of empty points, its encoding is that of the value.
use Rattle.wkb_abi.proofs.Common.{◌≡◌, ℕ, suc, ◌<◌, ◌^◌, List, [], ◌∷◌, ◌++◌, length, Option, Some, None, refl, ap}
use Rattle.wkb_abi.proofs.Common.{arith, Dimension, Coordinate, Spelling, node, Spellings, no_spellings, spelling}
use Rattle.wkb_abi.proofs.Common.{Spells, SpellsEach, SpellsCoordinate, Value, point, multi_point, IsNumber}
use Rattle.std.specs.List.{AllByRecursion}
use Rattle.std.proofs.Common.{lt-ltb, map, flat_map}
use Rattle.std.proofs.lemmas.List.{length-map}
use Rattle.wkb_laws.specs.Prelude.{as_dimensions, written_dimension, IsEach, AreBytes, IsWord, part, each, Endianness}
use Rattle.wkb_geom.specs.Encodings.{encoding, point_encoding, point_words, fault, or_else, size_fault, fault_under}
use Rattle.wkb_geom.specs.Geometries.{geometry_of, normal, IsGeometry, IsCoordinate, IsPoint}
use Rattle.wkb_geom.specs.declared.common.Form.{Form}
use Rattle.wkb_laws.proofs.Lengths.{named_width, value_size, spelled_length, encoding_length}
use Rattle.wkb_laws.proofs.Values.{bytes_of, number-lt, spelled_good, lawful-geometry_of, normal-geometry_of}
use Rattle.wkb_column_laws.specs.ThereAndBack.{point_spelled, points_spelled, as_spelled, HasEmptyWords}

-- ---- it is a lawful geometry

-- the words that bytes spell are words
words_fit : (order : Endianness) (c bytes : List ℕ) → AreBytes bytes → IsEach (IsNumber order 8) c bytes
    → AllByRecursion IsWord c
words_fit order [] bytes b h = tt
words_fit order (w ∷ c) bytes b h =
    let both = bytes_of h b in (number-lt order 8 w h.front h.first both.0, words_fit order c h.rest both.1 h.second)

-- a coordinate of these is one of a caller's
coordinate_lawful : (order : Endianness) (d : Dimension) (c bytes : List ℕ) → AreBytes bytes
    → SpellsCoordinate order d c bytes → IsCoordinate (as_dimensions d) c
coordinate_lawful order d c bytes b h = grind (arith, named_width, words_fit)

-- so are the words of a point, also of an empty one
point_lawful : (s : Spelling) (d : Dimension) (c : Option Coordinate) (bytes : List ℕ) → AreBytes bytes
    → Spells s (point d c) bytes → IsCoordinate (as_dimensions d) (point_spelled s c)
point_lawful (node h words ss) d None bytes b spelled =
    let body = (bytes_of spelled.second (bytes_of spelled b).1).0 in
    coordinate_lawful h.order d words spelled.second.front body spelled.second.first.1
point_lawful (node h words ss) d (Some c) bytes b spelled =
    let body = (bytes_of spelled.second (bytes_of spelled b).1).0 in
    coordinate_lawful h.order d c spelled.second.front body spelled.second.first.2

-- and those of the points of a multi point, which are as many
points_lawful : (d : Dimension) (ss : Spellings) (points : List (Option Coordinate)) (bytes : List ℕ) → AreBytes bytes
    → SpellsEach (part 1 d) ss (each (point d) points) bytes
    → AllByRecursion (IsPoint (as_dimensions d)) (map (λ c. Some c) (points_spelled ss points))
    × (length (points_spelled ss points) ≡ length points)
points_lawful d ss [] bytes b spelled = (tt, refl)
points_lawful d no_spellings (c ∷ points) bytes b spelled = absurd spelled
points_lawful d (spelling s ss) (c ∷ points) bytes b spelled =
    let both = bytes_of spelled b in
    let others = points_lawful d ss points spelled.rest both.1 spelled.second in
    ((point_lawful s d c spelled.front both.0 spelled.first.0, others.0), ap suc others.1)

-- what is known of it
record IsLikeValue (s : Spelling) (t : Value) : Type 0 where
  lawful : IsGeometry (as_spelled s t)
  same_fault : fault (as_spelled s t) ≡ fault (geometry_of t)
  same_size : value_size (normal (as_spelled s t)) ≡ value_size (normal (geometry_of t))

-- what bytes spell is like its value
like_value : (s : Spelling) (t : Value) (bytes : List ℕ) → AreBytes bytes → Spells s t bytes → IsLikeValue s t
like_value s (point d c) bytes b spelled = grind (arith, point_lawful)
like_value (node h words ss) (multi_point d points) bytes b spelled =
    let members = spelled.second in
    let all = points_lawful d ss points members.rest (bytes_of members (bytes_of spelled b).1).1 members.second in
    record { lawful = all.0; same_fault = simp (length-map, all.1); same_size = simp (length-map, all.1) }
like_value s t bytes b spelled =
    record { lawful = lawful-geometry_of t (spelled_good s t bytes b spelled).0; same_fault = refl; same_size = refl }

-- ---- it can be written

-- it is no longer than the bytes and an SRID
pub spelled_writable : (order : Endianness) (form : Form) (s : Spelling) (t : Value) (bytes : List ℕ) → AreBytes bytes
    → length bytes < 2 ^ 63 → Spells s t bytes → fault_under order form (as_spelled s t) ≡ None
unfolding size_fault or_else
spelled_writable order form s t bytes b small spelled =
    grind (arith, spelled_good, like_value, encoding_length, value_size, normal-geometry_of, spelled_length, lt-ltb)

-- ---- its encoding

-- a point with the words of an empty one is written as the empty one
point_same : (order : Endianness) (form : Form) (d : Dimension) (c : Option Coordinate)
    → point_encoding order form (written_dimension (as_dimensions d)) (Some (point_words d c))
    ≡ point_encoding order form (written_dimension (as_dimensions d)) c
unfolding point_encoding point_words
point_same order form d c = grind arith

-- and points one behind another
points_same : (order : Endianness) (form : Form) (d : Dimension) (points : List (Option Coordinate))
    → flat_map (point_encoding order form (written_dimension (as_dimensions d)))
    (map (λ c. Some c) (map (point_words d) points))
    ≡ flat_map (point_encoding order form (written_dimension (as_dimensions d))) points
points_same order form d [] = refl
points_same order form d (c ∷ points) = λ i. point_same order form d c i ++ points_same order form d points i

-- so is a geometry
pub same_encoding : (order : Endianness) (form : Form) (s : Spelling) (t : Value) → HasEmptyWords s t
    → encoding order form (as_spelled s t) ≡ encoding order form (geometry_of t)
same_encoding order form s t h = grind (arith, point_same, length-map, points_same)
