-- An encoding is bytes, and bytes that spell a value as it is written are its encoding.
use Rattle.std.proofs.Common.{◌≡◌, ℕ, zero, suc, List, [], ◌∷◌, ◌++◌, Option, lit<, arith}
use Rattle.std.specs.Int.{bytes_high_first, bytes_low_first}
use Rattle.std.specs.List.{flat_map}
use Rattle.wkb_laws.specs.Prelude.{Form, coordinates_encoding, line_string_encoding, polygon_encoding, members_encoding}
use Rattle.wkb_laws.specs.Prelude.{Value, no_geometries, srid_encoding, header_encoding, words_encoding, point_encoding}
use Rattle.wkb_laws.specs.Prelude.{Endianness, AreBytes, number_bytes, Coordinate, Geometries, geometry_of, point_words}
use Rattle.wkb_laws.specs.Prelude.{Dimension, Spelling, Spells, Geometry, geometry, encoding, encodings, inner, IsForm}
use Rattle.wkb_geom.specs.Geometries.{collection}
use Rattle.wkb_laws.specs.Written.{written}
use Rattle.wkb_laws.proofs.OneEncoding.{one_encoding_lem}
use Rattle.wkb_laws.proofs.Rewritings.{value_encoding}
use Rattle.wkb_laws.proofs.Values.{spelled_good}

high_are_bytes : (n x : ℕ) → AreBytes (bytes_high_first n x)
high_are_bytes zero x i = lit< tt
high_are_bytes (suc n) x zero = grind arith
high_are_bytes (suc n) x (suc i) = high_are_bytes n x i

low_are_bytes : (j n x : ℕ) → AreBytes (bytes_low_first j n x)
low_are_bytes j zero x i = lit< tt
low_are_bytes j (suc n) x zero = grind arith
low_are_bytes j (suc n) x (suc i) = low_are_bytes (suc j) n x i

pub number_is_bytes : (order : Endianness) (n x : ℕ) → AreBytes (number_bytes order n x)
unfolding number_bytes
number_is_bytes order n x = grind (arith, high_are_bytes, low_are_bytes)

both_are_bytes : (xs ys : List ℕ) → AreBytes xs → AreBytes ys → AreBytes (xs ++ ys)
both_are_bytes [] ys h k i = k i
both_are_bytes (x ∷ xs) ys h k zero = h 0
both_are_bytes (x ∷ xs) ys h k (suc i) = both_are_bytes xs ys (λ j. h (suc j)) k i

each_is_bytes : {A : Type 0} (f : A → List ℕ) → ((a : A) → AreBytes (f a)) → (l : List A) → AreBytes (flat_map f l)
each_is_bytes f one [] i = lit< tt
each_is_bytes f one (a ∷ l) i = both_are_bytes (f a) (flat_map f l) (one a) (each_is_bytes f one l) i

module _ (order : Endianness) where
  words_are_bytes : (words : List ℕ) → AreBytes (words_encoding order words)
  unfolding words_encoding
  words_are_bytes = each_is_bytes (number_bytes order 8) (number_is_bytes order 8)

  coordinates_are_bytes : (cs : List Coordinate) → AreBytes (coordinates_encoding order cs)
  unfolding coordinates_encoding
  coordinates_are_bytes cs = grind (arith, both_are_bytes, number_is_bytes, each_is_bytes, words_are_bytes)

  module _ (form : Form) (d : Dimension) where
    header_is_bytes : (k : ℕ) → AreBytes (header_encoding order form k d)
    unfolding header_encoding srid_encoding
    header_is_bytes k h = grind (arith, both_are_bytes, number_is_bytes)

    point_is_bytes : (c : Option Coordinate) → AreBytes (point_encoding order form d c)
    unfolding point_encoding
    point_is_bytes c = both_are_bytes _ _ (header_is_bytes 1) (words_are_bytes (point_words d c))

    line_string_is_bytes : (cs : List Coordinate) → AreBytes (line_string_encoding order form d cs)
    unfolding line_string_encoding
    line_string_is_bytes cs = both_are_bytes _ _ (header_is_bytes 2) (coordinates_are_bytes cs)

    polygon_is_bytes : (rings : List (List Coordinate)) → AreBytes (polygon_encoding order form d rings)
    unfolding polygon_encoding
    polygon_is_bytes rings = both_are_bytes _ _ (header_is_bytes 3)
        (grind (arith, both_are_bytes, number_is_bytes, each_is_bytes, coordinates_are_bytes))

    members_are_bytes : (k n : ℕ) (inside : List ℕ) → AreBytes inside
        → AreBytes (members_encoding order form k d n inside)
    unfolding members_encoding
    members_are_bytes k n inside h = grind (arith, both_are_bytes, header_is_bytes, number_is_bytes)

ruleset parts_are_bytes =
    (point_is_bytes, line_string_is_bytes, polygon_is_bytes, members_are_bytes, each_is_bytes)

mutual
  pub encoding_is_bytes : (order : Endianness) (form : Form) (g : Geometry) → AreBytes (encoding order form g)
  encoding_is_bytes order form (collection dims gs) =
      members_are_bytes order form _ 7 _ _ (encodings_are_bytes order (inner form) gs)
  encoding_is_bytes order form _ = search parts_are_bytes

  encodings_are_bytes : (order : Endianness) (form : Form) (gs : Geometries) → AreBytes (encodings order form gs)
  encodings_are_bytes order form no_geometries i = lit< tt
  encodings_are_bytes order form (geometry g gs) i =
      both_are_bytes _ _ (encoding_is_bytes order form g) (encodings_are_bytes order form gs) i

-- bytes that spell a value by the spelling of its encoding are this encoding
pub as_written : (order : Endianness) (form : Form) (s : Spelling) (t : Value) (bytes : List ℕ) → IsForm form
    → AreBytes bytes → Spells s t bytes
    → s ≡ written order form (geometry_of t) → bytes ≡ encoding order form (geometry_of t)
as_written order form s t bytes h range spells same =
    let out = encoding order form (geometry_of t) in
    one_encoding_lem s t bytes out range (encoding_is_bytes order form (geometry_of t)) spells
    (grind (arith, value_encoding, spelled_good))
