-- What is read of bytes is lawful: each word is below 2^64, and there are as many of them as the dimension says.
use Rattle.std.proofs.Common.{◌≡◌, ℕ, zero, suc, ◌<◌, ◌^◌, ◌*◌, List, [], ◌∷◌, take, drop, lit<, Ok, refl, arith}
use Rattle.std.proofs.lemmas.List.{get_or-drop}
use Rattle.std.specs.List.{AllByRecursion}
use Rattle.byteorder.specs.Numbers.{big_from-lt, little_from-lt}
use Rattle.wkb_geom.specs.Geometries.{IsCoordinate, IsPoint, AreCoordinates}
use Rattle.wkb_geom.specs.Reading.{member_layout}
use Rattle.wkb_laws.specs.Prelude.{Endianness, BigEndian, LittleEndian, Dimension, Xy, Layout, width, size}
use Rattle.wkb_laws.specs.Prelude.{as_dimensions, AreBytes, IsWord, length-items, items, coordinate, coordinates, point}
use Rattle.wkb_laws.specs.Prelude.{point_of, point_item, line_string_of, line_string_item, ring_in}
unfoldable use Rattle.wkb_laws.specs.Prelude.{number, head_at}

pub number-lt : (e : Endianness) (n : ℕ) (bytes : List ℕ) → AreBytes bytes → number e n bytes < 256 ^ n
unfolding number
number-lt BigEndian n bytes h = big_from-lt 0 n bytes h
number-lt LittleEndian n bytes h = little_from-lt 0 n bytes h

pub AreBytes-drop : (n : ℕ) (bytes : List ℕ) → AreBytes bytes → AreBytes (drop n bytes)
AreBytes-drop n bytes h i = grind (arith, get_or-drop)

pub AreBytes-take : (n : ℕ) (bytes : List ℕ) → AreBytes bytes → AreBytes (take n bytes)
AreBytes-take (suc n) (b ∷ bytes) h zero = h 0
AreBytes-take (suc n) (b ∷ bytes) h (suc i) = AreBytes-take n bytes (λ j. h (suc j)) i
AreBytes-take zero bytes h i = lit< tt
AreBytes-take n [] h i = lit< tt

-- what holds of any item that is read of bytes holds of all
items_hold : {A : Type 0} (P : A → Type 0) (size : ℕ) (read : List ℕ → A)
    → ((bytes : List ℕ) → AreBytes bytes → P (read bytes)) → (n : ℕ) (bytes : List ℕ) → AreBytes bytes
    → AllByRecursion P (items size read n bytes)
items_hold P size read one zero bytes h = tt
items_hold P size read one (suc n) bytes h =
    (one bytes h, items_hold P size read one n (drop size bytes) (AreBytes-drop size bytes h))

words_fit : (e : Endianness) (n : ℕ) (bytes : List ℕ) → AreBytes bytes
    → AllByRecursion IsWord (items 8 (number e 8) n bytes)
words_fit e = items_hold IsWord 8 (number e 8) (number-lt e 8)

pub named_size : (d : Dimension) → size (as_dimensions d) ≡ width d
named_size Xy = refl
named_size _ = refl

pub coordinate_lawful : (e : Endianness) (d : Dimension) (bytes : List ℕ) → AreBytes bytes
    → IsCoordinate (as_dimensions d) (coordinate e d bytes)
coordinate_lawful e d bytes h = grind (arith, length-items, named_size, words_fit)

coordinates_lawful : (e : Endianness) (d : Dimension) (n : ℕ) (bytes : List ℕ) → AreBytes bytes
    → AreCoordinates (as_dimensions d) (coordinates e d n bytes)
coordinates_lawful e d = items_hold (IsCoordinate (as_dimensions d)) (8 * width d) (coordinate e d) (coordinate_lawful e d)

pub ring_lawful : (e : Endianness) (d : Dimension) (encoding : List ℕ) → AreBytes encoding
    → AreCoordinates (as_dimensions d) (ring_in e d encoding)
ring_lawful e d encoding h = coordinates_lawful e d (number e 4 encoding) (drop 4 encoding) (AreBytes-drop 4 encoding h)

pub line_string_item_lawful : (l : Layout) (encoding : List ℕ) → AreBytes encoding
    → AreCoordinates (as_dimensions l.dimension) (line_string_of (line_string_item l encoding).value)
line_string_item_lawful l encoding h = grind (arith, ring_lawful, AreBytes-drop)

pub point_item_lawful : (l : Layout) (encoding : List ℕ) → AreBytes encoding
    → IsPoint (as_dimensions l.dimension) (point_of (point_item l encoding).value)
point_item_lawful l encoding h = grind (arith, coordinate_lawful, AreBytes-drop)

-- a point's value is that of its coordinate, if it has one
pub point_item_value : (l : Layout) (encoding : List ℕ)
    → (point_item l encoding).value ≡ point l.dimension (point_of (point_item l encoding).value)
point_item_value l encoding = grind arith

-- a member has the dimension of the whole
pub member_dimension : (k : ℕ) (d : Dimension) (encoding : List ℕ) (l : Layout) → member_layout k d encoding ≡ Ok l
    → l.dimension ≡ d
member_dimension k d encoding l e = grind arith
