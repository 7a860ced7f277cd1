-- Bytes that are read as coordinates in an order are what is written of these coordinates in that order.
use Rattle.wkb_view.proofs.Prelude.{◌≡◌, ℕ, zero, suc, ◌+◌, ◌*◌, ◌≤◌, List, length, take, drop, refl, sym, ◌∙◌, arith}
use Rattle.wkb_view.proofs.Prelude.{length-drop, take_all, Endianness, Dimension, AreBytes, number, width, items}
use Rattle.wkb_view.proofs.Prelude.{coordinate, coordinates, ring_in, AreBytes-take, AreBytes-drop}
use Rattle.std.proofs.Common.{take-add}
use Rattle.std.specs.List.{flat_map}
use Rattle.wkb_laws.specs.Prelude.{number_bytes, words_encoding}
use Rattle.wkb_laws.proofs.EncodingBytes.{number_is_bytes}
use Rattle.wkb_laws.proofs.OneEncoding.{number_fixed}
use Rattle.wkb_laws.proofs.Parts.{field_taken as number_taken}
use Rattle.wkb_laws.proofs.EncodingSpells.{IsNumber-number_bytes}
use Rattle.wkb_laws.proofs.Values.{number-lt}

-- the bytes of the number that is read off the first bytes are these
pub number_stands : (order : Endianness) (n : ℕ) (y : List ℕ) → AreBytes y → n ≤ length y
    → number_bytes order n (number order n y) ≡ take n y
number_stands order n y h long =
    let is = number_taken order n y long in
    let bytes = AreBytes-take n y h in
    (number_fixed order n (number order n y)).same (number_bytes order n (number order n y)) (take n y)
    (IsNumber-number_bytes order n (number order n y) (number-lt order n (number order n y) (take n y) is bytes)) is
    (number_is_bytes order n (number order n y)) bytes

-- where it is so of each item, it is of n of them
items_stand : {A : Type 0} (size : ℕ) (item : List ℕ → A) (f : A → List ℕ)
    → ((y : List ℕ) → AreBytes y → size ≤ length y → f (item y) ≡ take size y)
    → (n : ℕ) (y : List ℕ) → AreBytes y → size * n ≤ length y → flat_map f (items size item n y) ≡ take (size * n) y
items_stand size item f one zero y h long = let e : size * 0 ≡ 0 = omega arith in rw e refl
items_stand size item f one (suc n) y h long =
    let e : size * suc n ≡ size + size * n = omega arith in
    let first : f (item y) ≡ take size y = one y h (omega arith) in
    let rest : flat_map f (items size item n (drop size y)) ≡ take (size * n) (drop size y) =
    items_stand size item f one n (drop size y) (AreBytes-drop size y h) (omega (arith, length-drop size y)) in
    rw (e, first, rest) (sym (take-add size (size * n) y))

pub words_stand : (order : Endianness) (d : Dimension) (y : List ℕ) → AreBytes y → 8 * width d ≤ length y
    → words_encoding order (coordinate order d y) ≡ take (8 * width d) y
unfolding words_encoding
words_stand order d y h long = grind (arith, items_stand, number_stands)

pub coordinates_stand : (order : Endianness) (d : Dimension) (n : ℕ) (y : List ℕ) → AreBytes y
    → 8 * width d * n ≤ length y
    → flat_map (words_encoding order) (coordinates order d n y) ≡ take (8 * width d * n) y
coordinates_stand order d n y h long = grind (arith, items_stand, words_stand)

-- a ring's coordinates are all that follows its count
pub ring_stands : (order : Endianness) (d : Dimension) (encoding : List ℕ) → AreBytes encoding
    → length encoding ≡ 4 + 8 * width d * number order 4 encoding
    → drop 4 encoding ≡ flat_map (words_encoding order) (ring_in order d encoding)
ring_stands order d encoding h whole =
    let n = number order 4 encoding in
    let len = length-drop 4 encoding in
    sym (coordinates_stand order d n (drop 4 encoding) (AreBytes-drop 4 encoding h) (omega arith)
    ∙ take_all (8 * width d * n) (drop 4 encoding) (omega arith))
