-- Words and coordinates at their offsets.
use Rattle.wkb_view.proofs.Prelude.{◌≡◌, get_or_from_slice_get, number-take, length-items, AreBytes-take, AreBytes-drop}
use Rattle.wkb_view.proofs.Prelude.{Endianness, coordinate, coordinates, body_start, point_of, length-take, length-drop}
use Rattle.wkb_view.proofs.Prelude.{slice_get, drop-drop, drop-take, Dimension, ring_in, all_nan, point_item, take_all}
use Rattle.wkb_view.proofs.Prelude.{zero, length, get_or, arith, rules, number, width, items, Layout, is_nan, srid_in}
use Rattle.wkb_view.proofs.Prelude.{ℕ, suc, ◌+◌, ◌-◌, ◌*◌, ◌≤◌, ◌<◌, List, take, drop, Some, refl, sym, ap, ◌∙◌, Bool}
use Rattle.wkb_view.specs.Lawful.{number-lt}
use Rattle.std.specs.Prelude.{is_none}
use Rattle.std.proofs.Math.Nat.{mul-le-mul_right}
use Rattle.wkb_geom.specs.Spellings.{header}
use Rattle.wkb_geom.specs.Reading.{point_words_in}
use Rattle.wkb_view.specs.Coords.{coordinate_encoding}

pub items_at : {A : Type 0} (size : ℕ) (item : List ℕ → A) (n i : ℕ) (xs : List ℕ) → i < n
    → slice_get (items size item n xs) i ≡ Some (item (drop (size * i) xs))
items_at size item zero i xs h = absurd (omega arith)
items_at size item (suc n) zero xs h = let z : 0 ≡ size * 0 = omega arith in ap (λ (k : ℕ). Some (item (drop k xs))) z
items_at size item (suc n) (suc i) xs h = grind (arith, drop-drop, items_at size item n i (drop size xs) (omega arith))

pub word_at : (e : Endianness) (n i : ℕ) (xs : List ℕ) → i < n
    → get_or (items 8 (number e 8) n xs) i 0 ≡ number e 8 (drop (8 * i) xs)
word_at e n i xs h = search (rules, get_or_from_slice_get, items_at)

-- a word that was tested
pub word_is : (e : Endianness) (d : Dimension) (n w : ℕ) (xs : List ℕ) (b : Bool) → n < width d
    → w ≡ number e 8 (drop (8 * n) xs) → b ≡ is_nan w
    → is_nan (get_or (coordinate e d xs) n 0) ≡ b
word_is e d n w xs b lt w-is b-is = ap (λ (v : ℕ). is_nan v) (word_at e (width d) n xs lt ∙ sym w-is) ∙ sym b-is

-- words read no byte past their end
pub words_take : (e : Endianness) (n m : ℕ) (xs : List ℕ) → 8 * n ≤ m
    → items 8 (number e 8) n (take m xs) ≡ items 8 (number e 8) n xs
words_take e zero m xs h = refl
words_take e (suc n) m xs h =
    let k : m ≡ 8 + (m - 8) = omega arith in
    let inner : drop 8 (take m xs) ≡ take (m - 8) (drop 8 xs) =
    ap (λ (j : ℕ). drop 8 (take j xs)) k ∙ drop-take 8 (m - 8) xs in
    rw (number-take e 8 m xs (omega arith), inner, words_take e n (m - 8) (drop 8 xs) (omega arith)) refl

-- the coordinate between two offsets
pub coordinate_between : (e : Endianness) (d : Dimension) (n i start : ℕ) (encoding : List ℕ) → i < n
    → Some (coordinate e d (take (8 * width d) (drop (start + 8 * width d * i) encoding)))
    ≡ slice_get (coordinates e d n (drop start encoding)) i
coordinate_between e d n i start encoding h = grind (arith, drop-drop, items_at, words_take)

-- a coordinate after a header and a count
pub coordinate_behind : (d : Dimension) (start i : ℕ) (encoding : List ℕ)
    → coordinate_encoding d (4 + 8 * width d * i) (drop start encoding)
    ≡ coordinate_encoding d (start + 4 + 8 * width d * i) encoding
coordinate_behind d start i encoding = grind (arith, drop-drop)

pub ring_counted : (e : Endianness) (d : Dimension) (encoding : List ℕ)
    → length (ring_in e d encoding) ≡ number e 4 encoding
ring_counted e d encoding = length-items (8 * width d) (coordinate e d) (number e 4 encoding) (drop 4 encoding)

pub width-within : (d : Dimension) → (2 ≤ width d) × (width d ≤ 4)
width-within d = grind arith

pub start_within : (srid : Bool) → body_start srid ≤ 9
start_within srid = grind arith

pub few_words : (d : Dimension) (i : ℕ) → 8 * width d * i ≤ 32 * i
few_words d i = mul-le-mul_right i (omega (arith, (width-within d).1))

pub few_bytes : (d : Dimension) (i : ℕ) → (5 + 8 * width d) * i ≤ 37 * i
few_bytes d i = mul-le-mul_right i (omega (arith, (width-within d).1))

-- an item below the count ends where all do, or before
pub next_within : (size i n : ℕ) → i < n → size * i + size ≤ size * n
next_within size i n lt = grind arith

-- offsets, slices of bytes, numbers, and items of one size
pub ruleset offset_laws = (start_within, few_bytes)

pub ruleset slice_laws = (take_all, length-take, length-drop, drop-drop, AreBytes-take, AreBytes-drop)

pub ruleset number_laws = number-lt

pub ruleset item_laws = (ring_counted, next_within, slice_laws)

-- ---- points that are empty, and those that are not

pub empty_is : (l : Layout) (encoding : List ℕ)
    → is_none (point_of (point_item l encoding).value) ≡ all_nan (point_words_in l encoding)
empty_is l encoding = grind arith

pub point_encoding_is : (l : Layout) (encoding : List ℕ) → (point_item l encoding).encoding ≡ encoding
point_encoding_is l encoding = grind arith

pub srid_is : (l : Layout) (encoding : List ℕ)
    → (header (point_item l encoding).spelled).srid ≡ srid_in l.order l.has_srid encoding
srid_is l encoding = grind arith
