-- The steps of a loop that lays the encodings of a list's items.
use Rattle.wkb_write.proofs.Prelude.{◌≡◌, ℕ, zero, suc, ◌+◌, ◌*◌, ◌<◌, ◌≤◌, List, [], ◌∷◌, ◌++◌, length, take, drop}
use Rattle.wkb_write.proofs.Prelude.{sym, subst, ap, ◌∙◌, append_assoc, append-nil, take-append-drop, drop_all, refl}
use Rattle.wkb_write.proofs.Prelude.{Result, arith, flat_map, flat_map-append, Stopped, Endianness, Form}
use Rattle.wkb_write.proofs.Prelude.{Dimension, Dimensions, number_bytes, words_encoding, header_encoding}
use Rattle.wkb_write.proofs.Prelude.{members_encoding, counted, polygon_encoding, coordinates_encoding, Progress}
use Rattle.wkb_write.proofs.Prelude.{IsLaid, IsCut, Advances, get_or, Geometry, encoding, size, no_room, IsShort, Bool}
use Rattle.std.proofs.Common.{length-append}
use Rattle.std.proofs.lemmas.List.{drop-append-le, length-take-le}
use Rattle.wkb_geom.specs.Geometries.{AreCoordinates}
use Rattle.wkb_geom.specs.Encodings.{form_with_flags}
unfoldable use Rattle.wkb_write.specs.Answers.{member_encoding}
use Rattle.wkb_geom.specs.Values.{Coordinate}
use Rattle.wkb_sink.proofs.Laid.{laid_then, cut_then, cut_first, lays_then}
use Rattle.wkb_sink.proofs.Turned.{words_length}
use Rattle.wkb_write.proofs.FirstItem.{ItemAt, item_read}

-- a header, a count and the encodings of items, as a definition of the items
module _ (order : Endianness) (form : Form) {d named : Dimension} (same : named ≡ d) where
  pub members_told : {X : Type 0} (k : ℕ) (f : X → List ℕ) (xs : List X)
      → members_encoding order form k d (length xs) (flat_map f xs)
      ≡ header_encoding order form k named ++ counted order f xs
  unfolding members_encoding counted
  members_told k f xs = rw same refl

  pub rings_told : (rings : List (List Coordinate)) → polygon_encoding order form d rings
      ≡ header_encoding order form 3 named ++ counted order (coordinates_encoding order) rings
  unfolding polygon_encoding counted
  rings_told rings = rw same refl

-- the whole was laid up to the encodings of the items from an index on
pub record HasLaid {X : Type 0} (a b : Progress) (whole : List ℕ) (f : X → List ℕ) (xs : List X) (i : ℕ) : Type 0 where
  pub front : List ℕ
  pub is : whole ≡ front ++ flat_map f (drop i xs)
  pub laid : IsLaid a b front

-- coordinates behind a header, where it or their count was cut, and where they were laid
module _ {a b : Progress} {n : ℕ} (order : Endianness) (header : List ℕ) (cs : List Coordinate)
    (many : n ≡ length cs) where
  pub cut_head : IsCut a b (header ++ number_bytes order 4 n) → IsCut a b (header ++ coordinates_encoding order cs)
  unfolding coordinates_encoding
  cut_head p = rw (← many, ← append_assoc) (cut_first _ p)

  pub lays_behind : (c : Progress) (r : Result (Unit {0}) Stopped) → IsLaid a b (header ++ number_bytes order 4 n)
      → Advances b c (flat_map (words_encoding order) cs) r
      → Advances a c (header ++ coordinates_encoding order cs) r
  unfolding coordinates_encoding
  lays_behind c r p q = rw (← many, ← append_assoc) (lays_then c _ r p q)

-- a header and a count were laid
pub head_laid : {X : Type 0} {a b : Progress} {whole : List ℕ} {f : X → List ℕ} {xs : List X} {n : ℕ}
    (order : Endianness) (header : List ℕ) → whole ≡ header ++ counted order f xs → n ≡ length xs
    → IsLaid a b (header ++ number_bytes order 4 n) → HasLaid a b whole f xs 0
unfolding counted
head_laid {n = n} order header is count p = grind (arith, number_bytes, append_assoc)

-- where the header or the count was cut, the whole was
pub head_cut : {X : Type 0} {a b : Progress} {whole : List ℕ} {n : ℕ} (order : Endianness) (header : List ℕ)
    (f : X → List ℕ) (xs : List X) → whole ≡ header ++ counted order f xs → n ≡ length xs
    → IsCut a b (header ++ number_bytes order 4 n) → IsCut a b whole
unfolding counted
head_cut order header f xs is count p = rw (is, ← count, ← append_assoc) (cut_first _ p)

-- all items were laid
pub all_laid : {X : Type 0} {a b : Progress} {whole : List ℕ} {f : X → List ℕ} {xs : List X} {i : ℕ}
    → HasLaid a b whole f xs i → length xs ≤ i → IsLaid a b whole
all_laid {xs = xs} {i = i} laid past = rw (laid.is, drop_all i xs past, append-nil) laid.laid

module _ {X : Type 0} {a b : Progress} {whole : List ℕ} {f : X → List ℕ} {xs : List X} {i : ℕ}
    (laid : HasLaid a b whole f xs i) where
  -- one more item was laid
  pub next_laid : {c : Progress} → ItemAt xs i (λ x. IsLaid b c (f x)) → HasLaid a c whole f xs (i + 1)
  next_laid at = record {
    front = laid.front ++ f at.item;
    is = laid.is ∙ rw (at.rest, append_assoc) refl;
    laid = laid_then laid.laid at.holds;
  }

  -- or cut, and then the whole was
  pub next_cut : {c : Progress} → ItemAt xs i (λ x. IsCut b c (f x)) → IsCut a c whole
  next_cut at = rw (laid.is, at.rest) (cut_then laid.laid (cut_first _ at.holds))

  -- the same of an item as a loop reads it
  module _ (c : Progress) {j : ℕ} (x : X) (is : x ≡ get_or xs j x) (here : j ≡ i) where
    pub read_laid : i < length xs → IsLaid b c (f x) → HasLaid a c whole f xs (i + 1)
    read_laid within p = next_laid (item_read xs i x is here within p)

    pub read_cut : i < length xs → IsCut b c (f x) → IsCut a c whole
    read_cut within p = next_cut (item_read xs i x is here within p)

    -- the last item's result is that of the whole
    pub last_laid : (r : Result (Unit {0}) Stopped) → j + 1 ≡ length xs → Advances b c (f x) r → Advances a c whole r
    last_laid r end p = grind (arith, all_laid, read_laid, read_cut)

  -- of coordinates a run was laid, up to another index
  pub run_laid : {c : Progress} {j : ℕ} → i ≤ j → j ≤ length xs → IsLaid b c (flat_map f (drop i (take j xs)))
      → HasLaid a c whole f xs j
  run_laid {j = j} order within q =
      let long = length-take-le j xs within in
      let parts = ap (drop i) (sym (take-append-drop j xs))
      ∙ drop-append-le i (take j xs) (drop j xs) (omega (arith, order, long)) in
      record {
        front = laid.front ++ flat_map f (drop i (take j xs));
        is = laid.is ∙ rw (parts, flat_map-append, append_assoc) refl;
        laid = laid_then laid.laid q;
      }

-- a coordinate's bytes among those of the coordinates from one on
coordinate_left : (order : Endianness) (d : Dimensions) (cs : List (List ℕ)) (i : ℕ) → AreCoordinates d cs
    → i < length cs → 8 * size d ≤ length (flat_map (words_encoding order) (drop i cs))
coordinate_left order d [] i lawful more = absurd (omega arith)
coordinate_left order d (c ∷ cs) zero lawful more = grind (arith, length-append, words_encoding, flat_map, words_length)
coordinate_left order d (c ∷ cs) (suc i) lawful more = coordinate_left order d cs i lawful.1 (omega arith)

-- there was no room for the next coordinate
pub run_cut : {a b c : Progress} {whole : List ℕ} {cs : List (List ℕ)} {i n : ℕ} (order : Endianness) (d : Dimensions)
    → HasLaid a b whole (words_encoding order) cs i → AreCoordinates d cs → i < length cs → n ≡ 8 * size d
    → IsShort b c n → IsCut a c whole
run_cut {cs = cs} {i = i} order d p lawful more is q =
    let next = coordinate_left order d cs i lawful more in
    rw p.is (cut_then p.laid (no_room _ q (omega (arith, is, next))))

-- a member that was put in the form that the flag tells
pub lays_member : {X : Type 0} {form : Form} (a b : Progress) (meant : X → Geometry) (order : Endianness)
    (has_flags : Bool) (x : X) (r : Result (Unit {0}) Stopped) → form ≡ form_with_flags has_flags
    → Advances a b (encoding order form (meant x)) r → Advances a b (member_encoding meant order has_flags x) r
unfolding member_encoding
lays_member a b meant order has_flags x r same laid = rw same at laid

-- bytes that are the encoding were laid
pub lays_lent : (a b : Progress) {s t : List ℕ} (r : Result (Unit {0}) Stopped) → Advances a b s r → s ≡ t
    → Advances a b t r
lays_lent a b r laid is = subst (λ l. Advances a b l r) is laid
