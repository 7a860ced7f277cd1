-- The parts of a geometry at their places in its bytes.
use Rattle.std.proofs.Common.{◌≡◌, ℕ, zero, suc, ◌+◌, ◌*◌, List, [], ◌∷◌, ◌++◌, length, take, drop, Some, refl, sym, ap}
use Rattle.std.proofs.Common.{sum_by, subst, ◌∙◌, append_assoc, length-append, arith, slice_get, is_some, drop-drop}
use Rattle.std.proofs.lemmas.List.Sums.{sum_by_more}
use Rattle.std.proofs.lemmas.Option.{slice_get_within, get_or_from_slice_get}
use Rattle.wkb_laws.specs.Prelude.{Then, Dimension, number, width, IsEach, Coordinate, Value, Values, polygon}
use Rattle.wkb_laws.specs.Prelude.{no_members, member, kind, dimension, members, count, Header, Spelling, node}
use Rattle.wkb_laws.specs.Prelude.{Spellings, no_spellings, spelling, header, IsHeader, SpellsCoordinates, Wanted, any}
use Rattle.wkb_laws.specs.Prelude.{member_part, Spells, SpellsEach, srid_size, ring_end, coordinate, AreBytes}
use Rattle.wkb_laws.specs.Encodings.{spelled_size}
use Rattle.wkb_laws.specs.Places.{behind_count, IsOneOf, IsMember, first_spellings, first_values, ring_start, StandsAt}
use Rattle.wkb_laws.specs.Places.{first_size, FirstStart, NextStart, FirstRingStart, NextRingStart, HoldsMember}
use Rattle.wkb_laws.specs.Places.{MembersStand, HoldsRing, RingsStand, MembersInPlace, RingsInPlace, WordsStand}
use Rattle.wkb_laws.specs.Places.{LineStringWordsStand}
use Rattle.wkb_laws.proofs.Parts.{then_append, take_front, drop_front, item_at, header_length, joined}
use Rattle.wkb_laws.proofs.Values.{AreBytes-front, AreBytes-rest}
use Rattle.wkb_laws.proofs.Lengths.{each_length, coordinates_length}
use Rattle.wkb_laws.proofs.Complete.{ring_read}
use Rattle.wkb_laws.proofs.OneEncoding.{Fixed, coordinates_fixed, spells_fixed}
use Rattle.wkb_laws.proofs.Spelled.{first_length}

-- a header and a count
head_len : (g : Header) (k : ℕ) (d : Dimension) (header count : List ℕ) → IsHeader g k d header → length count ≡ 4
    → length (header ++ count) ≡ 9 + srid_size (is_some g.srid)
head_len g k d header count h four = omega (arith, length-append header count, header_length g k d header h, four)

-- ---- items one after another

-- the encoding of one item among those of others
record Among (Others P : List ℕ → Type 0) (bytes : List ℕ) : Type 0 where
  pub before : List ℕ
  pub item : List ℕ
  pub after : List ℕ
  pub whole : bytes ≡ before ++ (item ++ after)
  pub others : Others before
  pub is : P item

module _ {P Q Others : List ℕ → Type 0} {bytes : List ℕ} (h : Then P Q bytes) where
  -- an item after the first one
  later_is : {More R : List ℕ → Type 0} (f : Among Others R h.rest) → More (h.front ++ f.before) → Among More R bytes
  later_is f others = record {
    before = h.front ++ f.before;
    item = f.item;
    after = f.after;
    whole = h.whole ∙ rw (f.whole, append_assoc);
    others = others;
    is = f.is;
  }

each_at : {A : Type 0} (P : A → List ℕ → Type 0) (l : List A) (j : ℕ) (a : A) (bytes : List ℕ) → IsEach P l bytes
    → slice_get l j ≡ Some a
    → Among (IsEach P (take j l)) (P a) bytes
each_at P [] j a bytes h is = absurd (cc)
each_at P (b ∷ l) zero a bytes h is = grind arith
each_at P (b ∷ l) (suc j) a bytes h is =
    let f = each_at P l j a h.rest h.second is in
    later_is h f (joined h.front f.before h.first f.others)

-- ---- words

pub words_lem : WordsStand
words_lem order d cs bytes rest i n w h is =
    let x = bytes ++ rest in
    let read = ring_read order d cs bytes rest h in
    let size = 8 * width d in
    let coordinate_is =
    item_at size (coordinate order d) _ i (drop 4 x) is.coordinate
    (ap (λ z. slice_get z i) read.is ∙ is.coordinate_is) in
    let word_is =
    item_at 8 (number order 8) _ n (drop (size * i) (drop 4 x)) w
    (ap (λ z. slice_get z n) coordinate_is ∙ is.word_is) in
    let at : 4 + 8 * (width d * i + n) ≡ (4 + size * i) + 8 * n = omega arith in
    rw (at, ← drop-drop (8 * n) (4 + size * i) x, ← drop-drop (size * i) 4 x) word_is

pub line_string_words_lem : LineStringWordsStand
line_string_words_lem (node g own ss) d cs bytes rest i n w h is =
    let body = h.second in
    let coordinates = body.first.1 in
    let len = header_length g 2 d h.front h.first in
    let all : bytes ++ rest ≡ h.front ++ (body.front ++ (body.rest ++ rest)) =
    then_append h rest ∙ rw (then_append body rest) in
    let start = 5 + srid_size (is_some g.srid) in
    let at : behind_count (node g own ss) + 8 * (width d * i + n) ≡ start + (4 + 8 * (width d * i + n)) = omega arith in
    rw (at, ← drop-drop (4 + 8 * (width d * i + n)) start (bytes ++ rest), all, drop_front start h.front _ len)
    (words_lem g.order d cs body.front (body.rest ++ rest) i n w coordinates is)

-- ---- rings

pub rings_lem : RingsStand
rings_lem whole d rings j ring h value_is is =
    rings_of whole.encoding whole.spelled whole.value d rings j ring h value_is is
  where
    rings_of : (encoding : List ℕ) (s : Spelling) (t : Value) (d : Dimension) (rings : List (List Coordinate)) (j : ℕ)
        (ring : List Coordinate)
        → Spells s t encoding → t ≡ polygon d rings → slice_get rings j ≡ Some ring
        → HoldsRing (record { encoding = encoding; spelled = s; value = t }) j ring
    rings_of encoding (node g own ss) t d rings j ring spelled value_is is =
        let h = subst (λ v. Spells (node g own ss) v encoding) value_is spelled in
        let body = h.second in
        let counted = body.first.1 in
        let f = each_at (SpellsCoordinates g.order d) rings j ring counted.rest counted.second is in
        let head = head_len g 3 d h.front counted.front h.first counted.first.len in
        let each = each_length _ _ (coordinates_length g.order d) (take j rings) f.before f.others in
        record {
          start = length (h.front ++ counted.front) + length f.before;
          head = h.front ++ counted.front;
          before = f.before;
          bytes = f.item;
          after = f.after ++ body.rest;
          dimension = d;
          rings = rings;
          value_is = value_is;
          is = is;
          spells = f.is;
          others = f.others;
          parts = h.whole ∙ ap (λ t. h.front ++ t) (body.whole ∙ then_append counted body.rest)
              ∙ ap (λ t. h.front ++ (counted.front ++ (t ++ body.rest))) f.whole ∙ simp append_assoc;
          counted = head;
          start_is = refl;
          place = omega (arith, head);
        }

-- ---- members

next_size : (k : ℕ) (ss : Spellings) (ts : Values) (s : Spelling) (t : Value) → IsOneOf k ss ts s t
    → first_size (suc k) ss ts ≡ first_size k ss ts + spelled_size s t
next_size zero (spelling a ss) (member b ts) s t is = rw (is.0, is.1) (omega arith)
next_size (suc k) (spelling a ss) (member b ts) s t is = omega (arith, next_size k ss ts s t is)
next_size _ _ _ s t is = absurd is

pub first_start_lem : FirstStart
first_start_lem (node h words ss) value = omega arith

pub next_start_lem : NextStart
next_start_lem k (node h words ss) value s t is = omega (arith, next_size k ss (members value) s t is)

pub first_ring_lem : FirstRingStart
first_ring_lem s d rings = omega arith

pub next_ring_lem : NextRingStart
next_ring_lem j s d rings ring is =
    let size = λ (cs : List Coordinate). ring_end d (length cs) in
    let more : suc j ≡ j + 1 = omega arith in
    let taken = sum_by_more size rings j ring (slice_get_within rings j ring is) in
    let same = ap size (get_or_from_slice_get rings j ring ring is) in
    omega (arith, ap (λ n. sum_by size (take n rings)) more)

-- one member's encoding among those of the others
member_at : (w : Wanted) (k : ℕ) (ss : Spellings) (ts : Values) (s : Spelling) (t : Value) (bytes : List ℕ)
    → SpellsEach w ss ts bytes → IsOneOf k ss ts s t
    → Among (SpellsEach any (first_spellings k ss) (first_values k ts)) (Spells s t) bytes
member_at w zero (spelling a ss) (member v ts) s t bytes h is = grind arith
member_at w (suc k) (spelling a ss) (member v ts) s t bytes h is =
    let f = member_at w k ss ts s t h.rest h.second is in
    later_is h f (joined h.front f.before (h.first.0, tt) f.others)
member_at w _ _ _ s t bytes h is = absurd is

-- a geometry has one of its members; what has none holds no bytes for them
has_none : (k : ℕ) (ss : Spellings) (s : Spelling) (t : Value) → IsOneOf k ss no_members s t → ⊥
has_none zero no_spellings s t is = is
has_none (suc k) no_spellings s t is = is
has_none _ _ s t is = is

members_by : (encoding : List ℕ) (u : Spelling) (v : Value) (k : ℕ) (s : Spelling) (t : Value) → Spells u v encoding
    → IsMember k u v s t
    → (bytes : List ℕ)
    × HoldsMember (record { encoding = encoding; spelled = u; value = v }) k
    (record { encoding = bytes; spelled = s; value = t })
members_by encoding (node g own ss) v k s t h is =
    let body = h.second in
    let f = member_at (member_part (kind v) (dimension v)) k ss (members v) s t body.rest body.second is in
    let counted =
    head_len g (kind v) (dimension v) h.front body.front h.first (grind (arith, has_none)) in (
      f.item,
      record {
        start = length (h.front ++ body.front) + length f.before;
        head = h.front ++ body.front;
        before = f.before;
        after = f.after;
        is = is;
        spells = f.is;
        others = f.others;
        parts = h.whole ∙ ap (λ x. h.front ++ x) (body.whole ∙ ap (λ x. body.front ++ x) f.whole) ∙ simp append_assoc;
        counted = counted;
        start_is = refl;
        place = omega (arith, counted, first_length k ss (members v) f.before f.others);
      },
    )

pub members_lem : MembersStand
members_lem whole k s t h is = members_by whole.encoding whole.spelled whole.value k s t h is

-- ---- whatever spells a part is the whole's bytes at its place

-- where an encoding of a form stands, the bytes of this form are those at its place
placed : {P : List ℕ → Type 0} → Fixed P → (whole head before item after part : List ℕ) (start : ℕ)
    → whole ≡ head ++ (before ++ (item ++ after)) → start ≡ length head + length before → AreBytes whole → AreBytes part
    → P item → P part → StandsAt start part whole
placed one whole head before item after part start is at b b' p q =
    let all : whole ≡ (head ++ before) ++ (item ++ after) = is ∙ sym (append_assoc head before (item ++ after)) in
    let inside = AreBytes-front item after (AreBytes-rest (head ++ before) (item ++ after) (rw all at b)) in
    let same : part ≡ item = one.same part item q p b' inside in
    let front : length (head ++ before) ≡ start = length-append head before ∙ sym at in
    record {
      within = omega (arith, front, ap length all, ap length same, length-append {A = ℕ});
      is = rw (same, all, drop_front start (head ++ before) _ front) (take_front (length item) item after refl);
    }

pub members_in_place_lem : MembersInPlace
members_in_place_lem whole k part b b' h h' is =
    let m = members_lem whole k part.spelled part.value h is in
    let held = m.1 in
    placed (spells_fixed part.spelled part.value) whole.encoding held.head held.before m.0 held.after part.encoding _
    held.parts (sym held.place ∙ held.start_is) b b' held.spells h'

pub rings_in_place_lem : RingsInPlace
rings_in_place_lem whole d rings j ring bytes b b' h h' value_is is =
    let held = rings_lem whole d rings j ring h value_is is in
    let one : polygon held.dimension held.rings ≡ polygon d rings = sym held.value_is ∙ value_is in
    let dimension_is : held.dimension ≡ d = cc in
    let rings_are : held.rings ≡ rings = cc in
    let place : held.start ≡ ring_start j whole.spelled d rings = held.place ∙ rw (dimension_is, rings_are) in
    placed (coordinates_fixed (header whole.spelled).order d ring) whole.encoding held.head held.before held.bytes
    held.after bytes _ held.parts (sym place ∙ held.start_is) b b' (rw dimension_is at held.spells) h'
