-- Rings of polygons in a collection, and their words.
use Rattle.std.proofs.Common.{◌≡◌, ℕ, ◌+◌, ◌*◌, List, [], drop-drop, Option, Some, None, refl, sym, ap, subst, ◌∙◌}
use Rattle.std.proofs.Common.{arith, slice_get, option_map, MatchOption}
use Rattle.wkb_clients.specs.Common.{number, width, Dimension, Coordinate, Value, polygon, kind, header, Spelling}
use Rattle.wkb_clients.specs.Common.{Spells, Listed, whole_of, Item, IsMember, IsWordOf, LinearRing, ring_seen}
use Rattle.wkb.specs.Known.{members_stand, rings_stand}
use Rattle.wkb.specs.Reads.{IsCollectionOf}
use Rattle.wkb.specs.Bridges.{member_of, front_stands, stands_within}
use Rattle.wkb.specs.Lent.{held_member_stands, held_ring_stands, word_stands}
use Rattle.wkb_clients.specs.Collections.{IsRingOf, HasNoRing, IsRingWordAt, HasNoRingWordAt}
use Rattle.wkb.specs.Members.{one_member}
use Rattle.wkb.specs.Offsets.{BeginsAt, no_word, no_word_there}
use Rattle.wkb.specs.OwnBytes.{one_geometry}

-- ---- rings

abbrev rings_of : Value → List (List Coordinate)
rings_of (polygon d rings) = rings
rings_of _ = []

-- a collection whose member is no polygon has no such ring
pub no_polygon : (w : Item) (ms : List Item) (k j : ℕ) (m : Item) → IsCollectionOf w ms → slice_get ms k ≡ Some m
    → (kind m.value ≡ 3 → ⊥) → HasNoRing w k j
no_polygon w ms k j m c is other = λ ring h.
    other (ap kind (one_member w k m.spelled h.spelled m.value (polygon h.of_polygon h.rings)
    (member_of w ms k m c is) h.is_member))

-- the rings of a member are those of one polygon
same_rings : (w : Item) (k j : ℕ) (ring : List Coordinate) (s : Spelling) (d : Dimension)
    (rings : List (List Coordinate)) → IsMember k w.spelled w.value s (polygon d rings)
    → IsRingOf w k j ring → slice_get rings j ≡ Some ring
same_rings w k j ring s d rings is h =
    ap (λ v. slice_get (rings_of v) j)
    (one_member w k s h.spelled (polygon d rings) (polygon h.of_polygon h.rings) is h.is_member) ∙ h.is

-- a polygon's ring is found, or there is none
pub ring_or_none : (w : Item) (ms : List Item) (k j : ℕ) (p : Listed (List (List Coordinate))) (r : Option LinearRing)
    → IsCollectionOf w ms → slice_get ms k ≡ Some (whole_of polygon p) → option_map ring_seen r ≡ slice_get p.parts j
    → MatchOption r (HasNoRing w k j) (λ r. IsRingOf w k j (ring_seen r))
ring_or_none w ms k j p (Some r) c is found = record {
  dimension = c.whole.dimension;
  members = c.whole.parts;
  spelled = p.spelled;
  of_polygon = p.dimension;
  rings = p.parts;
  value_is = ap (λ (i : Item). i.value) (sym c.is);
  is_member = member_of w ms k (whole_of polygon p) c is;
  is = sym found;
}
ring_or_none w ms k j p None c is found = λ ring h.
    let member = member_of w ms k (whole_of polygon p) c is in
    let none : None ≡ Some ring = found ∙ same_rings w k j ring p.spelled p.dimension p.parts member h in
    absurd (cc)

-- ---- words

module _ (blob : List ℕ) (offset k j i n : ℕ) (w : Item) (there : BeginsAt blob offset w) where
  word_at : (ring : List Coordinate) (x : ℕ) → IsRingOf w k j ring → IsWordOf ring i n x
      → IsRingWordAt blob offset k j i n x
  word_at ring x of word =
      let f = there.front in
      let spells = subst (λ t. Spells w.spelled w.value t) f.encoding_is f.front.spelled in
      let m = members_stand w k of.spelled (polygon of.of_polygon of.rings) spells of.is_member in
      let part : Item = record { encoding = m.0; spelled = of.spelled; value = polygon of.of_polygon of.rings } in
      let r = rings_stand part of.of_polygon of.rings j ring m.1.spells refl of.is in
      let here = 0 + m.1.start + r.start + 4 + 8 * (width r.dimension * i + n) in
      let inside = stands_within (held_ring_stands r) (stands_within (held_member_stands m.1) (front_stands f)) in
      record {
        whole = w;
        front = f;
        ring = ring;
        is_ring = of;
        part = part;
        polygon = m.1;
        of_polygon = r;
        word = word;
        place = offset + here;
        place_is = omega arith;
        stands = ap (number (header of.spelled).order 8) (sym (drop-drop here offset blob))
            ∙ word_stands (header of.spelled).order r.dimension ring i n x _ r.spells inside word;
      }

  -- what is said to be such a word is one of a ring of the collection that is there
  ring_there : (x : ℕ) → (h : IsRingWordAt blob offset k j i n x) → IsRingOf w k j h.ring
  ring_there x h = subst (λ v. IsRingOf v k j h.ring) (one_geometry h.front there.front) h.is_ring

  word_there : (ring : List Coordinate) (x : ℕ) → IsRingOf w k j ring → IsRingWordAt blob offset k j i n x
      → IsWordOf ring i n x
  word_there ring x of h =
      let some : Some ring ≡ Some h.ring =
      sym of.is ∙ same_rings w k j h.ring of.spelled of.of_polygon of.rings of.is_member (ring_there x h) in
      let same : h.ring ≡ ring = cc in
      subst (λ l. IsWordOf l i n x) same h.word

  -- the coordinate of a ring was found, and its word or none
  pub word_or_none : (ring : List Coordinate) (c : Coordinate) (found : Option ℕ) → IsRingOf w k j ring
      → Some c ≡ slice_get ring i → found ≡ slice_get c n
      → MatchOption found (HasNoRingWordAt blob offset k j i n) (λ x. IsRingWordAt blob offset k j i n x)
  word_or_none ring c (Some x) of here found =
      word_at ring x of (record { coordinate = c; coordinate_is = sym here; word_is = sym found })
  word_or_none ring c None of here found = λ x h. no_word ring c i n x here found (word_there ring x of h)

  pub no_coordinate : (ring : List Coordinate) → IsRingOf w k j ring → None ≡ slice_get ring i
      → HasNoRingWordAt blob offset k j i n
  no_coordinate ring of none = λ x h. no_word_there ring i n x none (word_there ring x of h)

  pub no_ring : HasNoRing w k j → HasNoRingWordAt blob offset k j i n
  no_ring none = λ x h. none h.ring (ring_there x h)
