-- Geometries one after another, and what is inside each, by their bytes.
use Rattle.std.proofs.Common.{◌≡◌, ◌≢◌, ℕ, zero, suc, ◌+◌, ◌<◌, ◌≤◌, List, [], ◌∷◌, ◌++◌, length, drop, set, refl, sym}
use Rattle.std.proofs.Common.{ap, ◌∙◌, subst, arith, length-append, append-nil, length-drop, None, Some, is_some, true}
use Rattle.std.proofs.Common.{false, nat_lt, le-ltb, ltb-false, drop-drop}
use Rattle.std.proofs.lemmas.Bool.{cond_both}
use lib.Seq.{sets}
use Rattle.wkb_laws.specs.Prelude.{Endianness, Coordinate, line_string, no_spellings, SpellsCoordinates, member_part}
use Rattle.wkb_laws.specs.Prelude.{Dimension, no_members, kind, dimension, Spellings, SpellsBody, SpellsEach, srid_size}
use Rattle.wkb_laws.specs.Prelude.{Begins, Values, polygon, member, members, Spelling, spelling, ring_end, IsHeader}
use Rattle.wkb_laws.specs.Prelude.{Value, point, count, node, Spells, Wanted, IsEach, any, Then, number, Header}
use Rattle.wkb_laws.proofs.Parts.{then_length, then_append, drop_front, header_length}
use Rattle.wkb_laws.proofs.Lengths.{coordinate_length, coordinates_length}
use Rattle.wkb_laws.proofs.Lists.{count-each}
use Rattle.wkb_check.specs.Prelude.{HasGeometry, HasGeometries, AreWhole, count_of, leading, own_end, piece_of}
use Rattle.wkb_check.specs.Prelude.{ring_piece, piece_at, last_end, pieces_of, first_rings, IsInside, Piece}
use Rattle.wkb_check.specs.Subjects.{Subject, whole, rings_of, subjects, subjects_of_rings, subjects_of_each}
use Rattle.wkb_check.proofs.Bodies.{RingsFirst, rings_first, rest_smaller}
use Rattle.wkb_check.proofs.Joining.{joined}

-- ---- stores

module _ {A : Type 0} where
  pub sets_after : (l : List A) (i j : ℕ) (xs ys : List A) → j ≡ i + length xs
      → sets (sets l i xs) j ys ≡ sets l i (xs ++ ys)
  sets_after l i j [] ys e = ap (λ k. sets l k ys) (omega (arith, e))
  sets_after l i j (x ∷ xs) ys e = sets_after (set l i x) (suc i) j xs ys (omega (arith, e))

-- ---- where bytes stand

pub cut : (buf : List ℕ) (at n to : ℕ) (front rest : List ℕ) → drop at buf ≡ front ++ rest → length front ≡ n
    → to ≡ at + n
    → drop to buf ≡ rest
cut buf at n to front rest e long is =
    ap (λ k. drop k buf) (omega (arith, is)) ∙ sym (drop-drop n at buf) ∙ ap (drop n) e ∙ drop_front n front rest long

-- these bytes stand here in the input, and the rest of it behind them
pub record Stands (input : List ℕ) (at : ℕ) (bytes rest : List ℕ) : Type 0 where
  pub is : drop at input ≡ bytes ++ rest
  pub inside : at + length bytes ≤ length input

-- then the first of two parts does too, and the second behind it
module _ {input : List ℕ} {at : ℕ} {bytes rest : List ℕ} {P Q : List ℕ → Type 0}
    (stands : Stands input at bytes rest) (both : Then P Q bytes) where
  pub front_stands : Stands input at both.front (both.rest ++ rest)
  front_stands =
      record { is = stands.is ∙ then_append both rest; inside = omega (arith, stands.inside, then_length both) }

  pub rest_stands : (to : ℕ) → to ≡ at + length both.front → Stands input to both.rest rest
  rest_stands to is = record {
    is = cut input at (length both.front) to both.front (both.rest ++ rest) front_stands.is refl is;
    inside = omega (arith, stands.inside, then_length both, is);
  }

pub geometry_stands : (buf : List ℕ) (at : ℕ) (g : HasGeometry (drop at buf)) → Stands buf at g.begins.front g.rest
geometry_stands buf at g = record {
  is = g.begins.whole;
  inside = omega (
    arith,
    ap length g.begins.whole,
    length-append g.begins.front g.rest,
    length-drop at buf,
    rest_smaller g,
  );
}

-- where the body of a geometry begins that begins here, and what follows its count
abbrev pub body_at : Header → ℕ → ℕ
body_at h at = at + (5 + srid_size (is_some h.srid))

abbrev pub counted_at : Header → ℕ → ℕ
counted_at h at = at + (9 + srid_size (is_some h.srid))

pub body_stands : {input : List ℕ} {at : ℕ} {bytes rest : List ℕ} {Q : List ℕ → Type 0} (h : Header) (t : Value)
    → Stands input at bytes rest → (sp : Then (IsHeader h (kind t) (dimension t)) Q bytes)
    → Stands input (body_at h at) sp.rest rest
body_stands {at = at} h t stands sp = rest_stands stands sp (body_at h at) (omega (arith, header_length))

-- ---- subjects one after another

pub end_append : (at : ℕ) (xs ys : List Subject) → last_end at (xs ++ ys) ≡ last_end (last_end at xs) ys
end_append at [] ys = refl
end_append at (x ∷ xs) ys = end_append (own_end (piece_at at x)) xs ys

-- each goes on
begins_onward : (at : ℕ) (x : Subject) → at < (piece_at at x).offset
begins_onward at x = grind arith

pub end_onward : (at : ℕ) (xs : List Subject) → at ≤ last_end at xs
end_onward at [] = omega arith
end_onward at (x ∷ xs) = grind (arith, begins_onward, cond_both, end_onward (own_end (piece_at at x)) xs)

-- they end where the bytes do that spell them
rings_end : (order : Endianness) (d : Dimension) (at : ℕ) (rings : List (List Coordinate)) (bytes : List ℕ)
    → IsEach (SpellsCoordinates order d) rings bytes
    → last_end at (subjects_of_rings order d rings) ≡ at + length bytes
rings_end order d at [] bytes h = omega (arith, ap length h)
rings_end order d at (cs ∷ rings) bytes h =
    omega (
      arith,
      then_length h,
      coordinates_length order d cs h.front h.first,
      rings_end order d (own_end (ring_piece order d at (length cs))) rings h.rest h.second,
    )

body_end : (at : ℕ) (h : Header) (words : List ℕ) (ss : Spellings) (t : Value) (bytes : List ℕ)
    → SpellsBody h.order words t bytes
    → last_end (own_end (piece_of at (node h words ss) t)) (subjects_of_rings h.order (dimension t) (rings_of t))
    ≡ body_at h at + length bytes
body_end at h words ss (point d None) bytes b = omega (arith, coordinate_length h.order d words bytes b.1)
body_end at h words ss (point d (Some c)) bytes b = omega (arith, coordinate_length h.order d c bytes b.2)
body_end at h words ss (line_string d cs) bytes b = omega (arith, coordinates_length h.order d cs bytes b.1)
body_end at h words ss (polygon d rings) bytes b =
    grind (arith, then_length b.1, rings_end h.order d (counted_at h at) rings b.1.rest b.1.second)
body_end at h words ss _ bytes b = omega (arith, b.1.len)

mutual
  pub spelled_end : (at : ℕ) (s : Spelling) (t : Value) (bytes : List ℕ) → Spells s t bytes
      → last_end at (subjects s t) ≡ at + length bytes
  spelled_end at (node h words ss) t bytes sp =
      let from = own_end (piece_of at (node h words ss) t) in
      let rings = subjects_of_rings h.order (dimension t) (rings_of t) in
      omega (
        arith,
        then_length sp,
        header_length h (kind t) (dimension t) sp.front sp.first,
        then_length sp.second,
        body_end at h words ss t sp.second.front sp.second.first,
        end_append from rings (subjects_of_each ss (members t)),
        each_end (last_end from rings) _ ss (members t) sp.second.rest sp.second.second,
      )

  each_end : (at : ℕ) (w : Wanted) (ss : Spellings) (ts : Values) (bytes : List ℕ) → SpellsEach w ss ts bytes
      → last_end at (subjects_of_each ss ts) ≡ at + length bytes
  each_end at w no_spellings no_members bytes sp = omega (arith, ap length sp)
  each_end at w (spelling s ss) (member t ts) bytes sp =
      omega (
        arith,
        then_length sp,
        spelled_end at s t sp.front sp.first.0,
        end_append at (subjects s t) (subjects_of_each ss ts),
        each_end (last_end at (subjects s t)) w ss ts sp.rest sp.second,
      )
  each_end at w _ _ bytes sp = absurd sp

-- what follows a geometry
pub behind_geometry : (buf : List ℕ) (at next : ℕ) (g : HasGeometry (drop at buf))
    → next ≡ last_end at (subjects g.spelled g.value) → (drop next buf ≡ g.rest) × (next ≤ length buf)
behind_geometry buf at next g e =
    let b = g.begins in
    let to = e ∙ spelled_end at g.spelled g.value b.front b.first in
    (cut buf at _ next b.front g.rest b.whole refl to, omega (arith, to, (geometry_stands buf at g).inside))

pub rings_many : (order : Endianness) (d : Dimension) (rings : List (List Coordinate))
    → length (subjects_of_rings order d rings) ≡ length rings
rings_many order d [] = refl
rings_many order d (cs ∷ rings) = omega (arith, rings_many order d rings)

-- ---- the first of some geometries

pub record First (n : ℕ) (bytes more : List ℕ) (all : HasGeometries n bytes more) (m : ℕ) : Type 0 where
  pub geometry : HasGeometry bytes
  pub others : HasGeometries m geometry.rest more
  pub are : subjects_of_each all.spelled all.values
      ≡ subjects geometry.spelled geometry.value ++ subjects_of_each others.spelled others.values

first_by : (n m : ℕ) (bytes more : List ℕ) (ss : Spellings) (ts : Values)
    (b : Begins (SpellsEach any ss ts) bytes more) (counted : n ≡ count ts) → n ≡ suc m
    → First n bytes more (record { spelled = ss; values = ts; begins = b; counted = counted }) m
first_by n m bytes more ss no_members b counted e = absurd (omega (arith, counted, e))
first_by n m bytes more no_spellings (member t ts) b counted e = absurd b.first
first_by n m bytes more (spelling s ss) (member t ts) b counted e =
    let h = b.first in
    record {
      geometry = record {
        spelled = s;
        value = t;
        rest = h.rest ++ more;
        begins = record { front = h.front; whole = b.whole ∙ then_append h more; first = h.first.0 };
      };
      others = grind arith;
      are = refl;
    }

pub first_one : (n m : ℕ) (bytes more : List ℕ) (all : HasGeometries n bytes more) → n ≡ suc m
    → First n bytes more all m
first_one n m bytes more all e = first_by n m bytes more all.spelled all.values all.begins all.counted e

-- geometries at the start of some bytes are at the start of equal ones
abbrev pub begun_at : {n : ℕ} {start bytes more : List ℕ} → start ≡ bytes → HasGeometries n bytes more
    → HasGeometries n start more
begun_at e all = record {
  spelled = all.spelled;
  values = all.values;
  begins = record { front = all.begins.front; whole = e ∙ all.begins.whole; first = all.begins.first };
  counted = all.counted;
}

-- one geometry alone
abbrev pub alone : {bytes : List ℕ} (g : HasGeometry bytes) → HasGeometries 1 bytes g.rest
alone g = record {
  spelled = spelling g.spelled no_spellings;
  values = member g.value no_members;
  begins = record {
    front = g.begins.front;
    whole = g.begins.whole;
    first = record {
      front = g.begins.front;
      rest = [];
      whole = sym (append-nil g.begins.front);
      first = (g.begins.first, tt);
      second = refl;
    };
  };
  counted = refl;
}

-- there are no members, where none are counted
pub none_of : (ts : Values) → 0 ≡ count ts → ts ≡ no_members
none_of no_members e = refl
none_of (member t ts) e = absurd (omega (arith, e))

-- no geometries are at the start of any bytes
abbrev pub none_at : {start bytes : List ℕ} → start ≡ bytes → HasGeometries 0 start bytes
none_at e = record {
  spelled = no_spellings;
  values = no_members;
  begins = record { front = []; whole = e; first = refl };
  counted = refl;
}

-- ---- what is inside a geometry, by its kind

pub inner : Spelling → Value → List Subject
inner (node h words ss) t = subjects_of_rings h.order (dimension t) (rings_of t) ++ subjects_of_each ss (members t)

pub itself_first : (s : Spelling) (t : Value) → subjects s t ≡ whole s t ∷ inner s t
unfolding inner
itself_first (node h words ss) t = refl

-- inside a geometry there are so many rings from this byte on, and so many members behind them
pub record Inside (buf : List ℕ) (s : Spelling) (t : Value) (more : List ℕ) (order : Endianness) (d : Dimension)
    (rings n from : ℕ) : Type 0 where
  pub whole : AreWhole order d rings (drop from buf)
  pub all : HasGeometries n (drop (last_end from (first_rings order d rings (drop from buf))) buf) more
  pub are : inner s t ≡ first_rings order d rings (drop from buf) ++ subjects_of_each all.spelled all.values

-- the first n rings are so many
first_many : (order : Endianness) (d : Dimension) (n : ℕ) (bytes : List ℕ) → length (first_rings order d n bytes) ≡ n
first_many order d zero bytes = refl
first_many order d (suc n) bytes = grind (arith, first_many order d n (drop (ring_end d (number order 4 bytes)) bytes))

-- so many entries are inside
pub inside_many : {buf more : List ℕ} {s : Spelling} {t : Value} {order : Endianness} {d : Dimension}
    {rings n from : ℕ} → (i : Inside buf s t more order d rings n from)
    → length (subjects s t) ≡ 1 + rings + length (subjects_of_each i.all.spelled i.all.values)
inside_many {buf} {s = s} {t} {order} {d} {rings} {from = from} i =
    grind (arith, itself_first, length-append, first_many)

-- rings are inside, and no members
pub rings_alone : {buf more : List ℕ} {s : Spelling} {t : Value} {order : Endianness} {d : Dimension}
    {rings from : ℕ} → Inside buf s t more order d rings 0 from
    → (first_rings order d rings (drop from buf) ≡ inner s t) × (length (subjects s t) ≡ 1 + rings)
rings_alone {buf} {order = order} {d} {rings} {from} i =
    let own = first_rings order d rings (drop from buf) in
    let none = ap (subjects_of_each i.all.spelled) (none_of i.all.values i.all.counted) in
    (sym (i.are ∙ ap (λ xs. own ++ xs) none ∙ append-nil own), omega (arith, inside_many i, ap length none))

-- it has coordinates
leaf : (s : Spelling) (t : Value) → nat_lt (kind t) 3 ≡ true → inner s t ≡ []
unfolding inner
leaf s t e = grind arith

-- it has rings
has_rings : (buf : List ℕ) (at : ℕ) (s : Spelling) (t : Value) (rest : List ℕ)
    → Begins (Spells s t) (drop at buf) rest → kind t ≡ 3
    → Inside buf s t rest (piece_of at s t).order (piece_of at s t).dimension (piece_of at s t).count 0
    (own_end (piece_of at s t))
unfolding inner
has_rings buf at (node h words ss) (polygon d rings) rest b e =
    let t = polygon d rings in
    let g : HasGeometry (drop at buf) = record { spelled = node h words ss; value = t; rest = rest; begins = b } in
    let y = b.first.second in
    let z = y.first.1 in
    let from = at + leading h t in
    let body = front_stands (body_stands h t (geometry_stands buf at g) b.first) y in
    let stands = rest_stands body z from (omega (arith, z.first.len)) in
    let found : RingsFirst h.order d rings (length rings) (drop from buf) =
    subst (RingsFirst h.order d rings (length rings)) (sym stands.is)
    (rings_first h.order d rings z.rest (y.rest ++ rest) z.second) in
    let rings_are : first_rings h.order d (length rings) (drop from buf) ≡ subjects_of_rings h.order d rings =
    ap (subjects_of_rings h.order d) found.are in
    record {
      whole = found.whole;
      all =
          none_at (behind_geometry buf at _ g
          (ap (last_end from) (rings_are ∙ sym (append-nil (subjects_of_rings h.order d rings))))).0;
      are = ap (λ rs. rs ++ []) (sym rings_are);
    }
has_rings buf at (node h words ss) _ rest b e = absurd (omega (arith, e))

-- it has members
members_many : (t : Value) → nat_lt (kind t) 4 ≡ false → count_of t ≡ count (members t)
members_many t e = grind (arith, count-each)

has_members : (buf : List ℕ) (at : ℕ) (s : Spelling) (t : Value) (rest : List ℕ)
    → Begins (Spells s t) (drop at buf) rest → nat_lt (kind t) 4 ≡ false → (order : Endianness) (d : Dimension)
    → Inside buf s t rest order d 0 (piece_of at s t).count (own_end (piece_of at s t))
unfolding inner
has_members buf at (node h words ss) (point d c) rest b e order f = absurd cc
has_members buf at (node h words ss) (line_string d cs) rest b e order f = absurd cc
has_members buf at (node h words ss) (polygon d rings) rest b e order f = absurd cc
has_members buf at (node h words ss) t rest b e order f =
    let g : HasGeometry (drop at buf) = record { spelled = node h words ss; value = t; rest = rest; begins = b } in
    let y = b.first.second in
    let body = body_stands h t (geometry_stands buf at g) b.first in
    let behind = rest_stands body y (counted_at h at) (omega (arith, y.first.1.len)) in
    let j = joined (member_part (kind t) (dimension t)) ss (members t) y.rest {m = count_of t} {n = 0} {xs = []}
    y.second (record { all = none_at refl; are = refl }) (omega (arith, members_many t e)) in
    record {
      whole = tt;
      all = begun_at behind.is j.all;
      are = sym (j.are ∙ append-nil (subjects_of_each ss (members t)));
    }

-- the piece of a geometry begins and ends inside the bytes
pub own_inside : (buf : List ℕ) (at to : ℕ) (g : HasGeometry (drop at buf)) (p : Piece)
    → p ≡ piece_of at g.spelled g.value → to ≡ own_end p
    → IsInside buf at to p
own_inside buf at to g p is ends = record {
  begins = omega (arith, ap (λ (q : Piece). q.offset) is, begins_onward at (whole g.spelled g.value));
  ends = ends;
  inside = omega (
    arith,
    ends,
    ap own_end is,
    ap (last_end at) (itself_first g.spelled g.value),
    end_onward (own_end (piece_of at g.spelled g.value)) (inner g.spelled g.value),
    (behind_geometry buf at _ g refl).1,
  );
}

-- what is inside bytes ends further on
pub onward : (buf : List ℕ) (from to : ℕ) (p : Piece) → IsInside buf from to p → from < to
onward buf from to p i = grind (arith, cond_both)

-- ---- by the piece that was read

module _ (buf : List ℕ) (at : ℕ) (g : HasGeometry (drop at buf)) (p : Piece)
    (is : p ≡ piece_of at g.spelled g.value) where
  pub kind_of : p.kind ≡ kind g.value
  kind_of = grind arith

  pub leaf_of : nat_lt p.kind 3 ≡ true → inner g.spelled g.value ≡ []
  leaf_of low = leaf g.spelled g.value (ap (λ k. nat_lt k 3) (sym kind_of) ∙ low)

  -- a geometry with coordinates of its own is its only piece
  pub only_piece : nat_lt p.kind 3 ≡ true → pieces_of at g.spelled g.value ≡ p ∷ []
  only_piece low = grind (arith, itself_first, leaf_of)

  module _ (end : ℕ) (ends : end ≡ own_end p) where
    -- where what is inside ends, it ends itself
    pub inner_end : last_end end (inner g.spelled g.value) ≡ last_end at (subjects g.spelled g.value)
    inner_end = grind (arith, inner, itself_first)

    pub leaf_inside : nat_lt p.kind 3 ≡ true → (order : Endianness) (d : Dimension)
        → Inside buf g.spelled g.value g.rest order d 0 0 end
    leaf_inside low order d = record {
      whole = tt;
      all = none_at (behind_geometry buf at end g (ap (last_end end) (sym (leaf_of low)) ∙ inner_end)).0;
      are = leaf_of low;
    }

    pub rings_inside : p.kind ≡ 3 → Inside buf g.spelled g.value g.rest p.order p.dimension p.count 0 end
    rings_inside three = rw (ends, is) (has_rings buf at g.spelled g.value g.rest g.begins (sym kind_of ∙ three))

    pub members_inside : nat_lt p.kind 3 ≡ false → p.kind ≢ 3 → (order : Endianness) (d : Dimension)
        → Inside buf g.spelled g.value g.rest order d 0 p.count end
    members_inside high other order d = grind (arith, le-ltb, kind_of, ltb-false, has_members)
