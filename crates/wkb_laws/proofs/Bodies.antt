-- What an input has after a header: a point, a line string, a polygon, a list of members, or its refusal.
use Rattle.std.proofs.Common.{◌≡◌, ℕ, zero, suc, ◌+◌, ◌*◌, ◌≤◌, List, [], ◌∷◌, ◌++◌, length, take, drop, Some, None}
use Rattle.std.proofs.Common.{Bool, refl, sym, ap, ◌∙◌, subst, append_assoc, append-nil, arith, length-append}
use Rattle.std.proofs.Common.{length-drop, take-append-drop, length-take-le, take_all, ◌<◌, ◌⊎◌, inl, inr, lit<, Option}
use Rattle.std.proofs.lemmas.Bool.{cases_lt, cases_Bool, cases_eq}
use Rattle.wkb_laws.specs.Prelude.{count_in, SpellsCoordinates, short_line_string, multi_line_string, member_count_each}
use Rattle.wkb_laws.specs.Prelude.{line_string, SpellsCoordinate, line_string_end, listed_count_each, short_multi_point}
use Rattle.wkb_laws.specs.Prelude.{all_nan, no_spellings, no_ring_count, multi_polygon, multi_point_end, line_string_of}
use Rattle.wkb_laws.specs.Prelude.{RefusesRings, member_count, listed_count, OpensCounted, later_member, length-items}
use Rattle.wkb_laws.specs.Prelude.{Layout, slots_asked, short_point, parts_start, multi_point, member_part, room_inside}
use Rattle.wkb_laws.specs.Prelude.{Endianness, short_ring, later_ring, body_start, coordinate, RefusesEach, this_member}
use Rattle.wkb_laws.specs.Prelude.{collection, no_members, SpellsBody, SpellsEach, bad_member, polygon_of, Coordinate}
use Rattle.wkb_laws.specs.Prelude.{Dimension, IsNumber, point_end, ring_end, IsAllowed, dimension, nest_each, Spellings}
use Rattle.wkb_laws.specs.Prelude.{number, IsEach, polygon, bad_ring, ring_in, consumed, members, spelling, point_of}
use Rattle.wkb_laws.specs.Prelude.{width, point, Wanted, IsPart, Cause, Value, Values, member, count, Begins, Spells}
use Rattle.wkb_laws.specs.Prelude.{kind, each, nest, part, Opens, laid, Then}
use Rattle.wkb_laws.specs.Laws.{listed_inside}
use Rattle.wkb_laws.proofs.Parts.{items_are, field_taken, number_begins, drop_front, joined, taken_front}
use Rattle.wkb_laws.proofs.Bounds.{member_count-members}
use Rattle.wkb_laws.proofs.Heads.{Opened, number_in, item_is, cost_of, HasPart, count_has, item_front}
use Rattle.wkb_laws.proofs.Lists.{count-each, each_sum, each_same, by_list_kind}
use Rattle.wkb_laws.proofs.Lengths.{value_size-least, each_size}

-- a coordinate is the words of its bytes
pub coordinate_is : (order : Endianness) (d : Dimension) (y : List ℕ) → 8 * width d ≤ length y
    → SpellsCoordinate order d (coordinate order d y) (take (8 * width d) y)
coordinate_is order d y h = record {
  len = length-items 8 (number order 8) (width d) y;
  words = items_are (IsNumber order 8) 8 (number order 8) (field_taken order 8) (width d) y h;
}

-- a count and that many coordinates are all of an encoding that ends with them
pub coordinates_are : (order : Endianness) (d : Dimension) (c : List ℕ) → length c ≡ 4 + 8 * width d * number order 4 c
    → SpellsCoordinates order d (ring_in order d c) c
coordinates_are order d c h =
    let n = number order 4 c in
    let len = length-drop 4 c in
    let many : length (ring_in order d c) ≡ n = length-items (8 * width d) (coordinate order d) n (drop 4 c) in
    let each = items_are (SpellsCoordinate order d) (8 * width d) (coordinate order d) (coordinate_is order d) in
    record {
      front = take 4 c;
      rest = drop 4 c;
      whole = sym (take-append-drop 4 c);
      first = rw many (field_taken order 4 c (omega arith));
      second = rw (take_all (8 * width d * n) (drop 4 c) (omega arith)) at (each n (drop 4 c) (omega arith));
    }

-- where an encoding is at the start of the input, and another one after it, both are
begins_then : {P Q : List ℕ → Type 0} {input rest after : List ℕ} → Begins P input rest → Begins Q rest after
    → Begins (Then P Q) input after
begins_then a b = record {
  front = a.front ++ b.front;
  whole = rw append_assoc (rw (← b.whole) a.whole);
  first = joined a.front b.front a.first b.first;
}

-- n rings at the start of the input, or the refusal of one
module _ (order : Endianness) (d : Dimension) where
  rings_has : (n : ℕ) (input : List ℕ)
      → ((rings : List (List Coordinate)) × (rest : List ℕ) × (length rings ≡ n)
      × Begins (IsEach (SpellsCoordinates order d) rings) input rest)
      ⊎ ((cause : Cause) × (begun : ℕ) × RefusesRings order d n input cause begun)
  rings_has zero input = inl ([], input, refl, record { front = []; whole = refl; first = refl })
  rings_has (suc n) input =
      let end = ring_end d (number order 4 input) in
      elim (cases_lt (length input) 4) [
        | inl short ↦ inr (_, _, no_ring_count short)
        | inr enough ↦ elim (cases_lt (length input) end) [
          | inl short ↦ inr (_, _, short_ring (number_begins order 4 input enough) short)
          | inr long ↦
              let whole = sym (take-append-drop end input) in
              let len = length-take-le end input long in
              let same : number order 4 input ≡ number order 4 (take end input) =
              number_in order 0 input (take end input) (drop end input) whole (omega arith) in
              let ring = coordinates_are order d (take end input) (len ∙ ap (ring_end d) same) in
              let here : Begins (SpellsCoordinates order d (ring_in order d (take end input))) input (drop end input) =
              record { front = take end input; whole = whole; first = ring } in
              elim (rings_has n (drop end input)) [
                | inl h ↦ inl (_ ∷ h.0, h.1, omega (arith, h.2), begins_then here h.3)
                | inr r ↦ inr (r.0, _, later_ring _ here r.2)
              ]
        ]
      ]

-- the encoding of a geometry whose parts come before the rest
pub record PartsEncoding (l : Layout) (input front after : List ℕ) : Type 0 where
  pub whole : input ≡ consumed input after ++ after
  pub body : drop (body_start l.has_srid) (consumed input after) ≡ take 4 (drop (body_start l.has_srid) input) ++ front
  pub long : body_start l.has_srid ≤ length (consumed input after)
  pub number : IsNumber l.order 4 (count_in l input) (take 4 (drop (body_start l.has_srid) input))
  pub len : length (parts_start l.has_srid input) ≡ length front + length after

pub parts_encoding : (l : Layout) (input front after : List ℕ) → body_start l.has_srid + 4 ≤ length input
    → parts_start l.has_srid input ≡ front ++ after
    → PartsEncoding l input front after
parts_encoding l input front after enough e =
    let start = body_start l.has_srid in
    let c = drop start input in
    let y = take start input ++ (take 4 c ++ front) in
    let shape : input ≡ y ++ after = grind (arith, append_assoc, take-append-drop) in
    let same : consumed input after ≡ y = ap (λ z. consumed z after) shape ∙ taken_front y after in
    let first : length (take start input) ≡ start = length-take-le start input (omega arith) in
    record {
      whole = shape ∙ ap (λ z. z ++ after) (sym same);
      body = ap (drop start) same ∙ drop_front start (take start input) (take 4 c ++ front) first;
      long = omega (arith, ap length same, length-append (take start input) (take 4 c ++ front));
      number = field_taken l.order 4 c (omega (arith, length-drop start input));
      len = ap length e ∙ length-append front after;
    }

module _ (room : ℕ) (w : Wanted) (input : List ℕ) (l : Layout) where
  -- a geometry without members, whose body ends here
  leaf_is : (t : Value) (own : List ℕ) (end : ℕ) → Opens input l.order (kind t) (dimension t) l.has_srid (drop 5 input)
      → IsPart w (kind t) (dimension t) l.has_srid → end ≤ length input → body_start l.has_srid ≤ end
      → SpellsBody l.order own t (drop (body_start l.has_srid) (take end input))
      → SpellsEach (member_part (kind t) (dimension t)) no_spellings (members t) [] → nest t ≤ room
      → HasPart room w input
  leaf_is t own end o p long start body each shallow =
      let len = length-take-le end input long in
      inl (
        _,
        _,
        item_is room w input (take end input) (drop end input) l own no_spellings t _ [] (cost_of t) o p
            (sym (take-append-drop end input)) (omega arith) (sym (append-nil _)) body each shallow refl refl,
      )

  pub point_has : Opened input 1 l → IsPart w 1 l.dimension l.has_srid → HasPart room w input
  point_has o p =
      let end = point_end l.dimension l.has_srid in
      let c = drop (body_start l.has_srid) (take end input) in
      let words = coordinate l.order l.dimension c in
      let leaf = λ (t : Option Coordinate). leaf_is (point l.dimension t) in
      elim (cases_lt (length input) end) [
        | inl short ↦ inr (_, _, _, short_point o p short)
        | inr long ↦
            let len : length c ≡ 8 * width l.dimension =
            omega (arith, length-drop (body_start l.has_srid) (take end input), length-take-le end input long) in
            let whole = coordinate_is l.order l.dimension c (omega arith) in
            let body = rw (take_all (8 * width l.dimension) c (omega arith)) at whole in
            elim (cases_Bool (all_nan words)) [
              | inl all ↦ leaf None words end o p long (omega arith) (all, body) refl (omega arith)
              | inr some ↦ leaf (Some words) [] end o p long (omega arith) (refl, some, body) refl (omega arith)
            ]
      ]

  pub line_string_has : Opened input 2 l → IsAllowed room w 2 l.dimension l.has_srid → HasPart room w input
  line_string_has o allowed = count_has room w input 2 l o allowed (λ e. omega arith) (λ enough c.
      let end = line_string_end l.dimension l.has_srid (count_in l input) in
      elim (cases_lt (length input) end) [
        | inl short ↦ inr (_, _, _, short_line_string c short)
        | inr long ↦
            let b = drop (body_start l.has_srid) (take end input) in
            let len = length-take-le end input long in
            let same : count_in l input ≡ number l.order 4 b =
            number_in l.order (body_start l.has_srid) input (take end input) (drop end input)
            (sym (take-append-drop end input)) (omega arith) in
            let size : length b ≡ 4 + 8 * width l.dimension * count_in l input =
            omega (arith, length-drop (body_start l.has_srid) (take end input)) in
            leaf_is (line_string l.dimension (ring_in l.order l.dimension b)) [] end o allowed.wanted long (omega arith)
            (refl, coordinates_are l.order l.dimension b (size ∙ ap (λ z. 4 + 8 * width l.dimension * z) same)) refl
            (omega arith)
      ])

  pub polygon_has : Opened input 3 l → IsAllowed room w 3 l.dimension l.has_srid → HasPart room w input
  polygon_has o allowed = count_has room w input 3 l o allowed (λ e. omega arith) (λ enough c.
      elim (rings_has l.order l.dimension (count_in l input) (parts_start l.has_srid input)) [
        | inl h ↦
            let b = h.3 in
            let parts = parts_encoding l input b.front h.1 enough b.whole in
            let field = take 4 (drop (body_start l.has_srid) input) in
            let t = polygon l.dimension h.0 in
            let counted = subst (λ z. IsNumber l.order 4 z field) (sym h.2) parts.number in
            inl (
              _,
              h.1,
              item_is room w input (consumed input h.1) h.1 l [] no_spellings t (field ++ b.front) [] (cost_of t) o
                  allowed.wanted parts.whole parts.long (parts.body ∙ sym (append-nil _))
                  (refl, joined field b.front counted b.first)
                  refl (omega arith) refl refl,
            )
        | inr r ↦ inr (_, _, _, bad_ring c r.2)
      ])

-- a member has at least nine bytes
pub each_least : (ts : Values) → 9 * count ts ≤ each_size ts
each_least no_members = omega arith
each_least (member t ts) = omega (arith, each_least ts, value_size-least t)

pub refused_each : {room : ℕ} {w : Wanted} {n m : ℕ} {input : List ℕ} {cause : Cause} {a b c d : ℕ} → n ≡ m → a ≡ c
    → b ≡ d
    → RefusesEach room w n input cause a b → RefusesEach room w m input cause c d
refused_each {room} {w} {input = input} {cause = cause} e f g r = grind arith

-- these members at the start of the input
record MembersAre (room : ℕ) (w : Wanted) (n : ℕ) (input : List ℕ) (ts : Values) : Type 0 where
  pub spellings : Spellings
  pub rest : List ℕ
  pub many : count ts ≡ n
  pub begins : Begins (SpellsEach w spellings ts) input rest
  pub shallow : nest_each ts ≤ room

members_has : (room : ℕ) (w : Wanted) → ((y : List ℕ) → HasPart room w y) → (n : ℕ) (input : List ℕ)
    → ((ts : Values) × MembersAre room w n input ts)
    ⊎ ((cause : Cause) × (begun : ℕ) × (slots : ℕ) × RefusesEach room w n input cause begun slots)
members_has room w one zero input =
    let here : Begins (SpellsEach w no_spellings no_members) input input = grind arith in
    let none : nest_each no_members ≤ room = omega arith in
    inl (no_members, record { spellings = no_spellings; rest = input; many = refl; begins = here; shallow = none })
members_has room w one (suc n) input = elim (one input) [
  | inl p ↦
      let is = p.2 in
      let here : Begins (λ x. Spells p.0.spelled p.0.value x × IsPart w _ _ _) input p.1 =
      record { front = p.0.encoding; whole = is.whole; first = (is.spelled, is.wanted) } in
      elim (members_has room w one n p.1) [
        | inl m ↦ inl (
          member p.0.value m.0,
          record {
            spellings = spelling p.0.spelled m.1.spellings;
            rest = m.1.rest;
            many = omega (arith, m.1.many);
            begins = begins_then here m.1.begins;
            shallow = omega (arith, is.shallow, m.1.shallow);
          },
        )
        | inr r ↦ inr (
          r.0,
          _,
          _,
          later_member (item_front is) is.wanted r.3,
        )
      ]
  | inr r ↦ inr (_, _, _, this_member r.3)
]

-- a geometry with members: its count, its nesting, its turns and its entries, by its members
pub list_body : (order : Endianness) (own : List ℕ) (t : Value) (field : List ℕ) → 3 < kind t
    → ◌≡◌ {A = Type 0} (SpellsBody order own t field) ((own ≡ []) × IsNumber order 4 (count (members t)) field)
list_body order own (collection d ts) field low = refl
list_body order own _ field low = first_of (rw count-each, grind arith)

pub list_turns : (t : Value) → 3 < kind t → member_count t ≡ member_count_each (members t)
list_turns t low = grind (arith, member_count-members)

listed_each : (ts : Values) → listed_count_each ts ≡ count ts + listed_inside ts
listed_each no_members = refl
listed_each (member t ts) = omega (arith, listed_each ts)

pub list_slots : (t : Value) (remaining : ℕ) → 3 < kind t → 9 * count (members t) ≤ remaining
    → listed_count t ≡ slots_asked (kind t) (count (members t)) remaining + listed_inside (members t)
list_slots (multi_point d l) remaining low fits =
    omega (arith, each_same (point d) listed_inside refl 0 (λ a ts. refl) l)
list_slots (multi_line_string d l) remaining low fits =
    let listed = each_same (line_string d) listed_count_each refl 1 (λ a ts. refl) l in
    omega (arith, listed_each (each (line_string d) l))
list_slots (multi_polygon d l) remaining low fits =
    let listed = each_sum (polygon d) listed_count_each refl (λ rings. 1 + length rings) (λ a ts. refl) l in
    omega (arith, listed_each (each (polygon d) l))
list_slots (collection d ts) remaining low fits = omega (arith, listed_each ts)
list_slots _ remaining low fits = absurd (omega arith)

-- members that a multi geometry wants are a list of parts of its kind
parts_made : {A : Type 0} (k : ℕ) (d : Dimension) (f : A → Value) (g : Value → A)
    → ((t : Value) → kind t ≡ k → dimension t ≡ d → f (g t) ≡ t)
    → (ss : Spellings) (ts : Values) (x : List ℕ) → SpellsEach (part k d) ss ts x
    → (Q : Values → Type 0) → Q ts → (l : List A) × Q (each f l)
parts_made k d f g one no_spellings no_members x h Q q = ([], q)
parts_made k d f g one (spelling s ss) (member t ts) x h Q q =
    let more = subst (λ u. Q (member u ts)) (sym (one t h.first.1.0 h.first.1.1)) q in
    let others = parts_made k d f g one ss ts h.rest h.second (λ us. Q (member (f (g t)) us)) more in
    (g t ∷ others.0, others.1)
parts_made k d f g one _ _ x h Q q = absurd h

-- a geometry with members, where its opening, its count and these stand at the start of the input
module _ (room : ℕ) (w : Wanted) (input : List ℕ) where
  list_is : (t : Value) (order : Endianness) (srid : Bool) → 3 < kind t
      → Opened input (kind t) (laid order (dimension t) srid) → IsAllowed room w (kind t) (dimension t) srid
      → body_start srid + 4 ≤ length input
      → MembersAre (room_inside (kind t) room) (member_part (kind t) (dimension t))
      (count_in (laid order (dimension t) srid) input) (parts_start srid input) (members t)
      → HasPart room w input
  list_is t order srid low o allowed enough m =
      let b = m.begins in
      let l = laid order (dimension t) srid in
      let parts = parts_encoding l input b.front m.rest enough b.whole in
      let field = take 4 (drop (body_start srid) input) in
      let counted = rw (← m.many) at parts.number in
      let body = subst (λ T. T) (sym (list_body order [] t field low)) (refl, counted) in
      inl (
        _,
        m.rest,
        item_is room w input (consumed input m.rest) m.rest l [] m.spellings t field b.front (cost_of t) o
            allowed.wanted parts.whole parts.long parts.body body b.first
            (grind arith) refl refl,
      )

  module _ (l : Layout) where
    -- the points of a multi point are all there, or it is rejected
    points_fit : (k : ℕ)
        → OpensCounted room w input l.order k l.dimension l.has_srid (count_in l input) (parts_start l.has_srid input)
        → ((k ≡ 4 → multi_point_end l.dimension l.has_srid (count_in l input) ≤ length input) → HasPart room w input)
        → HasPart room w input
    points_fit k c each =
        elim (cases_lt (length input) (multi_point_end l.dimension l.has_srid (count_in l input))) [
          | inr fits ↦ each (λ four. fits)
          | inl short ↦ elim (cases_eq k 4) [
            | inl four ↦ inr (_, _, _, short_multi_point (rw four at c) short)
            | inr other ↦ each (λ four. absurd (other four))
          ]
        ]

    -- the geometry of the members after the count
    abbrev These : ℕ → Wanted → Values → Type 0
    These inside v ts = MembersAre inside v (count_in l input) (parts_start l.has_srid input) ts

    made : body_start l.has_srid + 4 ≤ length input → (ts : Values) (k : ℕ) → 3 < k → k ≤ 7 → Opened input k l
        → IsAllowed room w k l.dimension l.has_srid → These (room_inside k room) (member_part k l.dimension) ts
        → HasPart room w input
    made enough ts =
        let d = l.dimension in
        let of = λ (k : ℕ). These room (part k d) in
        by_list_kind (λ k. Opened input k l → IsAllowed room w k d l.has_srid
        → These (room_inside k room) (member_part k d) ts → HasPart room w input)
        (λ o a m. let p = parts_made 1 d (point d) point_of (λ t e f. grind arith) _ ts _ m.begins.first (of 1) m in
        list_is (multi_point d p.0) l.order l.has_srid (lit< tt) o a enough p.1)
        (λ o a m.
        let p = parts_made 2 d (line_string d) line_string_of (λ t e f. grind arith) _ ts _ m.begins.first (of 2) m in
        list_is (multi_line_string d p.0) l.order l.has_srid (lit< tt) o a enough p.1)
        (λ o a m. let p = parts_made 3 d (polygon d) polygon_of (λ t e f. grind arith) _ ts _ m.begins.first (of 3) m in
        list_is (multi_polygon d p.0) l.order l.has_srid (lit< tt) o a enough p.1)
        (λ o a m. list_is (collection d ts) l.order l.has_srid (lit< tt) o a enough m)

    pub list_has : (k : ℕ) → 3 < k → Opened input k l → IsAllowed room w k l.dimension l.has_srid
        → ((y : List ℕ) → HasPart (room_inside k room) (member_part k l.dimension) y) → HasPart room w input
    list_has k low o allowed one = count_has room w input k l o allowed (λ e. omega arith) (λ enough c.
        points_fit k c (λ fits. elim (members_has _ _ one (count_in l input) (parts_start l.has_srid input)) [
          | inl m ↦ made enough m.0 k low o.meaning.kind.high o allowed m.1
          | inr r ↦ inr (_, _, _, bad_member c low fits r.3)
        ]))
