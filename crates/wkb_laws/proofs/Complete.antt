-- Every front and every refusal is what reading from left to right gives.
use Rattle.std.proofs.Common.{◌≡◌, ℕ, zero, suc, ◌<◌, ◌≤◌, List, [], ◌∷◌, length, Some, None, Ok, Err, Result, Bool}
use Rattle.std.proofs.Common.{nat_lt, refl, sym, ap, ◌∙◌, arith, lt-ltb, le-ltb, ◌≢◌, ◌+◌, ◌*◌, ◌++◌, drop, map, Option}
use Rattle.std.proofs.Common.{true, false, is_some, ◌==◌, if◌then◌else◌, subst, append_assoc, append-nil, rules}
use Rattle.std.proofs.Common.{length-append, drop-drop, lit<, lit≤}
use Rattle.std.proofs.lemmas.Bool.{false_from_ne_true}
use Rattle.wkb_laws.specs.Prelude.{count_in, multi_line_string, member_count_each, SpellsCoordinates, short_line_string}
use Rattle.wkb_laws.specs.Prelude.{end_of_input, InvalidByteOrder, SpellsCoordinate, line_string_end, short_multi_point}
use Rattle.wkb_laws.specs.Prelude.{incorrect_type, any, type_dimension, multi_point_end, line_string_of, bad_order_byte}
use Rattle.wkb_laws.specs.Prelude.{Dimension, head_by_order, layout_wanted, multi_polygon, point_item_of, no_ring_count}
use Rattle.wkb_laws.specs.Prelude.{head_by_code, member_count, listed_count, no_spellings, OpensCounted, no_order_byte}
use Rattle.wkb_laws.specs.Prelude.{line_string, multi_point, member_part, polygon_item, RefusesRings, later_member}
use Rattle.wkb_laws.specs.Prelude.{Layout, FrontWithin, room_inside, parts_start, short_point, RefusesEach, this_member}
use Rattle.wkb_laws.specs.Prelude.{Endianness, order_byte, meaning_of, Coordinate, collection, no_members, SpellsEach}
use Rattle.wkb_laws.specs.Prelude.{body_start, parts_body, coordinate, at_no_cost, polygon_of, spelled_in, short_ring}
use Rattle.wkb_laws.specs.Prelude.{Head, type_kind, layout_of, nest_each, dimension, later_ring, wrong_part, bad_member}
use Rattle.wkb_laws.specs.Prelude.{IsNumber, Spelling, Spellings, srid_size, point_end, IsAllowed, spellings, list_item}
use Rattle.wkb_laws.specs.Prelude.{Code, spelling, has_srid, ring_end, point_of, repeated, bad_code, too_deep, no_count}
use Rattle.wkb_laws.specs.Prelude.{general, type_of, head_at, meaning, refused, all_nan, polygon, members, bad_ring}
use Rattle.wkb_laws.specs.Prelude.{Begins, Wanted, IsPart, number, IsEach, Values, ring_in, srid_in, Refuses, no_code}
use Rattle.wkb_laws.specs.Prelude.{Cause, Opens, width, Value, point, member, count, Header, IsSrid, Spells, values}
use Rattle.wkb_laws.specs.Prelude.{part, Item, laid, each, nest, kind, node, free, done}
use Rattle.wkb_geom.specs.Refusals.{left_in, left_in_rings, left_in_each}
use Rattle.wkb_geom.proofs.Codes.{one_meaning}
use Rattle.wkb_geom.proofs.Meanings.{meaning_holds, type_kind-type_of}
use Rattle.wkb_laws.specs.Laws.{listed_inside}
use Rattle.wkb_laws.proofs.Parts.{then_length, then_append, begins_number, number-front, take_front, drop_front}
use Rattle.wkb_laws.proofs.Parts.{items_read, coordinate_read, length-opens, header_length, taken_front}
use Rattle.wkb_laws.proofs.Lists.{IsWanted, whole_by, count-each, each_same, list_behind}
use Rattle.wkb_laws.proofs.Heads.{passes, is_passed}
use Rattle.wkb_laws.proofs.Lengths.{coordinate_length, coordinates_length, each_size, each_spelled_length, named_width}
use Rattle.wkb_laws.proofs.Bounds.{wanted_inside, each_long, coordinates_long}
use Rattle.wkb_laws.proofs.Bodies.{list_body, list_turns, list_slots, each_least}
unfoldable use Rattle.wkb_geom.specs.Reading.{by_type, collection_at, geometry_at, line_string_at, polygon_at, ring_at}
unfoldable use Rattle.wkb_geom.specs.Reading.{multi_line_string_at, multi_point_at, multi_polygon_at, point_at}
use Rattle.wkb_geom.specs.Reading.{Outcome, Reading, rejection, then_body, with_count, line_string_body, ring_part}
use Rattle.wkb_geom.specs.Reading.{member_body, member_at, body_at, collection_within}

-- an opening, and each fault in front of a body, as they are read
pub meaning_found : (c k : ℕ) (d : Dimension) (srid : Bool) → Code c k d srid
    → meaning_of c ≡ Some (meaning (type_of k d) srid)
meaning_found c k d srid code =
    meaning_holds (λ m. m ≡ Some (meaning (type_of k d) srid)) c
    (λ m other. let one = one_meaning other code in
    let type : m.wkb_type ≡ type_of k d = grind arith in
    λ i. Some (meaning (type i) (one.srid i)))
    (λ none. absurd (none k d srid code))

pub head_by_byte : (order : Endianness) (behind : List ℕ)
    → head_at (order_byte order ∷ behind) ≡ head_by_order (Some order) behind
unfolding head_at
head_by_byte order behind = grind arith

pub head_coded : {input behind rest : List ℕ} {order : Endianness} {c : ℕ} → input ≡ order_byte order ∷ behind
    → Begins (IsNumber order 4 c) behind rest
    → head_at input ≡ head_by_code order c (meaning_of c)
head_coded {behind = behind} {rest = rest} {order = order} {c = c} e b =
    let read = begins_number order 4 c behind rest b in
    ap head_at e ∙ head_by_byte order behind ∙ rw (le-ltb _ _ read.0, read.1)

abbrev pub head_of : Endianness → ℕ → Dimension → Bool → Head
head_of order k d srid = record { order = order; wkb_type = type_of k d; has_srid = srid }

pub head_opened : {input rest : List ℕ} {order : Endianness} {k : ℕ} {d : Dimension} {srid : Bool}
    → Opens input order k d srid rest
    → head_at input ≡ Ok (head_of order k d srid)
head_opened {order = order} {k = k} {d = d} {srid = srid} o =
    head_coded o.whole o.number ∙ ap (head_by_code order o.code) (meaning_found o.code k d srid o.meaning)

head_misordered : (first : ℕ) (rest : List ℕ) → 1 < first → head_at (first ∷ rest) ≡ Err (general InvalidByteOrder)
unfolding head_at
head_misordered first rest h = grind arith

head_cut : (first : ℕ) (rest : List ℕ) → first ≤ 1 → length rest < 4 → head_at (first ∷ rest) ≡ Err end_of_input
unfolding head_at
head_cut first rest h short = grind arith

-- the reader of a part, where this number of collections more may be opened
abbrev pub reader : ℕ → Wanted → List ℕ → Reading Item
reader room any = geometry_at room
reader room (part k d) = member_at k d

-- what it gives by a head
abbrev read_by : ℕ → Wanted → List ℕ → Result Head Cause → Reading Item
read_by room any input r =
    then_body input r
    (λ h. body_at (collection_within room) h.wkb_type (layout_of h) input)
read_by room (part k d) input r =
    then_body input (layout_wanted k d r) (λ l. member_body k l input)

reader_by : (room : ℕ) (w : Wanted) (input : List ℕ) → reader room w input ≡ read_by room w input (head_at input)
unfolding geometry_at by_type
reader_by zero any input = refl
reader_by (suc room) any input = refl
reader_by room (part k d) input = refl

faulty : (room : ℕ) (w : Wanted) (input : List ℕ) (cause : Cause) → head_at input ≡ Err cause
    → reader room w input ≡ refused input cause
faulty room w input cause e = grind (arith, reader_by)

module _ {input rest : List ℕ} {order : Endianness} {k : ℕ} {d : Dimension} {srid : Bool}
    (o : Opens input order k d srid rest) where
  same_type : (type_kind (type_of k d) ≡ k) × (type_dimension (type_of k d) ≡ d)
  same_type = type_kind-type_of k d o.meaning.kind.low o.meaning.kind.high

  opened : (room : ℕ) (w : Wanted) → IsWanted w → IsPart w k d srid
      → reader room w input
      ≡ body_at (collection_within room) (type_of k d) (laid order d srid) input
  opened room any good p = cc (reader_by room any input, head_opened o, same_type.1)
  opened room (part l e) good p =
      let wanted = is_passed l e (head_of order k d srid) (same_type.0 ∙ p.0, same_type.1 ∙ p.1, p.2) in
      rw (head_opened o, wanted, p.0, p.1) (grind arith)

  unwanted : (room : ℕ) (w : Wanted) → (IsPart w k d srid → ⊥)
      → reader room w input ≡ refused input incorrect_type
  unwanted room any n = absurd (n tt)
  unwanted room (part l e) n =
      let not =
      false_from_ne_true _
      (λ t. let p = passes l e (head_of order k d srid) t in n (sym same_type.0 ∙ p.0, sym same_type.1 ∙ p.1, p.2))
      in
      rw (head_opened o, not)

-- what comes after the count of a body, by the kind
abbrev behind_of : ℕ → ℕ → Layout → List ℕ → ℕ → Reading Item
behind_of room k l input =
    if k == 2 then (λ n. at_no_cost (line_string_body l input n))
    else if k == 3 then parts_body 3 l (ring_part l) (polygon_item l) input
    else list_behind k l (reader (room_inside k room) (member_part k l.dimension)) input

-- every body but a point's has a count
body_counted : (room k : ℕ) (l : Layout) (input : List ℕ) → 1 ≤ k → k ≤ 7 → k ≢ 1 → (k ≡ 7 → 0 < room)
    → body_at (collection_within room) (type_of k l.dimension) l input
    ≡ with_count l input (behind_of room k l input)
unfolding line_string_at polygon_at multi_point_at multi_line_string_at multi_polygon_at collection_at
body_counted room k l input low high n some = search (rules, list_behind)

-- a count, as it is read
pub record CountRead (input : List ℕ) (l : Layout) (n : ℕ) (rest : List ℕ) : Type 0 where
  pub long : body_start l.has_srid + 4 ≤ length input
  pub many : count_in l input ≡ n
  pub behind : parts_start l.has_srid input ≡ rest

module _ {room n : ℕ} {w : Wanted} {input rest : List ℕ} {order : Endianness} {k : ℕ} {d : Dimension} {srid : Bool}
    (c : OpensCounted room w input order k d srid n rest) where
  pub count_read : CountRead input (laid order d srid) n rest
  count_read =
      let o = c.opens in
      let size = srid_size srid in
      let behind5 : drop 5 input ≡ c.srid_field ++ (c.count_field ++ rest) =
      ap (drop 5) o.whole ∙ (begins_number order 4 o.code o.behind _ o.number).2 in
      let start : drop (body_start srid) input ≡ c.count_field ++ rest =
      rw (← drop-drop size 5 input, behind5) (drop_front size c.srid_field (c.count_field ++ rest) c.srid_len) in
      record {
        long = omega (arith, length-opens o, length-append {A = ℕ});
        many = rw start (number-front order 4 n c.count_field rest c.number);
        behind = rw start (drop_front 4 c.count_field rest c.number.len);
      }

  -- what a reader of such parts gives is what comes after the count
  counted : IsWanted w → k ≢ 1 → reader room w input ≡ behind_of room k (laid order d srid) input n
  counted good not1 =
      opened c.opens room w good c.allowed.wanted
      ∙ body_counted room k
      (laid order d srid) input c.opens.meaning.kind.low c.opens.meaning.kind.high not1 c.allowed.shallow
      ∙ rw (le-ltb _ _ count_read.long, count_read.many)

-- a list of members, where a multi point is long enough
list_counted : (room k : ℕ) (l : Layout) (input : List ℕ) (n : ℕ) → 3 < k → k ≤ 7
    → (k ≡ 4 → multi_point_end l.dimension l.has_srid n ≤ length input)
    → behind_of room k l input n
    ≡ parts_body k l (reader (room_inside k room) (member_part k l.dimension)) (list_item l (whole_by k)) input n
list_counted room k l input n low high long = grind arith

-- ---- words, coordinates and rings, as they are read at the start of the bytes

pub record RingRead (order : Endianness) (d : Dimension) (cs : List Coordinate) (x y : List ℕ) : Type 0 where
  pub many : number order 4 (x ++ y) ≡ length cs
  pub is : ring_in order d (x ++ y) ≡ cs

pub ring_read : (order : Endianness) (d : Dimension) (cs : List Coordinate) (x y : List ℕ)
    → SpellsCoordinates order d cs x → RingRead order d cs x y
ring_read order d cs x y h =
    let shape = then_append h y in
    let many = number-front order 4 (length cs) h.front (h.rest ++ y) h.first in
    let read = items_read (SpellsCoordinate order d) (8 * width d) (coordinate order d)
    (λ c x y is. (coordinate_length order d c x is, coordinate_read order d c x y is)) cs h.rest y h.second in
    record { many = rw (shape, many); is = rw (shape, many, drop_front 4 h.front _ h.first.len, read) }

-- a ring at the start is read as its encoding
ring_found : (order : Endianness) (d : Dimension) (ring : List Coordinate) (x rest : List ℕ)
    → SpellsCoordinates order d ring x
    → ring_at order d (x ++ rest) ≡ Ok (x, rest)
unfolding ring_at
ring_found order d ring x rest h =
    let end = ring_end d (length ring) in
    let read = ring_read order d ring x rest h in
    let len : length (x ++ rest) ≡ length x + length rest = length-append x rest in
    let long : length x ≡ end = coordinates_length order d ring x h in
    let four : 4 ≤ length (x ++ rest) = omega arith in
    let whole : end ≤ length (x ++ rest) = omega arith in
    rw (le-ltb _ _ four, read.many, le-ltb _ _ whole, take_front end x rest long, drop_front end x rest long)

-- what several parts are read as, with the parts
record RingsFound (l : Layout) (rings : List (List Coordinate)) (input rest : List ℕ) : Type 0 where
  pub encodings : List (List ℕ)
  pub read : repeated (length rings) (ring_part l) input
      ≡ (record { turns = length rings; slots = 0 }, Ok (encodings, rest))
  pub are : map (ring_in l.order l.dimension) encodings ≡ rings

-- the same outcome at equal costs
at_cost : {A : Type 0} {r : Outcome A} {a b c d : ℕ} → a ≡ c → b ≡ d
    → ◌≡◌ {A = Reading A} (record { turns = a; slots = b }, r) (record { turns = c; slots = d }, r)
at_cost {r = r} e f = λ i. (record { turns = e i; slots = f i }, r)

rings_found : (l : Layout) (rings : List (List Coordinate)) (x rest : List ℕ)
    → IsEach (SpellsCoordinates l.order l.dimension) rings x
    → RingsFound l rings (x ++ rest) rest
unfolding repeated
rings_found l [] x rest h = record { encodings = []; read = ap (λ z. done [] (z ++ rest)) h; are = refl }
rings_found l (ring ∷ rings) x rest h =
    let others = rings_found l rings h.rest rest h.second in
    let shape : x ++ rest ≡ h.front ++ (h.rest ++ rest) = then_append h rest in
    let found = ring_found l.order l.dimension ring h.front (h.rest ++ rest) h.first in
    let head : ring_in l.order l.dimension h.front ≡ ring =
    ap (ring_in l.order l.dimension) (sym (append-nil h.front))
    ∙ (ring_read l.order l.dimension ring h.front [] h.first).is in
    record {
      encodings = h.front ∷ others.encodings;
      read = rw (shape, found, others.read) (at_cost (omega arith) refl);
      are = λ i. head i ∷ others.are i;
    }

-- ---- the encoding of a geometry, as its parts are read

-- the SRID that is read is that of the field
pub srid_read : (order : Endianness) (srid : Option ℕ) (field x y : List ℕ) → IsSrid order srid field
    → drop 5 x ≡ field ++ y
    → srid_in order (is_some srid) x ≡ srid
srid_read order srid field x y is e = grind (arith, number-front)

-- what has no members has no spellings of any, and no bytes
alone : (w : Wanted) (ss : Spellings) (m : List ℕ) → SpellsEach w ss no_members m → (no_spellings ≡ ss) × (m ≡ [])
alone w no_spellings m h = (refl, h)
alone w (spelling s ss) m h = absurd h

points_long : (t : Value) → kind t ≡ 4 → each_size (members t) ≡ (5 + 8 * width (dimension t)) * count (members t)
points_long (multi_point d l) e =
    rw (count-each, named_width d) (each_same (point d) each_size refl _ (λ a ts. refl) l)
points_long _ e = absurd (omega (arith, e))

-- how deep a geometry's members are nested
nest_inside : (t : Value) (room : ℕ) → nest t ≤ room → nest_each (members t) ≤ room_inside (kind t) room
nest_inside (multi_point d l) room h = omega (arith, each_same (point d) nest_each refl 0 (λ a ts. omega arith) l)
nest_inside (multi_line_string d l) room h =
    omega (arith, each_same (line_string d) nest_each refl 0 (λ a ts. omega arith) l)
nest_inside (multi_polygon d l) room h = omega (arith, each_same (polygon d) nest_each refl 0 (λ a ts. omega arith) l)
nest_inside _ room h = omega arith

-- the items of members make the geometry again
held : {A : Type 0} (f : A → Value) (g : Value → A) → ((a : A) → g (f a) ≡ a) → (found : List Item) (l : List A)
    → values found ≡ each f l
    → map (λ i. g i.value) found ≡ l
held f g back [] [] e = refl
held f g back (i ∷ found) (a ∷ l) e =
    let first : i.value ≡ f a = cc in
    let others : values found ≡ each f l = cc in
    λ j. (ap g first ∙ back a) j ∷ held f g back found l others j
held f g back _ _ e = cc

whole_is : (t : Value) (found : List Item) → 3 < kind t → values found ≡ members t
    → whole_by (kind t) (dimension t) found ≡ t
whole_is (multi_point d l) found low e = ap (multi_point d) (held (point d) point_of (λ a. refl) found l e)
whole_is (multi_line_string d l) found low e =
    ap (multi_line_string d) (held (line_string d) line_string_of (λ a. refl) found l e)
whole_is (multi_polygon d l) found low e = ap (multi_polygon d) (held (polygon d) polygon_of (λ a. refl) found l e)
whole_is (collection d ts) found low e = ap (collection d) e
whole_is _ found low e = absurd (omega arith)

-- a geometry as it is read
abbrev pub found : Spelling → Value → List ℕ → List ℕ → Reading Item
found s t x rest = (
  record { turns = member_count t; slots = listed_count t },
  Ok (record { encoding = x; spelled = s; value = t }, rest),
)

-- what several members are read as, with the items
record MembersFound (part_at : List ℕ → Reading Item) (ss : Spellings) (ts : Values)
    (input rest : List ℕ) : Type 0 where
  pub items : List Item
  pub read : repeated (count ts) part_at input
      ≡ (record { turns = member_count_each ts; slots = listed_inside ts }, Ok (items, rest))
  pub same_spellings : spellings items ≡ ss
  pub same_values : values items ≡ ts

module _ (h : Header) (own : List ℕ) (ss : Spellings) (t : Value) (x : List ℕ) (a : Spells (node h own ss) t x) where
  body_cut : drop (body_start (is_some h.srid)) x ≡ a.second.front ++ a.second.rest
  body_cut =
      rw a.whole (drop_front (body_start (is_some h.srid)) a.front a.rest
      (header_length h (kind t) (dimension t) a.front a.first) ∙ a.second.whole)

  encoding_length : length x ≡ body_start (is_some h.srid) + (length a.second.front + length a.second.rest)
  encoding_length =
      omega (arith, then_length a, header_length h (kind t) (dimension t) a.front a.first, then_length a.second)

  head_whole : x ≡ order_byte h.order ∷ (a.first.code_field ++ (a.first.srid_field ++ a.rest))
  head_whole = a.whole ∙ rw (a.first.whole, append_assoc)

  opens : (rest : List ℕ)
      → Opens (x ++ rest) h.order (kind t) (dimension t) (is_some h.srid) (a.first.srid_field ++ (a.rest ++ rest))
  opens rest = grind (arith, then_append, append_assoc)

  spelling_read : (words : List ℕ) (others : Spellings) → words ≡ own → others ≡ ss
      → spelled_in (laid h.order (dimension t) (is_some h.srid)) x words others ≡ node h own ss
  spelling_read words others same_words same_others =
      let is = a.first in
      let code : number h.order 4 (drop 1 x) ≡ h.code = grind (arith, head_whole, number-front) in
      let behind : drop 5 x ≡ is.srid_field ++ a.rest =
      rw head_whole (drop_front 5 (order_byte h.order ∷ is.code_field) (is.srid_field ++ a.rest) (omega arith)) in
      let srid = srid_read h.order h.srid is.srid_field x a.rest is.srid behind in
      λ i. node (record { order = h.order; code = code i; srid = srid i }) (same_words i) (same_others i)

  module _ (room : ℕ) (w : Wanted) (good : IsWanted w) (rest : List ℕ) (shallow : nest t ≤ room)
      (p : IsPart w (kind t) (dimension t) (is_some h.srid)) where
    is_allowed : IsAllowed room w (kind t) (dimension t) (is_some h.srid)
    is_allowed = grind arith

    front_counts : (n : ℕ) (field behind : List ℕ) → a.second.front ≡ field ++ behind → IsNumber h.order 4 n field
        → OpensCounted room w (x ++ rest) h.order (kind t) (dimension t) (is_some h.srid) n
        (behind ++ (a.second.rest ++ rest))
    front_counts n field behind e number = grind (arith, then_append, append_assoc, opens, is_allowed)

    list_found : 3 < kind t
        → MembersFound (reader (room_inside (kind t) room) (member_part (kind t) (dimension t))) ss (members t)
        (a.second.rest ++ rest) rest
        → reader room w (x ++ rest) ≡ found (node h own ss) t x rest
    list_found low f =
        let k = kind t in
        let n = count (members t) in
        let behind = a.second.rest ++ rest in
        let l = laid h.order (dimension t) (is_some h.srid) in
        let body = subst (λ T. T) (list_body h.order own t a.second.front low) a.second.first in
        let c = front_counts n a.second.front [] (sym (append-nil a.second.front)) body.1 in
        let inside = each_spelled_length (member_part k (dimension t)) ss (members t) a.second.rest a.second.second in
        let enough : k ≡ 4 → multi_point_end l.dimension l.has_srid n ≤ length (x ++ rest) =
        λ four. omega (arith, length-append x rest, points_long t four, body.1.len, encoding_length) in
        let fits : 9 * n ≤ length behind = omega (arith, length-append a.second.rest rest, each_least (members t)) in
        let slots = list_slots t (length behind) low fits in
        let turns = list_turns t low in
        let spelled = spelling_read [] (spellings f.items) (sym body.0) f.same_spellings in
        let value = whole_is t f.items low f.same_values in
        counted c good (λ one. omega arith) ∙ list_counted room k l (x ++ rest) n low c.opens.meaning.kind.high enough
        ∙ rw ((count_read c).behind, f.read, taken_front x rest, spelled, value) (at_cost (omega arith) (omega arith))

module _ (room : ℕ) (w : Wanted) (good : IsWanted w) (h : Header) (own : List ℕ) (ss : Spellings) (x rest : List ℕ)
    (d : Dimension) where
  -- a point, by its words and whether all of them are NaNs
  point_by : (c : Option Coordinate) (a : Spells (node h own ss) (point d c) x) (words : List ℕ) (all : Bool)
      → SpellsCoordinate h.order d words a.second.front
      → all_nan words ≡ all
      → IsPart w 1 d (is_some h.srid)
      → reader room w (x ++ rest) ≡ (free, Ok (point_item_of (laid h.order d (is_some h.srid)) x words all, rest))
  unfolding point_at
  point_by c a words all spelled nan p =
      let end = point_end d (is_some h.srid) in
      let none = alone _ ss a.second.rest a.second.second in
      let long = coordinate_length h.order d words a.second.front spelled in
      let len : length x ≡ end = omega (arith, encoding_length h own ss (point d c) x a, ap length none.1) in
      let is =
      ap (coordinate h.order d) (body_cut h own ss (point d c) x a)
      ∙ coordinate_read h.order d words a.second.front a.second.rest spelled in
      let short : nat_lt (length (x ++ rest)) end ≡ false = le-ltb _ _ (omega (arith, length-append x rest)) in
      opened (opens h own ss (point d c) x a rest) room w good p
      ∙ rw (short, take_front end x rest len, drop_front end x rest len, is, nan)

  line_string_by : (cs : List Coordinate) → Spells (node h own ss) (line_string d cs) x
      → IsPart w 2 d (is_some h.srid)
      → reader room w (x ++ rest) ≡ found (node h own ss) (line_string d cs) x rest
  line_string_by cs a p =
      let body = a.second.first.1 in
      let end = line_string_end d (is_some h.srid) (length cs) in
      let none = alone _ ss a.second.rest a.second.second in
      let read = ring_read h.order d cs a.second.front a.second.rest body in
      let long = coordinates_length h.order d cs a.second.front body in
      let len : length x ≡ end = omega (arith, encoding_length h own ss (line_string d cs) x a, ap length none.1) in
      let c =
      front_counts h own ss (line_string d cs) x a room w good rest (omega arith) p
      (length cs) body.front body.rest body.whole body.first in
      let spelled = spelling_read h own ss (line_string d cs) x a [] no_spellings (sym a.second.first.0) none.0 in
      let ring : ring_in h.order d (drop (body_start (is_some h.srid)) x) ≡ cs =
      ap (ring_in h.order d) (body_cut h own ss (line_string d cs) x a) ∙ read.is in
      let short : nat_lt (length (x ++ rest)) end ≡ false = le-ltb _ _ (omega (arith, length-append x rest)) in
      counted c good (λ e. omega arith)
      ∙ rw (short, take_front end x rest len, drop_front end x rest len, spelled, ring)

  polygon_by : (rings : List (List Coordinate)) → Spells (node h own ss) (polygon d rings) x
      → IsPart w 3 d (is_some h.srid)
      → reader room w (x ++ rest) ≡ found (node h own ss) (polygon d rings) x rest
  polygon_by rings a p =
      let body = a.second.first.1 in
      let l = laid h.order d (is_some h.srid) in
      let none = alone _ ss a.second.rest a.second.second in
      let f = rings_found l rings body.rest rest body.second in
      let long = each_long (SpellsCoordinates h.order d) 4 (coordinates_long h.order d) rings body.rest body.second in
      let c =
      front_counts h own ss (polygon d rings) x a room w good rest (omega arith) p
      (length rings) body.front body.rest body.whole body.first in
      let spelled = spelling_read h own ss (polygon d rings) x a [] no_spellings (sym a.second.first.0) none.0 in
      counted c good (λ e. omega arith)
      ∙ rw ((count_read c).behind, none.1, f.read, taken_front x rest, spelled, f.are)
      (at_cost (omega arith) (omega (arith, length-append body.rest rest)))

-- A front is what a reader of such parts gives.
mutual
  unfolding repeated

  pub front_at : (room : ℕ) (w : Wanted) → IsWanted w → (s : Spelling) (t : Value) (x rest : List ℕ) → Spells s t x
      → nest t ≤ room
      → IsPart w (kind t) (dimension t) (has_srid s) → reader room w (x ++ rest) ≡ found s t x rest
  front_at room w good (node h own ss) (point d None) x rest a shallow p =
      point_by room w good h own ss x rest d None a own true a.second.first.1 a.second.first.0 p
      ∙ rw (spelling_read h own ss (point d None) x a own no_spellings refl
      (alone _ ss a.second.rest a.second.second).0)
  front_at room w good (node h own ss) (point d (Some c)) x rest a shallow p =
      let none = alone _ ss a.second.rest a.second.second in
      point_by room w good h own ss x rest d (Some c) a c false a.second.first.2 a.second.first.1 p
      ∙ rw (spelling_read h own ss (point d (Some c)) x a [] no_spellings (sym a.second.first.0) none.0)
  front_at room w good (node h own ss) (line_string d cs) x rest a shallow p =
      line_string_by room w good h own ss x rest d cs a p
  front_at room w good (node h own ss) (polygon d rings) x rest a shallow p =
      polygon_by room w good h own ss x rest d rings a p
  front_at room w good (node h own ss) t x rest a shallow p =
      let allowed = is_allowed h own ss t x a room w good rest shallow p in
      let inside = wanted_inside w room (kind t) (dimension t) (is_some h.srid) good allowed (lit< tt) (lit≤ tt) in
      list_found h own ss t x a room w good rest shallow p (lit< tt)
      (members_at (room_inside (kind t) room) (member_part (kind t) (dimension t)) inside ss
      (members t) a.second.rest rest a.second.second
      (nest_inside t room shallow))

  members_at : (room : ℕ) (w : Wanted) → IsWanted w → (ss : Spellings) (ts : Values) (x rest : List ℕ)
      → SpellsEach w ss ts x → nest_each ts ≤ room
      → MembersFound (reader room w) ss ts (x ++ rest) rest
  members_at room w good no_spellings no_members x rest a shallow =
      record { items = []; read = ap (λ z. done [] (z ++ rest)) a; same_spellings = refl; same_values = refl }
  members_at room w good (spelling s ss) (member t ts) x rest a shallow =
      let others = members_at room w good ss ts a.rest rest a.second (omega arith) in
      let shape : x ++ rest ≡ a.front ++ (a.rest ++ rest) = then_append a rest in
      let first = front_at room w good s t a.front (a.rest ++ rest) a.first.0 (omega arith) a.first.1 in
      let many : 1 + count ts ≡ suc (count ts) = omega arith in
      record {
        items = record { encoding = a.front; spelled = s; value = t } ∷ others.items;
        read = rw (many, shape, first, others.read) (at_cost (omega arith) (omega arith));
        same_spellings = ap (spelling s) others.same_spellings;
        same_values = ap (member t) others.same_values;
      }
  members_at room w good _ _ x rest a shallow = absurd a

pub front_read : (room : ℕ) (w : Wanted) → IsWanted w → (input : List ℕ) (s : Spelling) (t : Value) (rest : List ℕ)
    → (f : FrontWithin room input s t rest)
    → IsPart w (kind t) (dimension t) (has_srid s) → reader room w input ≡ found s t f.front rest
front_read room w good input s t rest f p = cc (front_at room w good s t f.front rest f.spelled f.shallow p)

-- a refusal, with its turns and its slots
abbrev pub refusal : {A : Type 0} → ℕ → ℕ → List ℕ → Cause → Reading A
refusal turns slots bytes cause = (record { turns = turns; slots = slots }, Err (rejection bytes cause))

rings_refused : {order : Endianness} {d : Dimension} {n : ℕ} {input : List ℕ} {cause : Cause} {begun : ℕ}
    → (srid : Bool)
    → (r : RefusesRings order d n input cause begun)
    → repeated n (ring_part (laid order d srid)) input ≡ refusal begun 0 (left_in_rings r) cause
unfolding ring_at repeated
rings_refused srid (no_ring_count h) = rw (lt-ltb _ _ h)
rings_refused {order} {input = input} srid (short_ring {n = n} {rest = rest} b h) =
    let read = begins_number order 4 n input rest b in rw (le-ltb _ _ read.0, read.1, lt-ltb _ _ h)
rings_refused {order} {d} srid (later_ring {rest = rest} ring b r) =
    rw (b.whole, ring_found order d ring b.front rest b.first, rings_refused srid r) (at_cost (omega arith) refl)

-- Each refusal is what a reader of such parts gives, with its turns and its slots.
mutual
  unfolding point_at head_at repeated

  pub refusal_read : {room : ℕ} {w : Wanted} {input : List ℕ} {cause : Cause} {begun slots : ℕ}
      (r : Refuses room w input cause begun slots) → IsWanted w
      → reader room w input ≡ refusal begun slots (left_in r) cause
  refusal_read {room} {w} no_order_byte good = faulty room w [] _ refl
  refusal_read {room} {w} (bad_order_byte {first = first} {rest = rest} h) good =
      faulty room w _ _ (head_misordered first rest h)
  refusal_read {room} {w} (no_code {first = first} {rest = rest} h short) good =
      faulty room w _ _ (head_cut first rest h short)
  refusal_read {room} {w} (bad_code {c = c} {order = order} e b none) good =
      let missing = meaning_holds (λ m. m ≡ None) c (λ m code. absurd (none _ _ _ code)) (λ h. refl) in
      faulty room w _ _ (head_coded e b ∙ ap (head_by_code order c) missing)
  refusal_read {room} {w} (wrong_part o n) good = unwanted o room w n
  refusal_read {w = w} (too_deep o p) good = opened o 0 w good p
  refusal_read {room} {w} (short_point o p short) good = opened o room w good p ∙ rw (lt-ltb _ _ short)
  refusal_read {room} {w} {input} (no_count {k = k} {order = order} {d = d} {srid = srid} o n a short) good =
      let few : length input < body_start srid + 4 = omega (arith, length-opens o) in
      opened o room w good a.wanted
      ∙ body_counted room k (laid order d srid) input o.meaning.kind.low o.meaning.kind.high n a.shallow
      ∙ rw (lt-ltb _ _ few)
  refusal_read (short_line_string c short) good = counted c good (λ e. omega arith) ∙ rw (lt-ltb _ _ short)
  refusal_read (short_multi_point c short) good = counted c good (λ e. omega arith) ∙ rw (lt-ltb _ _ short)
  refusal_read (bad_ring {srid = srid} c h) good =
      counted c good (λ e. omega arith)
      ∙ rw ((count_read c).behind, rings_refused srid h) (at_cost (omega arith) (omega arith))
  refusal_read {room} {w} {input}
      (bad_member {k = k} {n = n} {order = order} {d = d} {srid = srid} c low long h) good =
      let high = c.opens.meaning.kind.high in
      let members = each_refusal_read h (wanted_inside w room k d srid good c.allowed low high) in
      counted c good (λ e. omega arith) ∙ list_counted room k (laid order d srid) input n low high long
      ∙ rw ((count_read c).behind, members) (at_cost (omega arith) refl)

  each_refusal_read : {room : ℕ} {w : Wanted} {n : ℕ} {input : List ℕ} {cause : Cause} {begun slots : ℕ}
      (r : RefusesEach room w n input cause begun slots)
      → IsWanted w → repeated n (reader room w) input ≡ refusal begun slots (left_in_each r) cause
  each_refusal_read (this_member h) good = rw (refusal_read h good) (at_cost refl (omega arith))
  each_refusal_read {room} {w} {input = input} (later_member {rest = rest} {s = s} {t = t} f p h) good =
      rw (front_read room w good input s t rest f p, each_refusal_read h good) (at_cost (omega arith) (omega arith))
