-- Members by their number, and where the bytes of parts stand: of members, of rings, and of those that views lend.
use Rattle.std.proofs.Common.{◌≡◌, ℕ, zero, suc, ◌+◌, List, [], ◌∷◌, Some, None, refl, sym, ap, slice_get, ◌∙◌, length}
use Rattle.std.proofs.Common.{◌<◌, arith, ◌*◌, true, false, nat_lt, slice_index_or, ltb-true, ltb-false, ◌-◌, ◌≤◌, ◌++◌}
use Rattle.std.proofs.Common.{take, drop, drop-drop, take-append-drop, length-append, length-drop, take_all, take-take}
use Rattle.std.proofs.Common.{◌^◌, append_assoc, subst}
use Rattle.wkb_view.specs.Prelude.{Dimension, Coordinate, Spelling, Spellings, no_spellings, Item, spellings}
use Rattle.wkb_view.specs.Prelude.{list_of_spellings, members_spelled, spelling_at, Endianness, number, width, AreBytes}
use Rattle.wkb_view.specs.Prelude.{Listed, whole_of, order_of}
use Rattle.wkb_geom.specs.Values.{Value, Values, each, members, collection, member, member_count, member_count_each}
use Rattle.wkb_geom.specs.Values.{point, line_string, polygon, multi_line_string, multi_polygon}
use Rattle.wkb_geom.specs.Spellings.{node, spelling, SpellsCoordinates}
use Rattle.wkb_geom.specs.Reading.{values}
use Rattle.wkb_laws.specs.Places.{IsOneOf, IsMember, IsWordOf, StandsAt, HoldsMember, HoldsRing, member_start}
use Rattle.wkb_laws.specs.Places.{ring_start}
use Rattle.std.proofs.lemmas.Option.{slice_get-get_or, slice_get_past}
use Rattle.std.proofs.Math.Seq.{take-append_seam, drop-append_seam}
use Rattle.std.proofs.lemmas.List.{drop-take}
use Rattle.wkb_geom.specs.Numbers.{number_bytes}
use Rattle.wkb_view.specs.Lends.{IsFront, IsRingAt, Lends}
use Rattle.wkb_laws.proofs.EncodingSpells.{IsNumber-number_bytes}
use Rattle.wkb_laws.proofs.Parts.{begins_number}
use Rattle.wkb_laws.proofs.PartsInPlace.{words_lem, members_in_place_lem, rings_in_place_lem, next_start_lem}
use Rattle.wkb_view.proofs.ViewLaws.{point_value}
use Rattle.wkb_view.specs.declared.point.Point.{Point}
use Rattle.wkb_view.specs.declared.line_string.LineString.{LineString}
use Rattle.wkb_view.specs.declared.multi_point.MultiPoint.{MultiPoint}
use Rattle.wkb_view.specs.declared.linear_ring.LinearRing.{LinearRing}
use Rattle.wkb_view.specs.Views.{point_seen, point_dimension, seen_coordinate, multi_point_seen, multi_point_dimension}
use Rattle.wkb_view.specs.Views.{seen_points, line_string_seen, line_string_dimension, seen_coordinates}
use Rattle.wkb_view.specs.Coords.{ring_seen, ring_encoding, ring_order, ring_dimension}
use Rattle.wkb_laws.proofs.Spelled.{in_full_lem, size_of_spelled_lem}

-- What `get` of a slice finds is the item of this number.
pub item_found : {A : Type 0} (xs : List A) (i : ℕ) (a : A) → true ≡ nat_lt i (length xs) → a ≡ slice_index_or xs i a
    → slice_get xs i ≡ Some a
item_found xs i a inside is = slice_get-get_or xs i a (ltb-true i (length xs) (sym inside)) ∙ ap Some (sym is)

-- Where it finds none, there is no item of this number.
pub item_missing : {A : Type 0} (xs : List A) (i : ℕ) → false ≡ nat_lt i (length xs) → slice_get xs i ≡ None
item_missing xs i past = slice_get_past xs i (ltb-false i (length xs) (sym past))

one_of_each : {A : Type 0} (f : A → Value) (ss : Spellings) (l : List A) (k : ℕ) (s : Spelling) (a : A)
    → Some s ≡ slice_get (list_of_spellings ss) k
    → Some a ≡ slice_get l k → IsOneOf k ss (each f l) s (f a)
one_of_each f no_spellings l k s a is of = absurd cc
one_of_each f (spelling u ss) [] k s a is of = absurd cc
one_of_each f (spelling u ss) (b ∷ l) zero s a is of = let value : a ≡ b = cc in (cc, ap f value)
one_of_each f (spelling u ss) (b ∷ l) (suc k) s a is of = one_of_each f ss l k s a is of

-- The part that a call of a multi geometry returns for an index is the member of this number.
pub part_is_member : {A : Type 0} (f : A → Value) (u : Spelling) (v : Value) (l : List A) (k : ℕ) (s : Spelling) (a : A)
    → members v ≡ each f l
    → Some s ≡ spelling_at u k → Some a ≡ slice_get l k → IsMember k u v s (f a)
part_is_member f (node g ws ss) v l k s a same is of = grind (arith, one_of_each)

pub one_of : (ms : List Item) (k : ℕ) (m : Item) → slice_get ms k ≡ Some m
    → IsOneOf k (spellings ms) (values ms) m.spelled m.value
one_of [] k m is = absurd cc
one_of (x ∷ ms) zero m is = let same : m ≡ x = cc in rw same (refl, refl)
one_of (x ∷ ms) (suc k) m is = one_of ms k m is

pub unlisted : (u : Spelling) (d : Dimension) (vs : Values) (k : ℕ) (s : Spelling) (t : Value)
    → IsOneOf k (members_spelled u) vs s t
    → IsMember k u (collection d vs) s t
unlisted (node g ws ss) d vs k s t h = h

pub no_member_listed : (ms : List Item) (k : ℕ) (s : Spelling) (t : Value) → slice_get ms k ≡ None
    → IsOneOf k (spellings ms) (values ms) s t → ⊥
no_member_listed [] zero s t is h = h
no_member_listed [] (suc k) s t is h = h
no_member_listed (x ∷ ms) zero s t is h = absurd (cc)
no_member_listed (x ∷ ms) (suc k) s t is h = no_member_listed ms k s t is h

pub among_members : (u : Spelling) (d : Dimension) (vs : Values) (k : ℕ) (s : Spelling) (t : Value)
    → IsMember k u (collection d vs) s t
    → IsOneOf k (members_spelled u) vs s t
among_members (node g ws ss) d vs k s t h = h

one_of_number : (k : ℕ) (ss : Spellings) (vs : Values) (s u : Spelling) (t v : Value) → IsOneOf k ss vs s t
    → IsOneOf k ss vs u v → t ≡ v
one_of_number zero (spelling a ss) (member b vs) s u t v h g = h.1 ∙ sym g.1
one_of_number (suc k) (spelling a ss) (member b vs) s u t v h g = one_of_number k ss vs s u t v h g
one_of_number zero _ _ s u t v h g = absurd h
one_of_number (suc k) _ _ s u t v h g = absurd h

value_by_node : (y : Spelling) (z : Value) (k : ℕ) (s u : Spelling) (t v : Value) → IsMember k y z s t
    → IsMember k y z u v → t ≡ v
value_by_node (node a ws ss) z k s u t v h g = one_of_number k ss (members z) s u t v h g

-- The member of one number has one value.
pub one_member : (w : Item) (k : ℕ) (s u : Spelling) (t v : Value) → IsMember k w.spelled w.value s t
    → IsMember k w.spelled w.value u v → t ≡ v
one_member w k s u t v h g = value_by_node w.spelled w.value k s u t v h g

falls_by : (ms : List Item) (i : ℕ) (m : Item) → i < length ms
    → member_count (slice_index_or ms i m).value < member_count_each (values ms)
falls_by [] i m h = absurd (omega (arith, h))
falls_by (x ∷ ms) zero m h = omega arith
falls_by (x ∷ ms) (suc i) m h = omega (arith, falls_by ms i m (omega (arith, h)))

-- A member has fewer members in it than all together, by which a walk over members ends.
pub member_falls : (ms : List Item) (i : ℕ) (m : Item) (t : ℕ) → m ≡ slice_index_or ms i m → i < length ms
    → 2 * member_count_each (values ms) ≡ t → 2 * member_count m.value + 1 < t
member_falls ms i m t is inside measure = grind (arith, falls_by)

-- A coordinate that is there and too short has no such word.
pub no_word : (cs : List Coordinate) (c : Coordinate) (i n x : ℕ) → Some c ≡ slice_get cs i → None ≡ slice_get c n
    → IsWordOf cs i n x → ⊥
no_word cs c i n x here none of = grind arith

-- Where there is no such coordinate there is no word of it.
pub no_word_there : (cs : List Coordinate) (i n x : ℕ) → None ≡ slice_get cs i → IsWordOf cs i n x → ⊥
no_word_there cs i n x none of = grind arith

-- What an input begins with is at its beginning.
pub front_stands : {buf : List ℕ} {w : Item} → IsFront buf w → StandsAt 0 w.encoding buf
front_stands {buf = buf} {w = w} f = grind (arith, length-append, take-append_seam)

-- The bytes from an offset on are there.
pub rest_stands : (n : ℕ) (whole : List ℕ) → n ≤ length whole → StandsAt n (drop n whole) whole
rest_stands n whole long = grind (arith, length-drop, take_all)

-- A part of a part is a part.
pub stands_within : {a b : ℕ} {x y z : List ℕ} → StandsAt a x y → StandsAt b y z → StandsAt (b + a) x z
stands_within {a = a} {b = b} {x = x} {y = y} {z = z} p q =
    let left = length y - a in
    let long : length y ≡ a + left = omega (arith, p.within) in
    let inside : drop a y ≡ take left (drop (b + a) z) = grind (arith, drop-take, drop-drop) in
    grind (arith, take-take)

-- What follows an offset begins with the part that is there.
pub begins_there : {start : ℕ} {part whole : List ℕ} → StandsAt start part whole
    → drop start whole ≡ part ++ drop (length part) (drop start whole)
begins_there {start = start} {part = part} {whole = whole} h = grind (arith, take-append-drop)

-- The bytes of a number at an offset hold it, and what follows them is behind them.
pub number_is_read : (order : Endianness) (n x at : ℕ) (blob rest : List ℕ) → x < 256 ^ n
    → drop at blob ≡ number_bytes order n x ++ rest
    → (n ≤ length (drop at blob)) × (number order n (drop at blob) ≡ x) × (drop (at + n) blob ≡ rest)
number_is_read order n x at blob rest fits is =
    let read =
    begins_number order n x (drop at blob) rest
    (record { front = number_bytes order n x; whole = is; first = IsNumber-number_bytes order n x fits }) in
    (read.0, read.1, sym (drop-drop n at blob) ∙ read.2)

-- A word of the coordinates that bytes spell is in bytes around these, as many words after their count.
pub word_stands : (order : Endianness) (d : Dimension) (cs : List Coordinate) (i n w start : ℕ) {bytes outer : List ℕ}
    → SpellsCoordinates order d cs bytes → StandsAt start bytes outer → IsWordOf cs i n w
    → number order 8 (drop (start + 4 + 8 * (width d * i + n)) outer) ≡ w
word_stands order d cs i n w start {bytes = bytes} {outer = outer} spelled stands word =
    let here = 4 + 8 * (width d * i + n) in
    let far : start + 4 + 8 * (width d * i + n) ≡ start + here = omega arith in
    ap (number order 8)
    (ap (λ k. drop k outer) far ∙ sym (drop-drop here start outer) ∙ ap (drop here) (begins_there stands))
    ∙ words_lem order d cs bytes (drop (length bytes) (drop start outer)) i n w spelled word

part_stands : (whole head before part after : List ℕ) (start : ℕ) → whole ≡ head ++ (before ++ (part ++ after))
    → start ≡ length head + length before → StandsAt start part whole
part_stands whole head before part after start is at =
    let whole_is : whole ≡ (head ++ before) ++ (part ++ after) = is ∙ sym (append_assoc head before (part ++ after)) in
    let far : start ≡ length (head ++ before) = at ∙ sym (length-append head before) in
    let behind : drop start whole ≡ part ++ after =
    (λ i. drop (far i) (whole_is i)) ∙ drop-append_seam (head ++ before) (part ++ after) in
    grind (arith, length-append, take-append_seam)

-- The member's bytes that `members_lem` finds are in those of the whole.
pub held_member_stands : {whole part : Item} {k : ℕ} (m : HoldsMember whole k part)
    → StandsAt m.start part.encoding whole.encoding
held_member_stands m = part_stands _ m.head m.before _ m.after m.start m.parts m.start_is

-- The ring's bytes that `rings_lem` finds are in those of the polygon.
pub held_ring_stands : {whole : Item} {j : ℕ} {ring : List Coordinate} (r : HoldsRing whole j ring)
    → StandsAt r.start r.bytes whole.encoding
held_ring_stands r = part_stands _ r.head r.before r.bytes r.after r.start r.parts r.start_is

-- A part of the dimension of the whole is its member of this number.
part_of_dimension : {A : Type 0} (f : Dimension → A → Value) (u : Spelling) (v : Value) (l : List A) (k : ℕ)
    {d e : Dimension} (s : Spelling) (a : A) → e ≡ d → members v ≡ each (f d) l → Some s ≡ spelling_at u k
    → Some a ≡ slice_get l k → IsMember k u v s (f e a)
part_of_dimension f u v l k {d = d} s a same are spelled of = grind (arith, part_is_member)

-- The point of a multi point at an index is its member of this number.
pub point_is_member : (m : MultiPoint) (k : ℕ) (p : Point) → point_dimension p ≡ multi_point_dimension m
    → Some (point_seen p).spelled ≡ spelling_at (multi_point_seen m).spelled k
    → Some (seen_coordinate p) ≡ slice_get (seen_points m) k
    → IsMember k (multi_point_seen m).spelled (multi_point_seen m).value (point_seen p).spelled (point_seen p).value
point_is_member m k p same spelled of =
    subst (IsMember k (multi_point_seen m).spelled (multi_point_seen m).value (point_seen p).spelled)
    (sym (point_value p))
    (part_of_dimension point (multi_point_seen m).spelled (multi_point_seen m).value (seen_points m) k
    (point_seen p).spelled (seen_coordinate p) same refl spelled of)

-- The line string of a multi line string at an index is its member of this number.
pub line_string_is_member : (m : Listed (List (List Coordinate))) (k : ℕ) (l : LineString)
    → line_string_dimension l ≡ m.dimension → Some (line_string_seen l).spelled ≡ spelling_at m.spelled k
    → Some (seen_coordinates l) ≡ slice_get m.parts k
    → IsMember k m.spelled (multi_line_string m.dimension m.parts) (line_string_seen l).spelled
    (line_string_seen l).value
line_string_is_member m k l same spelled of =
    part_of_dimension line_string _ _ m.parts k _ (seen_coordinates l) same refl spelled of

-- The polygon of a multi polygon at an index is its member of this number.
pub polygon_is_member : (m : Listed (List (List (List Coordinate)))) (k : ℕ) (p : Listed (List (List Coordinate)))
    → p.dimension ≡ m.dimension → Some p.spelled ≡ spelling_at m.spelled k → Some p.parts ≡ slice_get m.parts k
    → IsMember k m.spelled (multi_polygon m.dimension m.parts) p.spelled (polygon p.dimension p.parts)
polygon_is_member m k p same spelled of =
    part_of_dimension polygon _ _ m.parts k _ p.parts same refl spelled of

-- The bytes of a member are those of the whole at the member's place.
pub member_stands : (whole : Item) (k : ℕ) (part : Item) {outer inner : List ℕ}
    → IsMember k whole.spelled whole.value part.spelled part.value → Lends whole outer → Lends part inner
    → StandsAt (member_start k whole.spelled whole.value) inner whole.encoding
member_stands whole k part is out own = grind (arith, members_in_place_lem, in_full_lem)

-- What is at the place of the next member begins where the bytes of a member end.
pub next_member_stands : (whole : Item) (k n : ℕ) (part : Item)
    {lent next : List ℕ} → n ≡ suc k
    → IsMember k whole.spelled whole.value part.spelled part.value → Lends part lent
    → StandsAt (member_start n whole.spelled whole.value) next whole.encoding
    → StandsAt (member_start k whole.spelled whole.value + length lent) next whole.encoding
next_member_stands whole k n part {lent = lent} {next = next} is of own stands =
    grind (arith, in_full_lem, size_of_spelled_lem, next_start_lem)

-- The ring that `exterior` or `interior` returns is at its place in the polygon's bytes.
pub ring_stands : (p : Listed (List (List Coordinate))) (j : ℕ) (r : LinearRing)
    {lent : List ℕ} → Lends (whole_of polygon p) lent
    → SpellsCoordinates (ring_order r) (ring_dimension r) (ring_seen r) (ring_encoding r)
    → AreBytes (ring_encoding r)
    → ring_order r ≡ order_of p.spelled → ring_dimension r ≡ p.dimension
    → Some (ring_seen r) ≡ slice_get p.parts j → IsRingAt p j r
ring_stands p j r out coordinates bytes order same at =
    let here = subst (λ e. SpellsCoordinates e p.dimension (ring_seen r) (ring_encoding r)) order
    (subst (λ d. SpellsCoordinates (ring_order r) d (ring_seen r) (ring_encoding r)) same coordinates) in
    let whole = in_full_lem p.spelled (polygon p.dimension p.parts) p.encoding out.spells in
    record {
      spelled = here;
      stands =
          rings_in_place_lem (whole_of polygon p) p.dimension p.parts j (ring_seen r) (ring_encoding r)
          out.read.bytes bytes whole here refl (sym at);
      at = at;
    }

-- So is a word of a ring in bytes around the polygon's own.
pub ring_word_stands : (p : Listed (List (List Coordinate))) (j i n w : ℕ) (r : LinearRing) (start : ℕ)
    {lent outer : List ℕ} → Lends (whole_of polygon p) lent → StandsAt start lent outer → IsRingAt p j r
    → IsWordOf (ring_seen r) i n w
    → number (order_of p.spelled) 8
    (drop (start + ring_start j p.spelled p.dimension p.parts + 4 + 8 * (width p.dimension * i + n)) outer) ≡ w
ring_word_stands p j i n w r start {outer = outer} own stands ring word =
    word_stands (order_of p.spelled) p.dimension (ring_seen r) i n w
    (start + ring_start j p.spelled p.dimension p.parts) ring.spelled
    (stands_within ring.stands (subst (λ b. StandsAt start b outer) own.encoding stands)) word
