-- How long an encoding is.
use Rattle.std.proofs.Common.{◌≡◌, ℕ, ◌+◌, ◌*◌, ◌<◌, ◌≤◌, ◌^◌, List, [], ◌∷◌, ◌++◌, length, Some, None, Bool, rules}
use Rattle.std.proofs.Common.{false, refl, ap, ◌∙◌, arith, length-append, sum_by, is_some, if◌then◌else◌, lt-ltb}
use Rattle.std.proofs.lemmas.List.Sums.{sum_by-cons}
use Rattle.wkb_geom.specs.Sizes.{point_size, ring_size, line_string_size, rings_size, polygon_size}
use Rattle.wkb_geom.specs.Encodings.{point_encoding, line_string_encoding, polygon_encoding, members_encoding}
use Rattle.wkb_geom.specs.Geometries as geometries
use Rattle.wkb_laws.specs.Prelude.{line_string, multi_line_string, SpellsCoordinate, SpellsCoordinates, srid_count_each}
use Rattle.wkb_laws.specs.Prelude.{polygon, multi_polygon, srid_encoding, header_encoding, as_dimensions, geometries_of}
use Rattle.wkb_laws.specs.Prelude.{Form, multi_point, no_spellings, member_part, geometry_of, number_bytes, fault_under}
use Rattle.wkb_laws.specs.Prelude.{Endianness, Coordinate, no_members, SpellsBody, SpellsEach, srid_count, IsGeometry}
use Rattle.wkb_laws.specs.Prelude.{Dimension, Ewkb, dimension, Spellings, srid_size, size_fault, IsWritable, byte_sizes}
use Rattle.wkb_laws.specs.Prelude.{AreBytes, IsNumber, Spelling, spelling, Geometry, form_srid, encoding, byte_size}
use Rattle.wkb_laws.specs.Prelude.{IsEach, Values, member, members, header, Wanted, Spells, normal, or_else, IsForm}
use Rattle.wkb_laws.specs.Prelude.{Iso, width, Value, point, kind, node, part, Front, inner, fault, size}
use Rattle.wkb_laws.specs.Written.{written, HasOptions, AllHaveOptions}
use Rattle.wkb_laws.specs.Encodings.{IsRewritable, SpelledIsWritable}
use Rattle.wkb_laws.specs.Laws.{LengthOfEncoding, LengthOfFront, FrontIsWritable, EwkbIsWritable, SizeIsRefused}
use Rattle.wkb_laws.specs.Laws.{OwnSridIsWritable}
use Rattle.wkb_laws.proofs.Parts.{then_length, each_len, header_length}
use Rattle.wkb_laws.proofs.Lists.{each_sum, each_same}
use Rattle.wkb_laws.proofs.EncodingSpells.{inner_fits, encoding_spells, written_has_options}
use Rattle.wkb_laws.proofs.Values.{Good, spelled_good, front_good, front_bytes, outer_fits, normal-geometry_of}
use Rattle.wkb_laws.proofs.Values.{lawful-geometry_of}

-- the bytes of a ring after its four bytes of count
abbrev coordinates_size : Dimension → List Coordinate → ℕ
coordinates_size d cs = 4 + 8 * width d * length cs

-- the bytes of a value without SRIDs
abbrev pub value_size : Value → ℕ
value_size t = byte_size (geometry_of t)

abbrev pub each_size : Values → ℕ
each_size ts = byte_sizes (geometries_of ts)

pub named_width : (d : Dimension) → width d ≡ size (as_dimensions d)
named_width d = grind arith

-- a geometry has at least nine bytes
pub width-least : (d : Dimension) → 2 ≤ width d
width-least d = grind arith

pub value_size-least : (t : Value) → 9 ≤ value_size t
value_size-least (point d c) = omega (arith, width-least d, named_width d)
value_size-least _ = omega arith

-- the body up to the members
abbrev body_size : Value → ℕ
body_size (point d c) = 8 * size (as_dimensions d)
body_size (line_string d cs) = ring_size (as_dimensions d) cs
body_size (polygon d rings) = rings_size (as_dimensions d) rings
body_size _ = 4

value_size-members : (t : Value) → value_size t ≡ 5 + body_size t + each_size (members t)
value_size-members (multi_point d l) =
    omega (arith, each_same (point d) each_size refl (point_size (as_dimensions d)) (λ a ts. refl) l)
value_size-members (multi_line_string d l) =
    omega (arith, each_sum (line_string d) each_size refl (line_string_size (as_dimensions d)) (λ a ts. refl) l)
value_size-members (multi_polygon d l) =
    omega (arith, each_sum (polygon d) each_size refl (polygon_size (as_dimensions d)) (λ a ts. refl) l)
value_size-members _ = omega arith

pub each_length : {A : Type 0} (P : A → List ℕ → Type 0) (size : A → ℕ)
    → ((a : A) (x : List ℕ) → P a x → length x ≡ size a) → (l : List A) (x : List ℕ)
    → IsEach P l x → length x ≡ sum_by size l
each_length P size one [] x h = ap length h
each_length P size one (a ∷ l) x h = grind (arith, length-append, sum_by-cons, each_length P size one l h.rest h.second)

pub coordinate_length : (order : Endianness) (d : Dimension) (c : Coordinate) (x : List ℕ)
    → SpellsCoordinate order d c x → length x ≡ 8 * width d
coordinate_length order d c x h = each_len (IsNumber order 8) 8 (λ v y is. is.len) c x h.words ∙ ap (λ z. 8 * z) h.len

pub coordinates_length : (order : Endianness) (d : Dimension) (cs : List Coordinate) (x : List ℕ)
    → SpellsCoordinates order d cs x
    → length x ≡ coordinates_size d cs
coordinates_length order d cs x h =
    let each = each_len (SpellsCoordinate order d) (8 * width d) (coordinate_length order d) cs h.rest h.second in
    omega (arith, then_length h)

body_length : (order : Endianness) (own : List ℕ) (t : Value) (x : List ℕ) → SpellsBody order own t x
    → length x ≡ body_size t
body_length order own (point d None) x h = rw (← named_width d) (coordinate_length order d own x h.1)
body_length order own (point d (Some c)) x h = rw (← named_width d) (coordinate_length order d c x h.2)
body_length order own (line_string d cs) x h = rw (← named_width d) (coordinates_length order d cs x h.1)
body_length order own (polygon d rings) x h =
    let each = each_length (SpellsCoordinates order d) (coordinates_size d) (coordinates_length order d) in
    rw (← named_width d) (omega (arith, then_length h.1, h.1.first.len, each rings h.1.rest h.1.second))
body_length order own _ x h = (h.1).len

pub srid_size_is : (b : Bool) → srid_size b ≡ 4 * (if b then 1 else 0)
srid_size_is b = grind arith

-- without members there is no SRID inside a geometry
pub none_without_members : (w : Wanted) (ss : Spellings) (x : List ℕ) → SpellsEach w ss no_members x
    → srid_count_each ss ≡ 0
none_without_members w no_spellings x h = refl
none_without_members w (spelling s ss) x h = absurd h

-- the points of a multi point have none
pub none_in_points : (d : Dimension) (ss : Spellings) (ts : Values) (x : List ℕ) → SpellsEach (part 1 d) ss ts x
    → srid_count_each ss ≡ 0
none_in_points d no_spellings ts x h = refl
none_in_points d (spelling s ss) no_members x h = absurd h
none_in_points d (spelling (node h own inside) ss) (member (point e c) ts) x a =
    grind (arith, none_without_members, srid_size_is, none_in_points d ss ts a.rest a.second)
none_in_points d (spelling s ss) (member t ts) x a = absurd (omega (arith, a.first.1.0))

-- an encoding is as long as its value asks for, and four bytes for each SRID
mutual
  pub spelled_length : (s : Spelling) (t : Value) (x : List ℕ) → Spells s t x
      → length x ≡ value_size t + 4 * srid_count s
  spelled_length (node h own ss) t x a =
      let head = header_length h (kind t) (dimension t) a.front a.first in
      let body = body_length h.order own t a.second.front a.second.first in
      let tail =
      each_spelled_length (member_part (kind t) (dimension t)) ss (members t) a.second.rest a.second.second in
      omega (arith, then_length a, then_length a.second, value_size-members t, srid_size_is (is_some h.srid))

  pub each_spelled_length : (w : Wanted) (ss : Spellings) (ts : Values) (x : List ℕ) → SpellsEach w ss ts x
      → length x ≡ each_size ts + 4 * srid_count_each ss
  each_spelled_length w no_spellings no_members x a = ap length a
  each_spelled_length w (spelling s ss) (member t ts) x a =
      omega (arith, each_spelled_length w ss ts a.rest a.second, spelled_length s t a.front a.first.0, then_length a)
  each_spelled_length w _ _ x a = absurd a

-- what is written has the options' SRID, and no other
mutual
  no_srids : (order : Endianness) (form : Form) (ss : Spellings) → is_some (form_srid form) ≡ false
      → AllHaveOptions order form ss → srid_count_each ss ≡ 0
  no_srids order form no_spellings none h = refl
  no_srids order form (spelling s ss) none h =
      let zero_head : ◌≡◌ {A = ℕ} (if is_some (form_srid form) then 1 else 0) 0 = ap (λ z. if z then 1 else 0) none in
      omega (arith, no_srids order form ss none h.1, srid_counted order form s h.0)

  srid_counted : (order : Endianness) (form : Form) (s : Spelling) → HasOptions order form s
      → srid_count s ≡ (if is_some (form_srid form) then 1 else 0)
  srid_counted order form (node h own ss) k =
      let mine : ◌≡◌ {A = ℕ} (if is_some h.srid then 1 else 0) (if is_some (form_srid form) then 1 else 0) =
      ap (λ z. if is_some z then 1 else 0) k.1 in
      omega (arith, no_srids order (inner form) ss (inner_fits form).1 k.2)

form_length : (order : Endianness) (form : Form) (g : Geometry) → IsForm form → IsGeometry g → fault g ≡ None
    → length (encoding order form g) ≡ value_size (normal g) + 4 * (if is_some (form_srid form) then 1 else 0)
form_length order form g h lawful fine =
    let one = srid_counted order form (written order form g) (written_has_options order form g) in
    omega (arith, spelled_length _ _ _ (encoding_spells order form g h lawful fine))

-- an encoding is as long with any SRID, also with one that doesn't fit
header_long : (order : Endianness) (n k : ℕ) (d : Dimension) (rest : List ℕ)
    → length (header_encoding order (Ewkb (Some n)) k d ++ rest) ≡ 9 + length rest
unfolding header_encoding srid_encoding number_bytes
header_long order n k d rest = grind (arith, length-append)

any_srid : (order : Endianness) (n : ℕ) (g : Geometry)
    → length (encoding order (Ewkb (Some n)) g) ≡ length (encoding order (Ewkb (Some 0)) g)
unfolding point_encoding line_string_encoding polygon_encoding members_encoding
any_srid order n (geometries.point dims c) = grind (arith, header_long)
any_srid order n _ = grind (arith, header_long)

pub encoding_length : (order : Endianness) (form : Form) (g : Geometry) → IsGeometry g → fault g ≡ None
    → length (encoding order form g) ≡ value_size (normal g) + 4 * (if is_some (form_srid form) then 1 else 0)
encoding_length order form g lawful fine = grind (arith, form_length, any_srid)

pub length_of_encoding_lem : LengthOfEncoding
length_of_encoding_lem order other form g _ lawful fine = grind (arith, encoding_length)

-- what bytes spell is written in as many, less four for each SRID
spelled_written : (order : Endianness) (s : Spelling) (t : Value) (x : List ℕ) → AreBytes x → Spells s t x
    → length x ≡ length (encoding order Iso (geometry_of t)) + 4 * srid_count s
spelled_written order s t x b h =
    grind (arith, spelled_good, encoding_length, lawful-geometry_of, spelled_length, normal-geometry_of)

pub length_of_front_lem : LengthOfFront
length_of_front_lem order input s t rest b f = search (rules, spelled_written, front_bytes)

-- a good value is rejected for its length only
size_refused : (order : Endianness) (form : Form) (t : Value) → Good t
    → fault_under order form (geometry_of t) ≡ size_fault (length (encoding order form (geometry_of t)))
unfolding or_else
size_refused order form t good = ap (λ z. or_else z (size_fault (length (encoding order form (geometry_of t))))) good.1

pub size_is_refused_lem : SizeIsRefused
size_is_refused_lem order form input s t rest b f = size_refused order form t (front_good input s t rest b f)

-- a value is written in no more bytes than spell it where the form has no SRID that the spelling hasn't
fits : (order : Endianness) (form : Form) (s : Spelling) (t : Value) (x : List ℕ) → AreBytes x → length x < 2 ^ 64
    → Spells s t x → ◌≤◌ (if is_some (form_srid form) then 1 else 0) (srid_count s)
    → IsWritable order form (geometry_of t)
unfolding size_fault
fits order form s t x b small h fewer =
    let good = spelled_good s t x b h in
    let long = spelled_length s t x h in
    let len = encoding_length order form (geometry_of t) (lawful-geometry_of t good.0) good.1 in
    let same : value_size (normal (geometry_of t)) ≡ value_size t = ap value_size (normal-geometry_of t good.0) in
    grind (arith, size_refused, lt-ltb)

pub spelled_is_writable_lem : SpelledIsWritable
spelled_is_writable_lem s t x b small h =
    let good = spelled_good s t x b h in
    let srid = outer_fits s t x b h in
    record {
      lawful = lawful-geometry_of t good.0;
      normal_is = normal-geometry_of t good.0;
      iso = λ order. fits order Iso s t x b small h (omega arith);
      size = λ order. spelled_written order s t x b h;
      ewkb = λ order. fits order (Ewkb None) s t x b small h (omega arith);
      own_form = srid;
      own_srid = λ order. fits order (Ewkb (header s).srid) s t x b small h (grind arith);
    }

-- so is what an input begins with
front_writable : (input : List ℕ) (s : Spelling) (t : Value) (rest : List ℕ) → AreBytes input → length input < 2 ^ 64
    → (f : Front input s t rest)
    → IsRewritable s t f.front
front_writable input s t rest b small f =
    spelled_is_writable_lem s t f.front (front_bytes input s t rest b f)
    (omega (arith, small, ap length f.whole, length-append f.front rest)) f.spelled

pub front_is_writable_lem : FrontIsWritable
front_is_writable_lem order input s t rest b small f =
    let w = front_writable input s t rest b small f in
    (w.lawful, w.normal_is, w.iso order)

pub ewkb_is_writable_lem : EwkbIsWritable
ewkb_is_writable_lem order input s t rest b small f = (front_writable input s t rest b small f).ewkb order

pub own_srid_is_writable_lem : OwnSridIsWritable
own_srid_is_writable_lem order input s t rest b small f =
    let w = front_writable input s t rest b small f in
    (w.own_form, w.own_srid order)
