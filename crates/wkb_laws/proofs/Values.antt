-- What bytes spell is a value, and it can be written: its words and counts are in their ranges, and nothing of it is a
-- fault.
use Rattle.std.proofs.Common.{arith, ◌≡◌, Option, Some, None, refl, unwrap_or, ℕ, zero, suc, ◌+◌, ◌<◌, ◌^◌, List, []}
use Rattle.std.proofs.Common.{◌∷◌, ◌++◌, length, map, true, ap, subst, lit<, nat_lt, lt-ltb}
use Rattle.std.specs.List.{AllByRecursion}
use Rattle.std.proofs.lemmas.Bool.Decides.{nat_tests}
use Rattle.byteorder.specs.Numbers.{big_from-lt, little_from-lt}
use Rattle.wkb_laws.specs.Prelude.{Then, Dimension, Xy, Dimensions, width, size, written_dimension, Fault, or_else}
use Rattle.wkb_laws.specs.Prelude.{dimensions_fault, Endianness, BigEndian, LittleEndian, number, AreBytes, IsNumber}
use Rattle.wkb_laws.specs.Prelude.{IsWord, as_dimensions, IsEach, IsCounted, Coordinate, Value, point}
use Rattle.wkb_laws.specs.Prelude.{line_string, polygon, multi_point, multi_line_string, multi_polygon, collection}
use Rattle.wkb_laws.specs.Prelude.{Values, no_members, member, kind, dimension, members, each, count, IsValueCoordinate}
use Rattle.wkb_laws.specs.Prelude.{IsValuePoint, AreValueCoordinates, IsValue, AreValues, header, IsSrid, Spelling}
use Rattle.wkb_laws.specs.Prelude.{node, Spellings, no_spellings, spelling, SpellsCoordinate, SpellsCoordinates}
use Rattle.wkb_laws.specs.Prelude.{SpellsBody, Wanted, member_part, Spells, SpellsEach, normal, normal_each}
use Rattle.wkb_laws.specs.Prelude.{normal_point, geometry_of, geometries_of, Ewkb, Front, IsForm, count_fault}
use Rattle.wkb_laws.specs.Prelude.{first_fault, coordinates_fault, rings_fault, fault, fault_each, count_geometries}
use Rattle.wkb_geom.specs.Geometries as geometry
use Rattle.wkb_geom.proofs.Faults.{none_both}
use Rattle.wkb_laws.specs.Laws.{NamedDimension}
use Rattle.wkb_laws.proofs.Lists.{all_imply, lists_imply}

pub or_else_parts : (a b : Option Fault) → or_else a b ≡ None → (a ≡ None) × (b ≡ None)
unfolding or_else
or_else_parts a b e = grind arith

pub or_else_three : {a b c : Option Fault} → or_else a (or_else b c) ≡ None → (a ≡ None) × (b ≡ None) × (c ≡ None)
or_else_three e = grind (arith, or_else_parts)

-- a dimension with a name has as many words as its name says
pub width-written_dimension : (dims : Dimensions) → dimensions_fault dims ≡ None
    → width (written_dimension dims) ≡ size dims
unfolding dimensions_fault
width-written_dimension dims e = grind (arith, nat_tests)

-- the parts of bytes are bytes
pub AreBytes-front : (x y : List ℕ) → AreBytes (x ++ y) → AreBytes x
AreBytes-front [] y h i = lit< tt
AreBytes-front (a ∷ x) y h zero = h 0
AreBytes-front (a ∷ x) y h (suc i) = AreBytes-front x y (λ j. h (suc j)) i

pub AreBytes-rest : (x y : List ℕ) → AreBytes (x ++ y) → AreBytes y
AreBytes-rest [] y h = h
AreBytes-rest (a ∷ x) y h = AreBytes-rest x y (λ j. h (suc j))

pub bytes_of : {P Q : List ℕ → Type 0} {x : List ℕ} (a : Then P Q x) → AreBytes x → AreBytes a.front × AreBytes a.rest
bytes_of a b =
    let both = subst AreBytes a.whole b in (AreBytes-front a.front a.rest both, AreBytes-rest a.front a.rest both)

-- a field of n bytes stands for a number below 256 ^ n
pub number-lt : (order : Endianness) (n x : ℕ) (bytes : List ℕ) → IsNumber order n x bytes → AreBytes bytes
    → x < 256 ^ n
unfolding number
number-lt BigEndian n x bytes h b = subst (λ v. v < 256 ^ n) h.value (big_from-lt 0 n bytes b)
number-lt LittleEndian n x bytes h b = subst (λ v. v < 256 ^ n) h.value (little_from-lt 0 n bytes b)

module _ {A : Type 0} (P : A → List ℕ → Type 0) (good : A → Type 0)
    (one : (a : A) (x : List ℕ) → AreBytes x → P a x → good a) where
  each_good : (l : List A) (x : List ℕ) → AreBytes x → IsEach P l x → AllByRecursion good l
  each_good [] x b h = tt
  each_good (a ∷ l) x b h =
      let bytes = bytes_of h b in (one a h.front bytes.0 h.first, each_good l h.rest bytes.1 h.second)

  -- a count is below 2 ^ 32, and what it counts is good
  counted_good : (order : Endianness) (l : List A) (x : List ℕ) → AreBytes x → IsCounted order P l x
      → (length l < 2 ^ 32) × AllByRecursion good l
  counted_good order l x b h =
      let bytes = bytes_of h b in
      (number-lt order 4 (length l) h.front h.first bytes.0, each_good l h.rest bytes.1 h.second)

pub count_fault_none : (n : ℕ) → n < 2 ^ 32 → count_fault n ≡ None
unfolding count_fault
count_fault_none n h = let t : nat_lt n (2 ^ 32) ≡ true = lt-ltb n (2 ^ 32) h in rw t refl

coordinate_good : (order : Endianness) (d : Dimension) (c : Coordinate) (x : List ℕ) → AreBytes x
    → SpellsCoordinate order d c x → IsValueCoordinate d c
coordinate_good order d c x b h =
    record {
      len = h.len;
      words = each_good (IsNumber order 8) IsWord (λ w y bytes is. number-lt order 8 w y is bytes) c x b h.words;
    }

-- a line string or a ring that can be written
abbrev pub GoodLine : Dimension → List Coordinate → Type 0
GoodLine d cs = AreValueCoordinates d cs × (coordinates_fault cs ≡ None)

coordinates_good : (order : Endianness) (d : Dimension) (cs : List Coordinate) (x : List ℕ) → AreBytes x
    → SpellsCoordinates order d cs x → GoodLine d cs
coordinates_good order d cs x b h =
    let both = counted_good (SpellsCoordinate order d) (IsValueCoordinate d) (coordinate_good order d) order cs x b h in
    (both.1, count_fault_none (length cs) both.0)

-- where no item is at fault, the list is not
faultless : {A : Type 0} (P : A → Type 0) (f : A → Option Fault) (l : List A)
    → AllByRecursion (λ a. P a × (f a ≡ None)) l
    → AllByRecursion P l × (first_fault f l ≡ None)
unfolding first_fault
faultless P f [] h = (tt, refl)
faultless P f (a ∷ l) h = let others = faultless P f l h.1 in (((h.0).0, others.0), none_both _ _ (h.0).1 others.1)

-- a polygon's rings that can be written
abbrev pub GoodRings : Dimension → List (List Coordinate) → Type 0
GoodRings d rings = AllByRecursion (AreValueCoordinates d) rings × (rings_fault rings ≡ None)

-- a value that can be written
abbrev pub Good : Value → Type 0
Good t = IsValue t × (fault (geometry_of t) ≡ None)

abbrev pub GoodEach : Values → Type 0
GoodEach ts = AreValues ts × (fault_each (geometries_of ts) ≡ None)

pub named_dimension_lem : NamedDimension
named_dimension_lem d = grind arith

-- a dimension that was read can be written
pub named_dimension : (d : Dimension) → dimensions_fault (as_dimensions d) ≡ None
unfolding dimensions_fault
named_dimension d = let same = named_dimension_lem d in rw same refl

fine : (d : Dimension) {e : Option Fault} → e ≡ None → or_else (dimensions_fault (as_dimensions d)) e ≡ None
fine d = none_both _ _ (named_dimension d)

-- a count that was read can be written
fits : (order : Endianness) (n : ℕ) (x : List ℕ) → AreBytes x → IsNumber order 4 n x → count_fault n ≡ None
fits order n x b h = count_fault_none n (number-lt order 4 n x h b)

-- what each member is, all of them are, and none is at fault
parts_good : {A : Type 0} (f : A → Value) (P : A → Type 0) (g : A → Option Fault)
    → ((a : A) → Good (f a) → P a × (g a ≡ None)) → (l : List A)
    → GoodEach (each f l) → AllByRecursion P l × (first_fault g l ≡ None)
unfolding first_fault
parts_good f P g one [] h = (tt, refl)
parts_good f P g one (a ∷ l) h =
    let parts = or_else_parts _ _ h.1 in
    let first = one a (h.0.0, parts.0) in
    let others = parts_good f P g one l (h.0.1, parts.1) in
    ((first.0, others.0), none_both _ _ first.1 others.1)

pub count-geometries_of : (ts : Values) → count_geometries (geometries_of ts) ≡ count ts
count-geometries_of no_members = refl
count-geometries_of (member t ts) = ap (λ n. 1 + n) (count-geometries_of ts)

-- a body and good members make a good value
value_good : (order : Endianness) (own : List ℕ) (t : Value) (x : List ℕ) → AreBytes x → SpellsBody order own t x
    → GoodEach (members t) → Good t
value_good order own (point d None) x b h m = (tt, named_dimension d)
value_good order own (point d (Some c)) x b h m = ((coordinate_good order d c x b h.2, h.1), named_dimension d)
value_good order own (line_string d cs) x b h m =
    let good = coordinates_good order d cs x b h.1 in (good.0, fine d good.1)
value_good order own (polygon d rings) x b h m =
    let both = counted_good (SpellsCoordinates order d) (GoodLine d) (coordinates_good order d) order rings x b h.1 in
    let all = faultless (AreValueCoordinates d) coordinates_fault rings both.1 in
    (all.0, fine d (none_both _ _ (count_fault_none (length rings) both.0) all.1))
value_good order own (multi_point d l) x b h m =
    let all = parts_good (point d) (IsValuePoint d) (λ c. None) (λ c one. (one.0, refl)) l m in
    (all.0, fine d (fits order (length l) x b h.1))
value_good order own (multi_line_string d l) x b h m =
    let all = parts_good (line_string d) _ coordinates_fault (λ cs one. (one.0, (or_else_parts _ _ one.1).1)) l m in
    (all.0, fine d (none_both _ _ (fits order (length l) x b h.1) all.1))
value_good order own (multi_polygon d l) x b h m =
    let all = parts_good (polygon d) _ rings_fault (λ rings one. (one.0, (or_else_parts _ _ one.1).1)) l m in
    (all.0, fine d (none_both _ _ (fits order (length l) x b h.1) all.1))
value_good order own (collection d ts) x b h m =
    (m.0, fine d (none_both _ _ (rw (count-geometries_of ts) (fits order (count ts) x b h.1)) m.1))

mutual
  pub spelled_good : (s : Spelling) (t : Value) (x : List ℕ) → AreBytes x → Spells s t x → Good t
  spelled_good (node h own ss) t x b a =
      let bytes = bytes_of a.second (bytes_of a b).1 in
      value_good h.order own t a.second.front bytes.0 a.second.first
      (each_spelled_good (member_part (kind t) (dimension t)) ss (members t) a.second.rest bytes.1 a.second.second)

  pub each_spelled_good : (w : Wanted) (ss : Spellings) (ts : Values) (x : List ℕ) → AreBytes x → SpellsEach w ss ts x
      → GoodEach ts
  each_spelled_good w no_spellings no_members x b a = (tt, refl)
  each_spelled_good w (spelling s ss) (member t ts) x b a =
      let bytes = bytes_of a b in
      let first = spelled_good s t a.front bytes.0 a.first.0 in
      let others = each_spelled_good w ss ts a.rest bytes.1 a.second in
      ((first.0, others.0), none_both _ _ first.1 others.1)
  each_spelled_good w _ _ x b a = absurd a

-- the bytes that an input begins with
pub front_bytes : (input : List ℕ) (s : Spelling) (t : Value) (rest : List ℕ) → AreBytes input
    → (f : Front input s t rest) → AreBytes f.front
front_bytes input s t rest b f = AreBytes-front f.front rest (subst AreBytes f.whole b)

pub front_good : (input : List ℕ) (s : Spelling) (t : Value) (rest : List ℕ) → AreBytes input → Front input s t rest
    → Good t
front_good input s t rest b f = spelled_good s t f.front (front_bytes input s t rest b f) f.spelled

-- an SRID is four bytes' number
srid_fits : (order : Endianness) (srid : Option ℕ) (x : List ℕ) → AreBytes x → IsSrid order srid x → IsForm (Ewkb srid)
srid_fits order None x b h = tt
srid_fits order (Some n) x b h = number-lt order 4 n x h b

-- so is the outermost of what bytes spell
pub outer_fits : (s : Spelling) (t : Value) (x : List ℕ) → AreBytes x → Spells s t x → IsForm (Ewkb (header s).srid)
outer_fits (node h own ss) t x b a =
    let first = a.first in
    let behind : AreBytes (first.code_field ++ first.srid_field) =
    λ i. (subst AreBytes first.whole (bytes_of a b).0) (suc i) in
    srid_fits h.order h.srid first.srid_field (AreBytes-rest first.code_field first.srid_field behind) first.srid

pub front_srid : (input : List ℕ) (s : Spelling) (t : Value) (rest : List ℕ) → AreBytes input → Front input s t rest
    → IsForm (Ewkb (header s).srid)
front_srid input s t rest b f = outer_fits s t f.front (front_bytes input s t rest b f) f.spelled

pub same_dimension : (d : Dimension) → written_dimension (as_dimensions d) ≡ d
same_dimension d = ap (λ z. unwrap_or z Xy) (named_dimension_lem d)

pub same_point : (d : Dimension) (c : Option Coordinate) → IsValuePoint d c → normal_point c ≡ c
same_point d c h = grind arith

same_points : (d : Dimension) (l : List (Option Coordinate)) → AllByRecursion (IsValuePoint d) l
    → map normal_point l ≡ l
same_points d [] h = refl
same_points d (c ∷ l) h = λ i. same_point d c h.0 i ∷ same_points d l h.1 i

-- a value is the normal value of itself
mutual
  pub normal-geometry_of : (t : Value) → IsValue t → normal (geometry_of t) ≡ t
  normal-geometry_of (point d c) h = λ i. point (same_dimension d i) (same_point d c h i)
  normal-geometry_of (multi_point d l) h = λ i. multi_point (same_dimension d i) (same_points d l h i)
  normal-geometry_of (collection d ts) h = λ i. collection (same_dimension d i) (normal-geometries_of ts h i)
  normal-geometry_of _ h = rw same_dimension

  pub normal-geometries_of : (ts : Values) → AreValues ts → normal_each (geometries_of ts) ≡ ts
  normal-geometries_of no_members h = refl
  normal-geometries_of (member t ts) h = λ i. member (normal-geometry_of t h.0 i) (normal-geometries_of ts h.1 i)

-- a value is a lawful geometry of a caller's
coordinate_lawful : (d : Dimension) (c : Coordinate) → IsValueCoordinate d c → geometry.IsCoordinate (as_dimensions d) c
coordinate_lawful d c h = grind arith

point_lawful : (d : Dimension) (c : Option Coordinate) → IsValuePoint d c → geometry.IsPoint (as_dimensions d) c
point_lawful d c h = grind arith

mutual
  pub lawful-geometry_of : (t : Value) → IsValue t → geometry.IsGeometry (geometry_of t)
  lawful-geometry_of (point d c) h = point_lawful d c h
  lawful-geometry_of (line_string d cs) h = all_imply _ _ (coordinate_lawful d) cs h
  lawful-geometry_of (polygon d rings) h = lists_imply _ _ (coordinate_lawful d) rings h
  lawful-geometry_of (multi_point d l) h = all_imply _ _ (point_lawful d) l h
  lawful-geometry_of (multi_line_string d l) h = lists_imply _ _ (coordinate_lawful d) l h
  lawful-geometry_of (multi_polygon d l) h = all_imply _ _ (lists_imply _ _ (coordinate_lawful d)) l h
  lawful-geometry_of (collection d ts) h = lawful-geometries_of ts h

  pub lawful-geometries_of : (ts : Values) → AreValues ts → geometry.AreGeometries (geometries_of ts)
  lawful-geometries_of no_members h = tt
  lawful-geometries_of (member t ts) h = (lawful-geometry_of t h.0, lawful-geometries_of ts h.1)
