-- The encoding that is written spells the normal value.
use Rattle.std.proofs.lemmas.Grind.{common_steps}
use Rattle.std.proofs.Common.{rules, true, false, refl, arith, is_some, append-nil, length, replicate, Option, flat_map}
use Rattle.std.proofs.Common.{◌≡◌, ℕ, ◌<◌, ◌≤◌, ◌^◌, [], sym, ap, ◌∙◌, ◌+◌, List, ◌∷◌, ◌++◌, map, Some, None, lit≤}
use Rattle.std.proofs.lemmas.List.{length-map}
use Rattle.std.specs.List.{AllByRecursion}
use Rattle.std.proofs.lemmas.Bool.Decides.{nat_tests}
use Rattle.byteorder.specs.Numbers.{big_number-reads_back, little_number-reads_back, length-bytes_high_first}
use Rattle.byteorder.specs.Numbers.{length-bytes_low_first}
use Rattle.byteorder.specs.Endian.{big_number, little_number}
use Rattle.wkb_laws.specs.Prelude.{Xy, written_dimension, SpellsCoordinates, coordinates_encoding, line_string_encoding}
use Rattle.wkb_laws.specs.Prelude.{SpellsCoordinate, member_part, polygon_encoding, members_encoding, coordinates_fault}
use Rattle.wkb_laws.specs.Prelude.{rectangle_ring, header_encoding, words_encoding, count_geometries, dimensions_fault}
use Rattle.wkb_laws.specs.Prelude.{IsNumber, no_geometries, AreGeometries, triangle_ring, srid_encoding, point_encoding}
use Rattle.wkb_laws.specs.Prelude.{LittleEndian, number_bytes, no_spellings, normal_point, normal_each, point_words}
use Rattle.wkb_laws.specs.Prelude.{Endianness, BigEndian, Dimensions, empty_word, count_fault, first_fault, rings_fault}
use Rattle.wkb_laws.specs.Prelude.{Dimension, Coordinate, SpellsBody, SpellsEach, Geometries, IsGeometry, fault_each}
use Rattle.wkb_laws.specs.Prelude.{form_srid, IsCounted, dimension, Spelling, Spellings, IsHeader, rectangle, encodings}
use Rattle.wkb_laws.specs.Prelude.{code_of, all_nan, members, has_srid, Geometry, triangle, geometry, encoding, or_else}
use Rattle.wkb_laws.specs.Prelude.{number, IsWord, width, IsEach, Value, IsSrid, Wanted, IsPart, Spells, normal, IsForm}
use Rattle.wkb_laws.specs.Prelude.{Form, Iso, Ewkb, each, kind, count, node, any, part, line, inner, fault, Fault}
use Rattle.wkb_geom.specs.Values as value
use Rattle.wkb_geom.specs.Geometries.{point, line_string, polygon, multi_point, multi_line_string, multi_polygon}
use Rattle.wkb_geom.specs.Geometries.{collection, IsCoordinate, IsPoint}
use Rattle.wkb_laws.specs.Written.{written_header, empty_words, each_spelling, written_point, written_plain, written}
use Rattle.wkb_laws.specs.Written.{written_each, HasOptions, AllHaveOptions}
use Rattle.wkb_laws.proofs.Lists.{all_imply, lists_imply}
use Rattle.wkb_laws.proofs.Values.{or_else_parts, width-written_dimension, GoodLine, GoodRings, or_else_three}
use Rattle.wkb_laws.proofs.Parts.{joined}

-- a number's bytes stand for it
pub IsNumber-number_bytes : (order : Endianness) (n x : ℕ) → x < 256 ^ n → IsNumber order n x (number_bytes order n x)
unfolding number number_bytes
IsNumber-number_bytes BigEndian n x h =
    record {
      len = length-bytes_high_first n x;
      value = ap (big_number n) (sym (append-nil (number_bytes BigEndian n x))) ∙ big_number-reads_back n x [] h;
    }
IsNumber-number_bytes LittleEndian n x h = record {
  len = length-bytes_low_first 0 n x;
  value = ap (little_number n) (sym (append-nil (number_bytes LittleEndian n x))) ∙ little_number-reads_back n x [] h;
}

count_fits : (n : ℕ) → count_fault n ≡ None → n < 256 ^ 4
unfolding count_fault
count_fits n e = grind (arith, nat_tests)

-- a list of items, each with an encoding that spells it
module _ {A : Type 0} (P : A → List ℕ → Type 0) (f : A → List ℕ) (good : A → Type 0)
    (one : (a : A) → good a → P a (f a)) where
  IsEach-flat_map : (l : List A) → AllByRecursion good l → IsEach P l (flat_map f l)
  IsEach-flat_map [] h = refl
  IsEach-flat_map (a ∷ l) h = joined (f a) (flat_map f l) (one a h.0) (IsEach-flat_map l h.1)

  IsCounted-encoding : (order : Endianness) (l : List A) → count_fault (length l) ≡ None → AllByRecursion good l
      → IsCounted order P l (number_bytes order 4 (length l) ++ flat_map f l)
  IsCounted-encoding order l fits h =
      joined _ _ (IsNumber-number_bytes order 4 (length l) (count_fits (length l) fits)) (IsEach-flat_map l h)

-- no item of a list is at fault
all_good : {A : Type 0} (P : A → Type 0) (f : A → Option Fault) (l : List A) → AllByRecursion P l
    → first_fault f l ≡ None
    → AllByRecursion (λ a. P a × (f a ≡ None)) l
unfolding first_fault
all_good P f [] h e = tt
all_good P f (a ∷ l) h e =
    let both = or_else_parts (f a) (first_fault f l) e in ((h.0, both.0), all_good P f l h.1 both.1)

-- the empty word is a NaN
empty_coordinate : (d : Dimension)
    → (all_nan (replicate (width d) empty_word) ≡ true) × value.IsValueCoordinate d (replicate (width d) empty_word)
empty_coordinate d = grind arith

-- a coordinate of the right length, if there is one
abbrev MayHave : Dimension → Option Coordinate → Type 0
MayHave d None = Unit {0}
MayHave d (Some c) = value.IsValueCoordinate d c

module _ (order : Endianness) where
  SpellsCoordinate-encoding : (d : Dimension) (c : Coordinate) → value.IsValueCoordinate d c
      → SpellsCoordinate order d c (words_encoding order c)
  unfolding words_encoding
  SpellsCoordinate-encoding d c h =
      record {
        len = h.len;
        words =
            IsEach-flat_map (IsNumber order 8) (number_bytes order 8) IsWord (IsNumber-number_bytes order 8) c h.words;
      }

  SpellsCoordinates-encoding : (d : Dimension) (cs : List Coordinate) → GoodLine d cs
      → SpellsCoordinates order d cs (coordinates_encoding order cs)
  unfolding coordinates_encoding
  SpellsCoordinates-encoding d cs good =
      IsCounted-encoding (SpellsCoordinate order d) (words_encoding order) (value.IsValueCoordinate d)
      (SpellsCoordinate-encoding d) order cs good.1 good.0

  point_body : (d : Dimension) (c : Option Coordinate) → MayHave d c
      → SpellsBody order (empty_words d c) (value.point d (normal_point c)) (words_encoding order (point_words d c))
  unfolding point_words
  point_body d None fits = let empty = empty_coordinate d in (empty.0, SpellsCoordinate-encoding d _ empty.1)
  point_body d (Some c) fits = grind (arith, SpellsCoordinate-encoding d c fits)

IsSrid-encoding : (order : Endianness) (form : Form) → IsForm form
    → IsSrid order (form_srid form) (srid_encoding order (form_srid form))
unfolding srid_encoding
IsSrid-encoding order Iso h = refl
IsSrid-encoding order (Ewkb None) h = refl
IsSrid-encoding order (Ewkb (Some srid)) h = IsNumber-number_bytes order 4 srid h

module _ (order : Endianness) (form : Form) (h : IsForm form) where
  IsHeader-encoding : (k : ℕ) (d : Dimension) → 1 ≤ k → k ≤ 7
      → IsHeader (written_header order form k d) k d (header_encoding order form k d)
  unfolding header_encoding code_of
  IsHeader-encoding k d low high = record {
    code_field = number_bytes order 4 (code_of form k d);
    srid_field = srid_encoding order (form_srid form);
    whole = refl;
    code = IsNumber-number_bytes order 4 (code_of form k d) (grind arith);
    meaning = grind arith;
    srid = IsSrid-encoding order form h;
  }

  -- a geometry: its header, its body up to its members, and these
  all_spells : (own : List ℕ) (ss : Spellings) (t : Value) (body inside behind : List ℕ) → 1 ≤ kind t → kind t ≤ 7
      → behind ≡ body ++ inside
      → SpellsBody order own t body → SpellsEach (member_part (kind t) (dimension t)) ss (members t) inside
      → Spells (node (written_header order form (kind t) (dimension t)) own ss) t
      (header_encoding order form (kind t) (dimension t) ++ behind)
  all_spells own ss t body inside behind low high whole first second =
      joined _ behind (IsHeader-encoding (kind t) (dimension t) low high)
      (record { front = body; rest = inside; whole = whole; first = first; second = second })

  point_spells : (d : Dimension) (c : Option Coordinate) → MayHave d c
      → Spells (written_point order form d c) (value.point d (normal_point c)) (point_encoding order form d c)
  unfolding point_encoding
  point_spells d c fits =
      all_spells (empty_words d c) no_spellings (value.point d (normal_point c)) _ [] _ (lit≤ tt) (lit≤ tt)
      (sym (append-nil _))
      (point_body order d c fits) refl

  line_string_spells : (d : Dimension) (cs : List Coordinate) → GoodLine d cs
      → Spells (written_plain order form 2 d) (value.line_string d cs) (line_string_encoding order form d cs)
  unfolding line_string_encoding
  line_string_spells d cs good =
      all_spells [] no_spellings (value.line_string d cs) (coordinates_encoding order cs) [] _ (lit≤ tt) (lit≤ tt)
      (sym (append-nil _))
      (refl, SpellsCoordinates-encoding order d cs good) refl

  polygon_spells : (d : Dimension) (rings : List (List Coordinate)) → GoodRings d rings
      → Spells (written_plain order form 3 d) (value.polygon d rings) (polygon_encoding order form d rings)
  unfolding polygon_encoding
  polygon_spells d rings good =
      let parts = or_else_parts _ _ good.1 in
      let each_good = all_good (value.AreValueCoordinates d) coordinates_fault rings good.0 parts.1 in
      all_spells [] no_spellings (value.polygon d rings) _ [] _ (lit≤ tt) (lit≤ tt) (sym (append-nil _)) (
        refl,
        IsCounted-encoding (SpellsCoordinates order d) (coordinates_encoding order) (GoodLine d)
            (SpellsCoordinates-encoding order d) order rings parts.0 each_good,
      ) refl

  -- a geometry with members
  list_spells : (t : Value) (n : ℕ) (ss : Spellings) (inside : List ℕ) → 1 ≤ kind t → kind t ≤ 7
      → SpellsBody order [] t (number_bytes order 4 n)
      → SpellsEach (member_part (kind t) (dimension t)) ss (members t) inside
      → Spells (node (written_header order form (kind t) (dimension t)) [] ss) t
      (members_encoding order form (kind t) (dimension t) n inside)
  unfolding members_encoding
  list_spells t n ss inside low high body each = grind (arith, all_spells)

-- a list of members, each with an encoding that spells it
members_spell : {A : Type 0} (w : Wanted) (f : A → Value) (spell : A → Spelling) (t : A → List ℕ) (good : A → Type 0)
    → ((a : A) → good a → Spells (spell a) (f a) (t a) × IsPart w (kind (f a)) (dimension (f a)) (has_srid (spell a)))
    → (l : List A) → AllByRecursion good l → SpellsEach w (each_spelling spell l) (each f l) (flat_map t l)
members_spell w f spell t good one [] h = refl
members_spell w f spell t good one (a ∷ l) h = joined (t a) _ (one a h.0) (members_spell w f spell t good one l h.1)

pub inner_fits : (form : Form) → IsForm (inner form) × (is_some (form_srid (inner form)) ≡ false)
inner_fits form = grind arith

-- a coordinate of a caller's geometry has as many words as the dimension's name says
module _ (dims : Dimensions) (e : dimensions_fault dims ≡ None) where
  coordinate_fits : (c : Coordinate) → IsCoordinate dims c → value.IsValueCoordinate (written_dimension dims) c
  coordinate_fits c h = record { len = h.len ∙ sym (width-written_dimension dims e); words = h.words }

  point_fits : (c : Option Coordinate) → IsPoint dims c → MayHave (written_dimension dims) c
  point_fits c h = grind (arith, coordinate_fits)

rectangle_fits : (l g : Coordinate) → AllByRecursion IsWord l → AllByRecursion IsWord g
    → value.AreValueCoordinates Xy (rectangle_ring l g)
rectangle_fits l g h k = grind (arith, common_steps)

-- the members after a map
each-map : {A B : Type 0} (f : B → Value) (g : A → B) (l : List A) → each f (map g l) ≡ each (λ a. f (g a)) l
each-map f g [] = refl
each-map f g (a ∷ l) = ap (value.member (f (g a))) (each-map f g l)

count_normal_each : (gs : Geometries) → count (normal_each gs) ≡ count_geometries gs
count_normal_each no_geometries = refl
count_normal_each (geometry g gs) = ap (λ n. 1 + n) (count_normal_each gs)

mutual
  unfolding count_fault first_fault or_else

  pub encoding_spells : (order : Endianness) (form : Form) (g : Geometry) → IsForm form → IsGeometry g → fault g ≡ None
      → Spells (written order form g) (normal g) (encoding order form g)
  encoding_spells order form (point dims c) h good e =
      point_spells order form h (written_dimension dims) c (point_fits dims e c good)
  encoding_spells order form (line_string dims cs) h good e =
      let parts = or_else_parts _ _ e in
      line_string_spells order form h _ cs (all_imply _ _ (coordinate_fits dims parts.0) cs good, parts.1)
  encoding_spells order form (polygon dims rings) h good e =
      let parts = or_else_parts _ _ e in
      polygon_spells order form h _ rings (lists_imply _ _ (coordinate_fits dims parts.0) rings good, parts.1)
  encoding_spells order form (multi_point dims points) h good e =
      let parts = or_else_parts _ _ e in
      let d = written_dimension dims in
      let inside = inner_fits form in
      list_spells order form h (normal (multi_point dims points)) (length points) _ _ (lit≤ tt) (lit≤ tt)
      (refl, rw length-map (IsNumber-number_bytes order 4 (length points) (count_fits _ parts.1)))
      (rw each-map (members_spell (part 1 d) (λ c. value.point d (normal_point c))
      (written_point order (inner form) d) (point_encoding order (inner form) d) (MayHave d)
      (λ c fits. (point_spells order (inner form) inside.0 d c fits, (refl, refl, λ one. inside.1))) points
      (all_imply _ _ (point_fits dims parts.0) points good)))
  encoding_spells order form (multi_line_string dims lines) h good e =
      let parts = or_else_three e in
      let d = written_dimension dims in
      let inside = inner_fits form in
      list_spells order form h (normal (multi_line_string dims lines)) (length lines) _ _ (lit≤ tt) (lit≤ tt)
      (refl, IsNumber-number_bytes order 4 (length lines) (count_fits _ parts.1))
      (members_spell (part 2 d) (value.line_string d)
      (λ l. written_plain order (inner form) 2 d) (line_string_encoding order (inner form) d) (GoodLine d)
      (λ cs fits. (line_string_spells order (inner form) inside.0 d cs fits, (refl, refl, λ one. inside.1)))
      lines (all_good _ coordinates_fault lines (lists_imply _ _ (coordinate_fits dims parts.0) lines good) parts.2))
  encoding_spells order form (multi_polygon dims polygons) h good e =
      let parts = or_else_three e in
      let d = written_dimension dims in
      let inside = inner_fits form in
      let fits = lists_imply _ _ (coordinate_fits dims parts.0) in
      list_spells order form h (normal (multi_polygon dims polygons)) (length polygons) _ _ (lit≤ tt) (lit≤ tt)
      (refl, IsNumber-number_bytes order 4 (length polygons) (count_fits _ parts.1))
      (members_spell (part 3 d) (value.polygon d)
      (λ p. written_plain order (inner form) 3 d) (polygon_encoding order (inner form) d) (GoodRings d)
      (λ rings fits. (polygon_spells order (inner form) inside.0 d rings fits, (refl, refl, λ one. inside.1)))
      polygons (all_good _ rings_fault polygons (all_imply _ _ fits polygons good) parts.2))
  encoding_spells order form (collection dims gs) h good e =
      let parts = or_else_three e in
      list_spells order form h (normal (collection dims gs)) (count_geometries gs) _ _ (lit≤ tt) (lit≤ tt)
      (refl, rw (count_normal_each gs) (IsNumber-number_bytes order 4 (count_geometries gs) (count_fits _ parts.1)))
      (encodings_spell order (inner form) gs (inner_fits form).0 good parts.2)
  encoding_spells order form (line dims start end) h good e =
      let fits = coordinate_fits dims e in
      line_string_spells order form h (written_dimension dims) (start ∷ end ∷ [])
      ((fits start good.0, (fits end good.1, tt)), refl)
  encoding_spells order form (rectangle dims least greatest) h good e =
      polygon_spells order form h Xy (rectangle_ring least greatest ∷ [])
      ((rectangle_fits least greatest (good.0).words (good.1).words, tt), refl)
  encoding_spells order form (triangle dims first second third) h good e =
      let fits = coordinate_fits dims e in
      let start = fits first good.0 in
      polygon_spells order form h (written_dimension dims) (triangle_ring first second third ∷ [])
      (((start, (fits second good.1, (fits third good.2, (start, tt)))), tt), refl)

  pub encodings_spell : (order : Endianness) (form : Form) (gs : Geometries) → IsForm form → AreGeometries gs
      → fault_each gs ≡ None
      → SpellsEach any (written_each order form gs) (normal_each gs) (encodings order form gs)
  encodings_spell order form no_geometries h good e = refl
  encodings_spell order form (geometry g gs) h good e =
      let parts = or_else_parts _ _ e in
      let first = encoding_spells order form g h good.0 parts.0 in
      joined _ _ (first, tt) (encodings_spell order form gs h good.1 parts.1)

each_has_options : {A : Type 0} (order : Endianness) (form : Form) (f : A → Spelling)
    → ((a : A) → HasOptions order form (f a)) → (l : List A)
    → AllHaveOptions order form (each_spelling f l)
each_has_options order form f one [] = tt
each_has_options order form f one (a ∷ l) = (one a, each_has_options order form f one l)

ruleset options_rules = (rules, each_has_options)

mutual
  pub written_has_options : (order : Endianness) (form : Form) (g : Geometry)
      → HasOptions order form (written order form g)
  written_has_options order form (collection dims gs) = (refl, refl, written_each_has_options order (inner form) gs)
  written_has_options order form _ = (refl, refl, search options_rules)

  pub written_each_has_options : (order : Endianness) (form : Form) (gs : Geometries)
      → AllHaveOptions order form (written_each order form gs)
  written_each_has_options order form no_geometries = tt
  written_each_has_options order form (geometry g gs) =
      (written_has_options order form g, written_each_has_options order form gs)
