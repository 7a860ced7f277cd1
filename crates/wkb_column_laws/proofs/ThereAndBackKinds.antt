-- The singles of a geometry: what its subjects give each level, and the geometry that they mean.
use Rattle.std.proofs.Common.{lt-ltb, ◌-◌, map, flat_map, sum}
use Rattle.wkb_abi.proofs.Common.{◌≡◌, ℕ, ◌<◌, List, [], ◌∷◌, ◌++◌, length, Option, Some, None, refl, arith, append-nil}
use Rattle.wkb_abi.proofs.Common.{Dimension, width, Coordinate, Spelling, node, Spellings, no_spellings, spelling}
use Rattle.wkb_abi.proofs.Common.{Spells, SpellsEach, SpellsBody, Value, Values, point, line_string, polygon}
use Rattle.wkb_abi.proofs.Common.{multi_point, multi_line_string, Header, multi_polygon, collection, no_members, member}
use Rattle.wkb_abi.proofs.Common.{members, kind, dimension, SpellsCoordinate, SpellsCoordinates, Endianness}
use Rattle.std.specs.List.{AllByRecursion}
use Rattle.std.proofs.lemmas.List.{map-append, length-map, map-id}
use Rattle.std.proofs.lemmas.List.Concat.{flat_map-append}
use Rattle.wkb_laws.specs.Prelude.{as_dimensions, IsEach, Wanted, part, member_part, each, Xy, Xyz, Xym, Xyzm}
use Rattle.wkb_check.specs.Subjects.{Subject, whole, ring, subjects, subjects_of_rings, subjects_of_each, dimension_in}
use Rattle.wkb_check.specs.Subjects.{subject_coordinates, rings_of}
use Rattle.wkb_levels.specs.Cuts.{only_each}
use Rattle.wkb_levels.specs.Meant.{kind_meant}
use Rattle.wkb_levels.specs.declared.row.Kind.{Kind}
use Rattle.wkb_levels.specs.declared.row.Kind.TheVariants as kinds
use Rattle.wkb_abi.specs.Coordinates.{words_asked, asked_subject_words, ring_counts, single_counts}
use Rattle.wkb_abi.specs.LevelTargets.{kind_named}
use Rattle.wkb_column_laws.specs.ThereAndBack.{point_spelled, points_spelled, as_spelled}
use Rattle.wkb_column_laws.proofs.ThereAndBackLevels.{joined, sizes_of, sizes_sum, AreWide}

-- the singles of a geometry, each with its rings
abbrev mutual
  pub singles_in : Spelling → Value → List (List (List Coordinate))
  singles_in s (point d c) = ((point_spelled s c ∷ []) ∷ []) ∷ []
  singles_in s (line_string d cs) = (cs ∷ []) ∷ []
  singles_in s (polygon d rings) = rings ∷ []
  singles_in (node h words ss) t = singles_of_each ss (members t)

  pub singles_of_each : Spellings → Values → List (List (List Coordinate))
  singles_of_each ss no_members = []
  singles_of_each no_spellings (member t ts) = []
  singles_of_each (spelling s ss) (member t ts) = singles_in s t ++ singles_of_each ss ts

-- ---- what subjects give each level

-- these subjects give these singles
abbrev pub Give : List Subject → List (List (List Coordinate)) → Type 0
Give xs singles =
    (flat_map single_counts xs ≡ sizes_of singles)
    × (flat_map ring_counts xs ≡ sizes_of (joined singles))
    × (flat_map subject_coordinates xs ≡ joined (joined singles))

-- singles behind singles
give_both : (xs ys : List Subject) (s u : List (List (List Coordinate))) → Give xs s → Give ys u
    → Give (xs ++ ys) (s ++ u)
give_both xs ys s u a b = grind (arith, flat_map-append, map-append)

-- rings are no singles
rings_give : (order : Endianness) (d : Dimension) (rings : List (List Coordinate))
    → (flat_map single_counts (subjects_of_rings order d rings) ≡ [])
    × (flat_map ring_counts (subjects_of_rings order d rings) ≡ sizes_of rings)
    × (flat_map subject_coordinates (subjects_of_rings order d rings) ≡ joined rings)
rings_give order d [] = (refl, refl, refl)
rings_give order d (cs ∷ rings) = grind (arith, rings_give order d rings)

mutual
  -- a geometry gives its singles
  pub gives : (s : Spelling) (t : Value) → Give (subjects s t) (singles_in s t)
  gives (node h words ss) (point d None) = (refl, refl, refl)
  gives (node h words ss) (point d (Some c)) = (refl, refl, refl)
  gives (node h words ss) (line_string d cs) = (refl, refl, refl)
  gives (node h words ss) (polygon d rings) =
      let own = rings_give h.order d rings in (
        rw (append-nil (subjects_of_rings h.order d rings), own.0),
        rw (append-nil (subjects_of_rings h.order d rings), append-nil rings) own.1,
        rw (append-nil (subjects_of_rings h.order d rings), append-nil rings) own.2,
      )
  gives (node h words ss) t = each_gives ss (members t)

  each_gives : (ss : Spellings) (ts : Values) → Give (subjects_of_each ss ts) (singles_of_each ss ts)
  each_gives ss no_members = (refl, refl, refl)
  each_gives no_spellings (member t ts) = (refl, refl, refl)
  each_gives (spelling s ss) (member t ts) =
      give_both (subjects s t) (subjects_of_each ss ts) (singles_in s t) (singles_of_each ss ts) (gives s t)
      (each_gives ss ts)

-- the singles of a geometry have as many rings as there are
pub counted : (s : Spelling) (t : Value)
    → sum (flat_map single_counts (subjects s t)) ≡ length (flat_map ring_counts (subjects s t))
counted s t = let g = gives s t in rw (g.0, g.1, sizes_sum (singles_in s t), length-map (joined (singles_in s t)))

-- ---- their words, in their own dimension

-- a coordinate has all the words that are asked for
all_asked : (d : Dimension) (c : Coordinate) → length c ≡ width d → words_asked d d c ≡ c
all_asked Xy (x ∷ y ∷ []) h = refl
all_asked Xyz (x ∷ y ∷ z ∷ []) h = refl
all_asked Xym (x ∷ y ∷ m ∷ []) h = refl
all_asked Xyzm (x ∷ y ∷ z ∷ m ∷ []) h = refl
all_asked _ _ h = absurd (omega (arith, h))

-- so have coordinates one behind another
coordinate_words : (d : Dimension) (cs : List Coordinate) → AreWide (width d) cs
    → flat_map (words_asked d d) cs ≡ joined cs
coordinate_words d [] wide = refl
coordinate_words d (c ∷ cs) wide = λ i. all_asked d c wide.0 i ++ coordinate_words d cs wide.1 i

-- the words that these subjects give in this dimension are those of these coordinates
pub record HaveWords (d : Dimension) (xs : List Subject) (cs : List Coordinate) : Type 0 where
  pub words_are : flat_map (asked_subject_words d) xs ≡ joined cs
  pub wide : AreWide (width d) cs

-- as they do of their own
abbrev HaveOwnWords : Dimension → List Subject → Type 0
HaveOwnWords d xs = HaveWords d xs (flat_map subject_coordinates xs)

-- what each of two lists has, both have
all_both : {A : Type 0} (P : A → Type 0) (xs ys : List A) → AllByRecursion P xs → AllByRecursion P ys
    → AllByRecursion P (xs ++ ys)
all_both P [] ys a b = b
all_both P (x ∷ xs) ys a b = (a.0, all_both P xs ys a.1 b)

-- no subjects have no words
words_none : (d : Dimension) → HaveOwnWords d []
words_none d = record { words_are = refl; wide = tt }

-- the words of subjects behind others
words_both : {d : Dimension} (xs ys : List Subject) → HaveOwnWords d xs → HaveOwnWords d ys
    → HaveOwnWords d (xs ++ ys)
words_both xs ys a b = grind (arith, flat_map-append, all_both)

-- the words of one subject more
words_more : (d : Dimension) (x : Subject) (xs : List Subject) → dimension_in x ≡ d
    → AreWide (width d) (subject_coordinates x) → HaveOwnWords d xs → HaveOwnWords d (x ∷ xs)
words_more d x xs dimension_is wide others = grind (arith, flat_map-append, coordinate_words, all_both)

-- what bytes spell has
each_wide : (order : Endianness) (d : Dimension) (cs : List Coordinate) (bytes : List ℕ)
    → IsEach (SpellsCoordinate order d) cs bytes → AreWide (width d) cs
each_wide order d [] bytes h = tt
each_wide order d (c ∷ cs) bytes h = (h.first.len, each_wide order d cs h.rest h.second)

-- the rings of a polygon
rings_words : (order : Endianness) (d : Dimension) (rings : List (List Coordinate)) (bytes : List ℕ)
    → IsEach (SpellsCoordinates order d) rings bytes → HaveOwnWords d (subjects_of_rings order d rings)
rings_words order d [] bytes h = words_none d
rings_words order d (cs ∷ rings) bytes h =
    words_more d (ring order d cs) _ refl (each_wide order d cs h.first.rest h.first.second)
    (rings_words order d rings h.rest h.second)

-- a geometry with its own rings
head_words : (h : Header) (words : List ℕ) (ss : Spellings) (t : Value) (bytes : List ℕ)
    → SpellsBody h.order words t bytes
    → HaveOwnWords (dimension t) (whole (node h words ss) t ∷ subjects_of_rings h.order (dimension t) (rings_of t))
head_words h words ss (point d None) bytes b = words_more d _ [] refl (b.1.len, tt) (words_none d)
head_words h words ss (point d (Some c)) bytes b = words_more d _ [] refl (b.2.len, tt) (words_none d)
head_words h words ss (line_string d cs) bytes b =
    words_more d _ [] refl (each_wide h.order d cs b.1.rest b.1.second) (words_none d)
head_words h words ss t bytes b = grind (arith, words_more, rings_words, dimension, words_none)

mutual
  -- a geometry that is no collection, and members of one kind
  own_words : (s : Spelling) (t : Value) (bytes : List ℕ) → kind t < 7 → Spells s t bytes
      → HaveOwnWords (dimension t) (subjects s t)
  own_words (node h words ss) t bytes low spelled =
      let same : member_part (kind t) (dimension t) ≡ part (kind t - 3) (dimension t) = rw (lt-ltb (kind t) 7 low) in
      words_both (whole (node h words ss) t ∷ subjects_of_rings h.order (dimension t) (rings_of t))
      (subjects_of_each ss (members t)) (head_words h words ss t spelled.second.front spelled.second.first)
      (each_words (kind t - 3) (dimension t) ss (members t) spelled.second.rest (omega (arith, low))
      (rw same at spelled.second.second))

  each_words : (k : ℕ) (d : Dimension) (ss : Spellings) (ts : Values) (bytes : List ℕ) → k < 7
      → SpellsEach (part k d) ss ts bytes → HaveOwnWords d (subjects_of_each ss ts)
  each_words k d ss no_members bytes low spelled = words_none d
  each_words k d no_spellings (member t ts) bytes low spelled = absurd spelled
  each_words k d (spelling s ss) (member t ts) bytes low spelled =
      let wanted = spelled.first.1 in
      words_both (subjects s t) (subjects_of_each ss ts)
      (rw wanted.1 at (own_words s t spelled.front (omega (arith, low, wanted.0)) spelled.first.0))
      (each_words k d ss ts spelled.rest low spelled.second)

-- so a geometry that is no collection gives those of its singles
pub have_words : (s : Spelling) (t : Value) (bytes : List ℕ) → kind t < 7 → Spells s t bytes
    → HaveWords (dimension t) (subjects s t) (joined (joined (singles_in s t)))
have_words s t bytes low spelled = grind (arith, dimension, gives, own_words)

-- ---- what the singles mean

-- lists of one item each are their items
only_ones : {A : Type 0} (xs : List A) → only_each (map (λ a. a ∷ []) xs) ≡ Some xs
only_ones [] = refl
only_ones (x ∷ xs) = rw (only_ones xs)

-- points, by their words
points_in : (w : Wanted) (d : Dimension) (ss : Spellings) (points : List (Option Coordinate)) (bytes : List ℕ)
    → SpellsEach w ss (each (point d) points) bytes
    → singles_of_each ss (each (point d) points) ≡ map (λ r. r ∷ []) (map (λ c. c ∷ []) (points_spelled ss points))
points_in w d ss [] bytes spelled = refl
points_in w d no_spellings (c ∷ points) bytes spelled = absurd spelled
points_in w d (spelling s ss) (c ∷ points) bytes spelled = rw (points_in w d ss points spelled.rest spelled.second)

-- members that are one single each, whatever their spellings
members_in : {A : Type 0} (f : A → Value) (single : A → List (List Coordinate))
    → ((s : Spelling) (a : A) → singles_in s (f a) ≡ single a ∷ []) → (w : Wanted) (ss : Spellings) (xs : List A)
    (bytes : List ℕ) → SpellsEach w ss (each f xs) bytes → singles_of_each ss (each f xs) ≡ map single xs
members_in f single one w ss [] bytes spelled = refl
members_in f single one w no_spellings (a ∷ xs) bytes spelled = absurd spelled
members_in f single one w (spelling s ss) (a ∷ xs) bytes spelled =
    rw (one s a, members_in f single one w ss xs spelled.rest spelled.second)

-- the number of the kind names it, and as this kind the singles mean what the bytes spell
pub record Means (s : Spelling) (t : Value) : Type 0 where
  pub kind_is : Kind
  pub named : kind_named (kind t) ≡ Some kind_is
  pub meant : kind_meant kind_is (as_dimensions (dimension t)) (singles_in s t) ≡ Some (as_spelled s t)

-- of a geometry that is no collection they do
pub singles_mean : (s : Spelling) (t : Value) (bytes : List ℕ) → kind t < 7 → Spells s t bytes → Means s t
singles_mean s (point d c) bytes low spelled = record { kind_is = kinds.Point; named = refl; meant = refl }
singles_mean s (line_string d cs) bytes low spelled = grind arith
singles_mean s (polygon d rings) bytes low spelled = record { kind_is = kinds.Polygon; named = refl; meant = refl }
singles_mean (node h words ss) (multi_point d points) bytes low spelled = grind (arith, points_in, only_ones)
singles_mean (node h words ss) (multi_line_string d lines) bytes low spelled =
    let are = members_in (line_string d) (λ cs. cs ∷ []) (λ s cs. refl) _ ss lines _ spelled.second.second in
    record { kind_is = kinds.MultiLineString; named = refl; meant = rw (are, only_ones lines) }
singles_mean (node h words ss) (multi_polygon d polygons) bytes low spelled =
    let are = members_in (polygon d) (λ r. r) (λ s rings. refl) _ ss polygons _ spelled.second.second in
    record { kind_is = kinds.MultiPolygon; named = refl; meant = rw (are, map-id polygons) }
singles_mean s (collection d ts) bytes low spelled = absurd (omega (arith, low))
