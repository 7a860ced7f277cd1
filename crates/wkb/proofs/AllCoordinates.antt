-- Lemmas: all coordinates of a value fit its one dimension, are in their words, and can be written as points.
use Rattle.std.proofs.Common.{◌≡◌, ℕ, ◌+◌, ◌*◌, ◌%◌, ◌<◌, ◌≤◌, ◌^◌, List, [], ◌∷◌, ◌++◌, flat_map, length, Option, Some}
use Rattle.std.proofs.Common.{None, Bool, refl, sym, arith, if◌then◌else◌, length-append, is_some, lt-ltb}
use Rattle.std.specs.List.{AllByRecursion}
use Rattle.std.proofs.Math.Nat.{mul-div_cancel, mul-mod_left, suc-mul, zero-mul}
use Rattle.std.proofs.Math.Seq.{take-append_seam, drop-append_seam}
use Rattle.wkb.specs.Prelude.{Dimension, Dimensions, as_dimensions, size}
use Rattle.wkb.specs.Values.{Coordinate, Value, Values, point, line_string, polygon, multi_point, multi_line_string}
use Rattle.wkb.specs.Values.{multi_polygon, collection, no_members, member}
use Rattle.wkb.specs.Geometries.{AreCoordinates, IsPoint, IsGeometry, AreGeometries, geometry_of, geometries_of}
use Rattle.wkb.specs.Geometries.{multi_point as points_of}
use Rattle.wkb.specs.Encodings.{Fault, IsForm, fault, form_srid, fault_of, or_else, dimensions_fault, count_fault}
use Rattle.wkb.specs.Encodings.{size_fault}
use Rattle.wkb.specs.Plain.{runs, coordinates_in}
use Rattle.wkb.specs.Writes.{WriteOptions}
use Rattle.wkb.specs.Known.{encoding_has_size}
use Rattle.wkb.specs.Lawful.{has_two}
use Rattle.wkb.specs.Coordinates.{of_point, of_parts, coordinates_of, coordinates_of_each, words_of, HasOnly, HaveOnly}

-- ---- every coordinate fits the dimension

module _ (dims : Dimensions) where
  both_fit : (xs ys : List Coordinate) → AreCoordinates dims xs → AreCoordinates dims ys
      → AreCoordinates dims (xs ++ ys)
  both_fit [] ys h g = g
  both_fit (x ∷ xs) ys h g = (h.0, both_fit xs ys h.1 g)

  each_fits : {A : Type 0} (f : A → List Coordinate) (P : A → Type 0) → ((a : A) → P a → AreCoordinates dims (f a))
      → (xs : List A) → AllByRecursion P xs → AreCoordinates dims (flat_map f xs)
  each_fits f P law [] all = tt
  each_fits f P law (x ∷ xs) all = both_fit (f x) (flat_map f xs) (law x all.0) (each_fits f P law xs all.1)

  point_fits : (c : Option Coordinate) → IsPoint dims c → AreCoordinates dims (of_point c)
  point_fits None h = tt
  point_fits (Some c) h = (h, tt)

  parts_fit : (parts : List (List Coordinate)) → AllByRecursion (AreCoordinates dims) parts
      → AreCoordinates dims (of_parts parts)
  parts_fit = each_fits (λ cs. cs) (AreCoordinates dims) (λ cs h. h)

mutual
  -- All coordinates of a lawful value of one dimension fit that.
  pub coordinates_fit : (d : Dimension) (t : Value) → IsGeometry (geometry_of t) → HasOnly d t
      → AreCoordinates (as_dimensions d) (coordinates_of t)
  coordinates_fit d (point e c) fits is = rw (← is) (point_fits (as_dimensions e) c fits)
  coordinates_fit d (line_string e cs) fits is = rw (← is) fits
  coordinates_fit d (polygon e rings) fits is = rw (← is) (parts_fit (as_dimensions e) rings fits)
  coordinates_fit d (multi_point e points) fits is =
      rw (← is) (each_fits (as_dimensions e) of_point _ (point_fits (as_dimensions e)) points fits)
  coordinates_fit d (multi_line_string e lines) fits is = rw (← is) (parts_fit (as_dimensions e) lines fits)
  coordinates_fit d (multi_polygon e polygons) fits is =
      rw (← is) (each_fits (as_dimensions e) of_parts _ (parts_fit (as_dimensions e)) polygons fits)
  coordinates_fit d (collection e ts) fits is = members_fit d ts fits is.1

  members_fit : (d : Dimension) (ts : Values) → AreGeometries (geometries_of ts) → HaveOnly d ts
      → AreCoordinates (as_dimensions d) (coordinates_of_each ts)
  members_fit d no_members fits is = tt
  members_fit d (member t ts) fits is =
      both_fit (as_dimensions d) (coordinates_of t) (coordinates_of_each ts) (coordinates_fit d t fits.0 is.0)
      (members_fit d ts fits.1 is.1)

-- ---- the words of coordinates, taken apart again

word_count : (dims : Dimensions) (cs : List Coordinate) → AreCoordinates dims cs
    → length (words_of cs) ≡ length cs * size dims
word_count dims [] fit = sym (zero-mul (size dims))
word_count dims (c ∷ cs) fit =
    omega (arith, length-append c (words_of cs), fit.0.len, word_count dims cs fit.1, suc-mul (length cs) (size dims))

-- The words of coordinates are those of whole coordinates, as `LineString::new` asks for them.
pub words_are_whole : (d : Dimension) (cs : List Coordinate) → AreCoordinates (as_dimensions d) cs
    → (0 < size (as_dimensions d)) × (length (words_of cs) % size (as_dimensions d) ≡ 0)
words_are_whole d cs fit = grind (arith, has_two, word_count, mul-mod_left)

runs_of_words : (dims : Dimensions) (cs : List Coordinate) → AreCoordinates dims cs
    → runs (size dims) (length cs) (words_of cs) ≡ cs
runs_of_words dims [] fit = refl
runs_of_words dims (c ∷ cs) fit = grind (arith, take-append_seam, drop-append_seam, runs_of_words dims cs fit.1)

-- The coordinates in these words are the coordinates.
pub coordinates_again : (d : Dimension) (cs : List Coordinate) → AreCoordinates (as_dimensions d) cs
    → coordinates_in (as_dimensions d) (words_of cs) ≡ cs
coordinates_again d cs fit = grind (arith, has_two, word_count, mul-div_cancel, runs_of_words)

-- ---- points that can be written

no_fault : (d : Dimension) (points : List (Option Coordinate)) → length points < 2 ^ 32
    → fault (points_of (as_dimensions d) points) ≡ None
unfolding or_else dimensions_fault count_fault
no_fault d points few = grind (arith, lt-ltb)

short : (d : Dimension) (n : ℕ) (b : Bool) → n < 2 ^ 32
    → 9 + n * (5 + 8 * size (as_dimensions d)) + 4 * (if b then 1 else 0) < 2 ^ 64
short d n b few = grind arith

-- A multi point of no more points than four bytes can count is written.
pub few_points_are_written : (options : WriteOptions) (d : Dimension) (points : List (Option Coordinate))
    → IsForm options.form → AllByRecursion (IsPoint (as_dimensions d)) points → length points < 2 ^ 32
    → fault_of options (points_of (as_dimensions d) points) ≡ None
unfolding or_else size_fault
few_points_are_written options d points fits lawful few =
    let none = no_fault d points few in
    let long =
    encoding_has_size options.endianness options.form (points_of (as_dimensions d) points) fits lawful none in
    rw (none, long, lt-ltb _ (2 ^ 64) (short d (length points) (is_some (form_srid options.form)) few)) refl

-- So one that is rejected has more.
pub refused_points_are_many : (options : WriteOptions) (d : Dimension) (points : List (Option Coordinate)) (f : Fault)
    → IsForm options.form → AllByRecursion (IsPoint (as_dimensions d)) points
    → fault_of options (points_of (as_dimensions d) points) ≡ Some f → 2 ^ 32 ≤ length points
refused_points_are_many options d points f fits lawful is =
    grind (arith, few_points_are_written options d points fits lawful)
