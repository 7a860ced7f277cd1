-- Every geometry with its coordinates fitted is lawful, and a lawful one stays as it is.
use Rattle.std.proofs.Common.{◌≡◌, ℕ, zero, suc, ◌^◌, List, [], ◌∷◌, map, true, refl, ap, arith, nat_lt}
use Rattle.std.specs.List.{AllByRecursion, list_all}
use Rattle.std.proofs.Math.ListN.{replicate}
use Rattle.std.proofs.lemmas.List.{length-replicate}
use Rattle.std.proofs.lemmas.Bool.Decides.{nat_tests}
use Rattle.wkb_geom.specs.Geometries.{IsCoordinate, IsPoint, AreCoordinates, Geometry, point, line_string, polygon}
use Rattle.wkb_geom.specs.Geometries.{multi_point, multi_line_string, multi_polygon, collection, line, rectangle}
use Rattle.wkb_geom.specs.Geometries.{triangle, no_geometries, geometry, IsGeometry, AreGeometries}
use Rattle.wkb_laws.specs.Prelude.{Dimensions, IsWord}
unfoldable use Rattle.wkb_laws.specs.Fits.{fitted}
use Rattle.wkb_laws.specs.Fits.{fitted_line_string, fitted_line_strings, fitted_polygons, fitted_point, fitted_geometry}
use Rattle.wkb_laws.specs.Fits.{fitted_geometries, IsFitted, Fits}

zeros_are_words : (n : ℕ) → AllByRecursion IsWord (replicate n 0)
zeros_are_words zero = tt
zeros_are_words (suc n) = (omega arith, zeros_are_words n)

words_from_test : (ws : List ℕ) → list_all (λ w. nat_lt w (2 ^ 64)) ws ≡ true → AllByRecursion IsWord ws
words_from_test [] h = tt
words_from_test (w ∷ ws) h = grind (arith, nat_tests, words_from_test ws)

test_of_words : (ws : List ℕ) → AllByRecursion IsWord ws → list_all (λ w. nat_lt w (2 ^ 64)) ws ≡ true
test_of_words [] h = refl
test_of_words (w ∷ ws) h = grind (arith, nat_tests, test_of_words ws)

pub coordinate_fits : (dims : Dimensions) → Fits (fitted dims) (IsCoordinate dims)
unfolding fitted
coordinate_fits dims c = grind (arith, words_from_test, test_of_words, length-replicate, zeros_are_words)

list_fits : {A : Type 0} {f : A → A} {P : A → Type 0} → Fits f P → Fits (map f) (AllByRecursion P)
list_fits h [] = record { lawful = tt; same = λ _. refl }
list_fits h (x ∷ xs) = grind (arith, h x, list_fits h xs)

pub line_string_fits : (dims : Dimensions) → Fits (fitted_line_string dims) (AreCoordinates dims)
line_string_fits dims = list_fits (coordinate_fits dims)

pub line_strings_fit : (dims : Dimensions) → Fits (fitted_line_strings dims) (AllByRecursion (AreCoordinates dims))
line_strings_fit dims = list_fits (line_string_fits dims)

pub polygons_fit : (dims : Dimensions)
    → Fits (fitted_polygons dims) (AllByRecursion (AllByRecursion (AreCoordinates dims)))
polygons_fit dims = list_fits (line_strings_fit dims)

point_fits : (dims : Dimensions) → Fits (fitted_point dims) (IsPoint dims)
point_fits dims c = grind (arith, coordinate_fits dims)

-- what is made of fitted parts is fitted
under : {A : Type 0} {a y : A} (f : A → Geometry) → IsFitted (λ x. IsGeometry (f x)) a y
    → IsFitted IsGeometry (f a) (f y)
under f h = record { lawful = h.lawful; same = λ l. ap f (h.same l) }

mutual
  -- every geometry is fitted to a lawful one, and a lawful one to itself
  geometry_fits : Fits fitted_geometry IsGeometry
  geometry_fits (point dims c) = under (point dims) (point_fits dims c)
  geometry_fits (line_string dims cs) = under (line_string dims) (line_string_fits dims cs)
  geometry_fits (polygon dims rings) = under (polygon dims) (line_strings_fit dims rings)
  geometry_fits (multi_point dims points) = under (multi_point dims) (list_fits (point_fits dims) points)
  geometry_fits (multi_line_string dims lines) = under (multi_line_string dims) (line_strings_fit dims lines)
  geometry_fits (multi_polygon dims polygons) = under (multi_polygon dims) (polygons_fit dims polygons)
  geometry_fits (collection dims gs) = grind (arith, geometries_fit gs)
  geometry_fits (line dims start end) = grind (arith, coordinate_fits dims)
  geometry_fits (rectangle dims least greatest) = grind (arith, coordinate_fits dims)
  geometry_fits (triangle dims first second third) = grind (arith, coordinate_fits dims)

  geometries_fit : Fits fitted_geometries AreGeometries
  geometries_fit no_geometries = record { lawful = tt; same = λ _. refl }
  geometries_fit (geometry g gs) = grind (arith, geometry_fits g, geometries_fit gs)

pub IsGeometry-fitted : (g : Geometry) → IsGeometry (fitted_geometry g)
IsGeometry-fitted g = (geometry_fits g).lawful

pub fitted_geometry-same : (g : Geometry) → IsGeometry g → fitted_geometry g ≡ g
fitted_geometry-same g h = (geometry_fits g).same h
