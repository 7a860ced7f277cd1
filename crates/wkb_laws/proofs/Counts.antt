-- Bytes spell no more coordinates and parts than there are bytes.
use Rattle.std.proofs.Common.{◌≡◌, refl, ℕ, ◌+◌, ◌*◌, ◌≤◌, List, [], ◌∷◌, length, sum_by, arith, mul-le-mul_right}
use Rattle.std.proofs.lemmas.List.Sums.{sum_by-cons}
use Rattle.wkb_laws.specs.Prelude.{Dimension, size, as_dimensions, geometry_of, geometries_of, Spelling, Spells}
use Rattle.wkb_geom.specs.Counted.{coordinate_count, coordinate_count_each}
use Rattle.wkb_geom.specs.Sizes.{byte_size, byte_sizes, ring_size, line_string_size, polygon_size}
use Rattle.wkb_geom.specs.Values.{Value, line_string, multi_line_string, multi_polygon, member_count, member_count_each}
use Rattle.wkb_geom.specs.Values.{Coordinate, Values, point, polygon, multi_point, collection, no_members, member}
use Rattle.wkb_laws.proofs.Spelled.{size_of_spelled_lem}
use Rattle.wkb_laws.proofs.Lengths.{named_width, width-least}

coordinates_within : (d : Dimension) (n : ℕ) → n ≤ 8 * size (as_dimensions d) * n
coordinates_within d n = rw (← named_width d) (omega (arith, mul-le-mul_right n (width-least d)))

-- where what each item has and counts for is within its size, so is that of all of them
module _ {A : Type 0} (f own size : A → ℕ) (one : (a : A) → f a + own a ≤ size a) (total : List A → ℕ)
    (none : total [] ≡ 0) (more : (a : A) (l : List A) → total (a ∷ l) ≡ own a + total l) where
  sums_within : (l : List A) → sum_by f l + total l ≤ sum_by size l
  sums_within [] = omega (arith, none)
  sums_within (a ∷ l) = omega (arith, sums_within l, one a, more a l, sum_by-cons f a l, sum_by-cons size a l)

rings_within : (d : Dimension) (rs : List (List Coordinate))
    → sum_by length rs + length rs ≤ sum_by (ring_size (as_dimensions d)) rs
rings_within d =
    sums_within length (λ r. 1) _ (λ r. omega (arith, coordinates_within d (length r)))
    length refl (λ r rs. omega arith)

line_strings_within : (d : Dimension) (ls : List (List Coordinate))
    → sum_by length ls + length ls ≤ sum_by (line_string_size (as_dimensions d)) ls
line_strings_within d =
    sums_within length (λ l. 1) _ (λ l. omega (arith, coordinates_within d (length l)))
    length refl (λ l ls. omega arith)

polygons_within : (d : Dimension) (ps : List (List (List Coordinate)))
    → sum_by (λ rings. sum_by length rings) ps + sum_by (λ rings. 1 + length rings) ps
    ≤ sum_by (polygon_size (as_dimensions d)) ps
polygons_within d =
    sums_within (sum_by length) (λ rings. 1 + length rings) _ (λ rings. omega (arith, rings_within d rings))
    _ refl (sum_by-cons (λ rings. 1 + length rings))

mutual
  value_within : (t : Value) → coordinate_count t + (1 + member_count t) ≤ byte_size (geometry_of t)
  value_within (point d c) = omega (arith, coordinates_within d 1)
  value_within (line_string d cs) = omega (arith, coordinates_within d (length cs))
  value_within (polygon d rings) = omega (arith, rings_within d rings)
  value_within (multi_point d points) = omega (arith, coordinates_within d (length points))
  value_within (multi_line_string d lines) = omega (arith, line_strings_within d lines)
  value_within (multi_polygon d polygons) = omega (arith, polygons_within d polygons)
  value_within (collection d ts) = omega (arith, values_within ts)

  values_within : (ts : Values) → coordinate_count_each ts + member_count_each ts ≤ byte_sizes (geometries_of ts)
  values_within no_members = omega arith
  values_within (member t ts) = omega (arith, value_within t, values_within ts)

pub counts_within : (s : Spelling) (t : Value) (x : List ℕ) → Spells s t x
    → coordinate_count t + (1 + member_count t) ≤ length x
counts_within s t x h = omega (arith, value_within t, size_of_spelled_lem s t x h)
