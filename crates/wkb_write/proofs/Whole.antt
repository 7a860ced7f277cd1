-- A geometry's fault and size, by its header and its body.
use Rattle.std.proofs.Common.{rules}
use Rattle.wkb_write.proofs.Prelude.{List, sum_by-cons, first_fault, dimensions_fault, count_below, bytes_behind_header}
use Rattle.wkb_write.proofs.Prelude.{Dimensions, none_both, none_first, none_rest, byte_size, parts_fault, parts_size}
use Rattle.wkb_write.proofs.Prelude.{length, Option, Result, arith, sum_by, Fault, Geometry, or_else, Measures, Measure}
use Rattle.wkb_write.proofs.Prelude.{◌≡◌, ℕ, ◌+◌, ◌*◌, ◌^◌, ◌<◌, ◌≤◌, [], ◌∷◌, None, Ok, refl, ap, size, fault, Finds}
use Rattle.wkb_geom.specs.Geometries.{point, multi_point, rectangle, triangle, line, dimensions_of}
use Rattle.wkb_geom.specs.Sizes.{ring_size}
use Rattle.wkb_write.specs.Bodies.{coordinate_words, ring_bytes, point_measure, body_fault, size_by_parts}
use Rattle.wkb_write.specs.Counted.{HasFaultlessBody, HasMeasures, ItemList}
use Rattle.wkb_write.specs.Measures.{IsMeasured}
use Rattle.wkb_write.proofs.Faults.{reports_first, reports_rest}
use Rattle.wkb_write.proofs.Supported.{supported_at_most}

-- the sizes of a list's items, each as a part behind a header
sizes_of : {X : Type 0} (header : ℕ) (part : X → Measure) (s : X → ℕ) (xs : List X)
    → ((x : X) → header + (part x).size ≡ s x) → parts_size header part xs ≡ 4 + sum_by s xs
unfolding parts_size
sizes_of header part s [] same = omega arith
sizes_of header part s (x ∷ xs) same = search (rules, sum_by-cons, sizes_of header part s xs same)

-- a geometry has a header
pub header_within : (g : Geometry) → 5 ≤ byte_size g
header_within (rectangle d least greatest) = omega arith
header_within _ = omega arith

ring_takes : (d : Dimensions) → coordinate_words d ≡ size d → (cs : List (List ℕ)) → ring_bytes d cs ≡ ring_size d cs
ring_takes d is cs = ap (λ w. 4 + 8 * w * length cs) is

alone : (a : Option Fault) → a ≡ or_else a None
unfolding or_else
alone a = grind arith

no_faults : {X : Type 0} (xs : List X) → first_fault (λ x. None) xs ≡ None
unfolding first_fault or_else
no_faults [] = refl
no_faults (x ∷ xs) = no_faults xs

points_take : (d : Dimensions) (points : List (Option (List ℕ))) → coordinate_words d ≡ size d
    → parts_size 5 (point_measure d) points ≡ 4 + length points * (5 + 8 * size d)
unfolding parts_size
points_take d [] is = omega arith
points_take d (c ∷ cs) is = search (rules, sum_by-cons, points_take d cs is)

-- the first fault is that of the dimensions, or one behind the header
pub fault_by_body : (g : Geometry) → fault g ≡ or_else (dimensions_fault (dimensions_of g)) (body_fault g)
unfolding parts_fault
fault_by_body (point d c) = alone (dimensions_fault d)
fault_by_body (multi_point d points) = ap (or_else (dimensions_fault d)) (rw no_faults (alone _))
fault_by_body (line d start end) = alone (dimensions_fault d)
fault_by_body (rectangle d least greatest) = alone (dimensions_fault d)
fault_by_body (triangle d first second third) = alone (dimensions_fault d)
fault_by_body _ = refl

-- a geometry without a fault has no more parts than four bytes count
pub few_items : {d : Dimensions} {header : ℕ} (g : Geometry) (items : ItemList) → HasMeasures g d header items
    → fault g ≡ None → length items.list < 2 ^ 32
unfolding parts_fault
few_items g items h none = grind (arith, none_rest, dimensions_fault, fault_by_body, count_below, none_first)

pub size_by_body : (g : Geometry) → coordinate_words (dimensions_of g) ≡ size (dimensions_of g)
    → byte_size g ≡ 5 + size_by_parts g
size_by_body g is = grind (arith, ring_takes, points_take, sizes_of)

-- a geometry without a fault takes its header and its parts
pub size_of_parts : (g : Geometry) → fault g ≡ None → byte_size g ≡ 5 + size_by_parts g
size_of_parts g none = grind (arith, none_first, fault_by_body, size_by_body, supported_at_most)

pub supported_body : {g : Geometry} {d : Dimensions} → HasFaultlessBody g d → fault g ≡ None → dimensions_fault d ≡ None
supported_body {g = g} h none = grind (arith, dimensions_fault, none_first, fault_by_body)

-- a size that is known of a geometry without a fault is what was measured of its parts
pub known_measured : {g : Geometry} {d : Dimensions} {header : ℕ} {items : ItemList} → HasMeasures g d header items
    → fault g ≡ None → (n : ℕ) → n < 2 ^ 64 → n ≡ bytes_behind_header g
    → Measures (parts_fault items.measure items.list) (parts_size header items.measure items.list) (Ok n)
known_measured {g = g} h none n fits is = grind (arith, none_rest, dimensions_fault, fault_by_body, size_of_parts)

-- and what is measured of the geometry
pub known_is_measured : (g : Geometry) (n : ℕ) → fault g ≡ None → n < 2 ^ 64 → n ≡ bytes_behind_header g
    → IsMeasured g (Ok n)
unfolding IsMeasured
known_is_measured g n none fits is = (none, omega (arith, fits, is))

pub ruleset known_laws = (known_is_measured, header_within)

-- what was measured of a header and a body is measured of the geometry
pub whole_measured : (g : Geometry) (dims : Dimensions) (r : Result ℕ Fault) → dims ≡ dimensions_of g
    → dimensions_fault dims ≡ None → Measures (body_fault g) (size_by_parts g) r
    → Measures (fault g) (bytes_behind_header g) r
whole_measured g dims r is supported h =
    grind (arith, dimensions_fault, fault_by_body, none_both, size_of_parts, reports_rest)

pub whole_unsupported : (g : Geometry) (dims : Dimensions) (e : Fault) → dims ≡ dimensions_of g
    → Finds e (dimensions_fault dims) → Finds e (fault g)
whole_unsupported g dims e is finds = grind (arith, fault_by_body, reports_first, dimensions_fault)

pub ruleset header_laws = (whole_measured, whole_unsupported)
