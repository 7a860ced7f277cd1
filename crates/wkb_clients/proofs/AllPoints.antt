-- All coordinates of a value as the points of one multi point.
use Rattle.std.proofs.Common.{◌≡◌, ℕ, zero, suc, ◌<◌, List, [], ◌∷◌, map, length, drop, Some, None, inl, inr, refl, sym}
use Rattle.std.proofs.Common.{ap, subst, arith, append-nil, slice_index_or}
use Rattle.std.specs.List.{AllByRecursion}
use Rattle.std.proofs.lemmas.List.{length-map}
use Rattle.wkb.specs.Prelude.{Dimension, Dimensions, as_dimensions, written_dimension, WkbError}
use Rattle.wkb.specs.Values.{Coordinate, Value, multi_point, dimension}
use Rattle.wkb.specs.Geometries.{AreCoordinates, IsPoint, normal, normal_point}
use Rattle.wkb.specs.Encodings.{encoding_of, fault_of, IsForm}
use Rattle.wkb.specs.Spellings.{Front}
use Rattle.wkb.proofs.AllCoordinates.{refused_points_are_many}
use Rattle.wkb.proofs.Calls.{encoding_is_read}
use Rattle.wkb.specs.Reads.{Item, values}
use Rattle.wkb.specs.Writes.{WriteOptions, IsVecError}
use Rattle.wkb.specs.Coordinates.{coordinates_of, HasOnly, HaveOnly}
use Rattle.wkb_clients.specs.Coordinates.{points_meant, IsMultiPointOf, IsWantOfRoom}

-- if all members have one dimension, each has it
pub each_has : (d : Dimension) (ms : List Item) (i : ℕ) (m : Item) → m ≡ slice_index_or ms i m → i < length ms
    → HaveOnly d (values ms) → HasOnly d m.value
each_has d [] i m is inside all = absurd (omega (arith, inside))
each_has d (x ∷ ms) zero m is inside all = subst (λ (v : Item). HasOnly d v.value) (sym is) all.0
each_has d (x ∷ ms) (suc i) m is inside all = each_has d ms i m is (omega (arith, inside)) all.1

-- the geometries before an index have it: with those from it on, all have
pub record HaveOnlyBefore (d : Dimension) (ms : List Item) (i : ℕ) : Type 0 where
  pub left : HaveOnly d (values (drop i ms)) → HaveOnly d (values ms)

-- ---- the multi point

dimension_again : (d : Dimension) → written_dimension (as_dimensions d) ≡ d
dimension_again d = grind arith

points_lawful : (dims : Dimensions) (cs : List Coordinate) → AreCoordinates dims cs
    → AllByRecursion (IsPoint dims) (map (λ c. Some c) cs)
points_lawful dims [] fit = tt
points_lawful dims (c ∷ cs) fit = (fit.0, points_lawful dims cs fit.1)

normal_points : (cs : List Coordinate)
    → map normal_point (map (λ c. Some c) cs) ≡ map (λ c. normal_point (Some c)) cs
normal_points [] = refl
normal_points (c ∷ cs) = ap (λ l. normal_point (Some c) ∷ l) (normal_points cs)

-- all coordinates of a value have its dimension
abbrev pub Fit : Value → Type 0
Fit t = AreCoordinates (as_dimensions (dimension t)) (coordinates_of t)

module _ (options : WriteOptions) (t : Value) (form : IsForm options.form) (fit : Fit t) where
  -- what was written is the encoding of that multi point, and is read as it
  pub are_points : (bytes : List ℕ) → bytes ≡ encoding_of options (points_meant t)
      → fault_of options (points_meant t) ≡ None → IsMultiPointOf options t bytes
  are_points bytes is fine =
      let read = encoding_is_read [] options (points_meant t) bytes bytes form
      (points_lawful (as_dimensions (dimension t)) (coordinates_of t) fit) is fine (sym (append-nil bytes))
      (omega arith) in
      let normal_is : normal (points_meant t)
      ≡ multi_point (dimension t) (map (λ c. normal_point (Some c)) (coordinates_of t)) =
      λ i. multi_point (dimension_again (dimension t) i) (normal_points (coordinates_of t) i) in
      record { encoding_is = is; spelling = read.0; read = subst (λ v. Front bytes read.0 v []) normal_is read.1 }

  -- what was rejected has too many points
  pub want_of_room : (e : WkbError) → IsVecError options (points_meant t) e → IsWantOfRoom options t e
  want_of_room e (inl memory) = inl memory
  want_of_room e (inr r) =
      let lawful = points_lawful (as_dimensions (dimension t)) (coordinates_of t) fit in
      let many =
      refused_points_are_many options (dimension t) (map (λ c. Some c) (coordinates_of t)) r.fault form lawful r.is in
      grind (arith, length-map)
