-- An encoding is as long as the size of its geometry says.
use Rattle.std.proofs.Common.{◌≡◌, ◌+◌, None, refl, ap, ◌∙◌, arith, sym}
use Rattle.std.proofs.lemmas.List.{length-map}
use Rattle.wkb_laws.specs.Prelude.{size, Geometry, Geometries, line, rectangle, triangle, no_geometries, geometry}
use Rattle.wkb_laws.specs.Prelude.{normal, normal_each, byte_size, byte_sizes, fault, fault_each}
use Rattle.wkb_laws.specs.Prelude.{as_dimensions, written_dimension, Dimensions, dimensions_fault}
use Rattle.wkb_geom.specs.Geometries.{point, multi_point, collection}
use Rattle.wkb_laws.specs.Laws.{EncodingHasSize}
use Rattle.wkb_laws.proofs.Values.{or_else_parts, width-written_dimension}
use Rattle.wkb_laws.proofs.Lengths.{value_size, each_size, encoding_length, named_width}

written_size : (dims : Dimensions) → dimensions_fault dims ≡ None
    → size (as_dimensions (written_dimension dims)) ≡ size dims
written_size dims e = sym (named_width _) ∙ width-written_dimension dims e

mutual
  size_of_normal : (g : Geometry) → fault g ≡ None → value_size (normal g) ≡ byte_size g
  size_of_normal (point dims c) e = rw (written_size dims e)
  size_of_normal (multi_point dims points) e = rw (written_size dims (or_else_parts _ _ e).0, length-map)
  size_of_normal (collection dims gs) e =
      ap (λ n. 9 + n) (sizes_of_normal gs (or_else_parts _ _ (or_else_parts _ _ e).1).1)
  size_of_normal (line dims start end) e = rw (written_size dims e) (omega arith)
  size_of_normal (rectangle dims least greatest) e = refl
  size_of_normal (triangle dims first second third) e = rw (written_size dims e) (omega arith)
  size_of_normal _ e = rw (written_size _ (or_else_parts _ _ e).0)

  sizes_of_normal : (gs : Geometries) → fault_each gs ≡ None → each_size (normal_each gs) ≡ byte_sizes gs
  sizes_of_normal no_geometries e = refl
  sizes_of_normal (geometry g gs) e =
      omega (arith, sizes_of_normal gs (or_else_parts _ _ e).1, size_of_normal g (or_else_parts _ _ e).0)

pub encoding_has_size_lem : EncodingHasSize
encoding_has_size_lem order form g _ lawful fine = grind (arith, encoding_length, size_of_normal)
