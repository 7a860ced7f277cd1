-- What a call returns that asks for an item, by what an item means and by its dimension.
use Rattle.std.specs.Prelude.{◌≡◌, ℕ, List, Option, None, IfSome, slice_get}
use Rattle.std.specs.Option.{option_map}
use Rattle.wkb_geom.specs.declared.common.Dimensions.{Dimensions}
use Rattle.wkb_geom.specs.Encodings.{fault}
use Rattle.wkb_geom.specs.Geometries.{Geometry}

-- the item at this index is found, or none if the list has none
abbrev pub IsItemAt : {A B : Type 0} → (A → B) → Option A → List B → ℕ → Type 0
IsItemAt meant found items i = option_map meant found ≡ slice_get items i

-- what is found has this dimension
abbrev pub HasDimensions : {A : Type 0} → (A → Dimensions) → Option A → Dimensions → Type 0
HasDimensions dimensions found dims = IfSome found (λ x. dimensions x ≡ dims)

-- what is found is of a geometry that can be written
abbrev pub IsOfWritable : {A : Type 0} → Option A → Geometry → Type 0
IsOfWritable found g = IfSome found (λ _. fault g ≡ None)
