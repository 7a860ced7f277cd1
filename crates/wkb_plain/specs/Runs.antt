-- The runs of a line string's words, each a coordinate.
use Rattle.std.specs.Prelude.{ℕ, zero, suc, ◌/◌, List, [], ◌∷◌, length, take, drop}
use Rattle.wkb_geom.specs.declared.common.Dimensions.{Dimensions}
use Rattle.wkb_geom.specs.Dimensions.{size}

-- the first count runs of width words each
abbrev pub runs : ℕ → ℕ → List ℕ → List (List ℕ)
runs width zero words = []
runs width (suc count) words = take width words ∷ runs width count (drop width words)

-- the coordinates that follow one another in the words
abbrev pub coordinates_in : Dimensions → List ℕ → List (List ℕ)
coordinates_in d words = runs (size d) (length words / size d) words
