-- What the views say of dimensions; a lawful part is in the fitted list as it is.
use Rattle.wkb_view.proofs.Prelude.{◌≡◌, ℕ, List, Option, slice_get, arith, IfSome, option_map, slice_get-map}
use Rattle.wkb_view.proofs.Prelude.{Dimension, Coordinate, as_dimensions, fitted_line_strings}
use Rattle.wkb_geom.specs.Geometries.{AreCoordinates}
use Rattle.wkb_view.specs.Lawful.{line_string_fits}

-- a line string of the whole's dimension, lawful by its law, is in the fitted list as in the list itself
pub lawful_at : {C : Type 0} (read : C → List Coordinate) (dim : C → Dimension) (d : Dimension) (o : Option C)
    (parts : List (List Coordinate)) (i : ℕ)
    → ((c : C) → AreCoordinates (as_dimensions (dim c)) (read c)) → IfSome o (λ c. dim c ≡ d)
    → option_map read o ≡ slice_get parts i
    → option_map read o ≡ slice_get (fitted_line_strings (as_dimensions d) parts) i
lawful_at read dim d o parts i law same is = grind (arith, slice_get-map, line_string_fits)
