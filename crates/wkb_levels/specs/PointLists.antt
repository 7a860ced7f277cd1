-- What points one after another mean.
use Rattle.std.specs.Prelude.{ℕ, List, map, Option, Some}
use Rattle.wkb_geom.specs.declared.common.Dimensions.{Dimensions}
use Rattle.wkb_plain.specs.Kinds.{line_string_dimensions, line_string_coordinates}
use Rattle.wkb_levels.specs.declared.points.Points.{Points}

abbrev pub points_dimensions : Points → Dimensions
points_dimensions p = line_string_dimensions p.line

abbrev pub points_points : Points → List (Option (List ℕ))
points_points p = map (λ c. Some c) (line_string_coordinates p.line)
