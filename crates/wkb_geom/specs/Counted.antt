-- How many coordinates a value has.
use Rattle.std.specs.Prelude.{ℕ, ◌+◌, length, sum_by}
use Rattle.wkb_geom.specs.Values.{Value, Values, point, line_string, polygon, multi_point, multi_line_string}
use Rattle.wkb_geom.specs.Values.{multi_polygon, collection, no_members, member}

-- How many coordinates a value has at every level. A point has one: those of an empty point are all NaNs.
abbrev mutual
  pub coordinate_count : Value → ℕ
  coordinate_count (point d c) = 1
  coordinate_count (line_string d cs) = length cs
  coordinate_count (polygon d rings) = sum_by length rings
  coordinate_count (multi_point d points) = length points
  coordinate_count (multi_line_string d lines) = sum_by length lines
  coordinate_count (multi_polygon d polygons) = sum_by (λ rings. sum_by length rings) polygons
  coordinate_count (collection d ts) = coordinate_count_each ts

  pub coordinate_count_each : Values → ℕ
  coordinate_count_each no_members = 0
  coordinate_count_each (member t ts) = coordinate_count t + coordinate_count_each ts
