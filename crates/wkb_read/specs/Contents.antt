-- How many coordinates a value has, and how many rings and members, at every level.
use Rattle.std.specs.Prelude.{◌≡◌, ℕ, ◌+◌, List, length, sum_by}
use Rattle.wkb_read.specs.Prelude.{Item}
use Rattle.wkb_geom.specs.Counted.{coordinate_count, coordinate_count_each}
use Rattle.wkb_geom.specs.Values.{Coordinate, Value, Values, member_count, member_count_each}
use Rattle.wkb_read.specs.declared.contents.Contents.{Contents}

-- the numbers of coordinates and of parts that a value has
pub record AreContents (t : Value) (found : Contents) : Type 0 where
  pub coordinates_are : found.coordinates ≡ coordinate_count t
  pub members_are : found.members ≡ member_count t

-- the numbers of coordinates and of parts that the members of a collection have, themselves counted
pub record AreContentsOfEach (ts : Values) (found : Contents) : Type 0 where
  pub coordinates_are : found.coordinates ≡ coordinate_count_each ts
  pub members_are : found.members ≡ member_count_each ts

-- the numbers of coordinates and of parts that polygons have, themselves counted
pub record AreContentsOfPolygons (ps : List (List (List Coordinate))) (found : Contents) : Type 0 where
  pub coordinates_are : found.coordinates ≡ sum_by (λ rings. sum_by length rings) ps
  pub members_are : found.members ≡ sum_by (λ rings. 1 + length rings) ps

-- the numbers of one member, itself among the members
abbrev pub coordinates_inside : Item → ℕ
coordinates_inside m = coordinate_count m.value

abbrev pub parts_inside : Item → ℕ
parts_inside m = 1 + member_count m.value
