-- All coordinates of a value, and what a walk over them says of its visitor.
use Rattle.std.specs.Prelude.{◌≡◌, ℕ, List, [], ◌∷◌, ◌++◌, flat_map, Option, Some, None, Result, MatchResult}
use Rattle.wkb.specs.Prelude.{Dimension}
use Rattle.wkb.specs.Values.{Coordinate, Value, Values, point, line_string, polygon, multi_point, multi_line_string}
use Rattle.wkb.specs.Values.{multi_polygon, collection, no_members, member}

-- the coordinate of a point; an empty one has none
abbrev pub of_point : Option Coordinate → List Coordinate
of_point None = []
of_point (Some c) = c ∷ []

-- the coordinates of rings or of line strings
abbrev pub of_parts : List (List Coordinate) → List Coordinate
of_parts parts = flat_map (λ cs. cs) parts

-- all coordinates of a value, at every level and in order
abbrev mutual
  pub coordinates_of : Value → List Coordinate
  coordinates_of (point d c) = of_point c
  coordinates_of (line_string d cs) = cs
  coordinates_of (polygon d rings) = of_parts rings
  coordinates_of (multi_point d points) = flat_map of_point points
  coordinates_of (multi_line_string d lines) = of_parts lines
  coordinates_of (multi_polygon d polygons) = flat_map of_parts polygons
  coordinates_of (collection d ts) = coordinates_of_each ts

  pub coordinates_of_each : Values → List Coordinate
  coordinates_of_each no_members = []
  coordinates_of_each (member t ts) = coordinates_of t ++ coordinates_of_each ts

-- the words of coordinates, one after another
abbrev pub words_of : List Coordinate → List ℕ
words_of cs = flat_map (λ c. c) cs

-- a value has this dimension, and so has each member of a collection in it
abbrev mutual
  pub HasOnly : Dimension → Value → Type 0
  HasOnly d (point e c) = e ≡ d
  HasOnly d (line_string e cs) = e ≡ d
  HasOnly d (polygon e rings) = e ≡ d
  HasOnly d (multi_point e points) = e ≡ d
  HasOnly d (multi_line_string e lines) = e ≡ d
  HasOnly d (multi_polygon e polygons) = e ≡ d
  HasOnly d (collection e ts) = (e ≡ d) × HaveOnly d ts

  pub HaveOnly : Dimension → Values → Type 0
  HaveOnly d no_members = Unit {0}
  HaveOnly d (member t ts) = HasOnly d t × HaveOnly d ts

-- whatever coordinates the visitor had visited before, it has visited these after them
pub record Visits {S : Type 0} (has_visited : S → List Coordinate → Type 0) (old new : S) (cs : List Coordinate)
    : Type 0 where
  pub visited : (before : List Coordinate) → has_visited old before → has_visited new (before ++ cs)

-- these coordinates were visited, or the visitor returned an error
abbrev pub VisitsOrStops : {S E : Type 0} → (S → List Coordinate → Type 0) → (S → Type 0) → S → S → List Coordinate
    → Result (Unit {0}) E → Type 0
VisitsOrStops has_visited has_stopped old new cs result =
    MatchResult result (λ _. Visits has_visited old new cs) (λ _. has_stopped new)
