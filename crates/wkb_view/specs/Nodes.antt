-- How large a value is, which falls from a collection to its members.
use Rattle.std.specs.Prelude.{ℕ, ◌+◌, ◌*◌}
use Rattle.wkb_geom.specs.Values.{Value, Values, collection, no_members, member}
use Rattle.wkb_view.specs.Prelude.{Listed, Item}

-- the number of geometries in a value, itself among them
abbrev mutual
  pub nodes : Value → ℕ
  nodes (collection d vs) = 1 + nodes_all vs
  nodes _ = 1

  pub nodes_all : Values → ℕ
  nodes_all no_members = 0
  nodes_all (member v vs) = nodes v + nodes_all vs

-- the size of a collection, and of a geometry that may be one
abbrev pub size_inside : Listed Values → ℕ
size_inside i = 2 * (1 + nodes_all i.parts)

abbrev pub size_outside : Item → ℕ
size_outside i = 2 * nodes i.value + 1
