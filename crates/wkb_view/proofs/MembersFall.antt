-- Each member is smaller than its collection, so that a recursion over members ends.
use Rattle.wkb_view.specs.Prelude.{Item}
use Rattle.wkb_geom.specs.Reading.{values}
use Rattle.std.proofs.Common.{arith, max, ◌+◌, ◌*◌, ◌≤◌, List, [], ◌∷◌}
use denote.Param.Weighed.{most}
use Rattle.wkb_view.specs.Nodes.{nodes_all, size_outside}

-- the largest member is no larger than all of them together
most-members : (members : List Item) → most (λ m. size_outside m + 1) members ≤ 2 * nodes_all (values members) + 2
most-members [] = omega arith
most-members (m ∷ members) = omega (arith, most-members members)

-- each member is smaller than its collection
pub members_fall : (members : List Item)
    → max (most (λ m. size_outside m + 1) members) 0 ≤ 2 * (1 + nodes_all (values members))
members_fall members = omega (arith, most-members members)
