use Rattle.wkb_read.proofs.Prelude.{◌≡◌, take}
use Rattle.wkb_read.proofs.geometry.+clones.Given as goal

abbrev pub invariant-GeometryCollection::clone-loop-member : goal.invariant-GeometryCollection::clone-loop-member
invariant-GeometryCollection::clone-loop-member l = l.members.items ≡ take l.member-index l.self-inside.members.items
