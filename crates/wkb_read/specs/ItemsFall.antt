-- Lemmas: the item of a view is larger than the collection in it. By itself, since `Wkb` has `Items` in its view.
use Rattle.std.proofs.Common.{arith, max, ◌≤◌}
use Rattle.wkb_view.specs.Nodes.{size_outside}
use Rattle.wkb_read.specs.Items.{kind_seen}
use Rattle.wkb_read.specs.declared.{geometry.View.View, geometry.View.TheVariants.GeometryCollection}
use Rattle.wkb_read.specs.declared.geometry.GeometryCollection.TheDeep.{deep-View}

pub kind_falls : (k : View) → max (deep-View k) 0 ≤ size_outside (kind_seen k)
kind_falls (GeometryCollection c) = omega arith
kind_falls _ = omega arith
