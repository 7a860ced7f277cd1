use Rattle.wkb_write.proofs.Prelude.{◌+◌, ◌^◌, ◌<◌, map, geometries}
use Rattle.wkb_write.specs.Bodies.{collection_of, measure_after, member_measure}
use Rattle.wkb_geom.specs.Sizes.{byte_size, byte_sizes}
use Rattle.wkb_write.proofs.Sums.{Ahead}
use Rattle.wkb_write.proofs.nested.+measure.Given as goal

abbrev pub decreases-measure_geometry : goal.decreases-measure_geometry
decreases-measure_geometry g l = byte_size (g.K.Nested.geometry l.geom.now)

abbrev pub decreases-add_members : goal.decreases-add_members
decreases-add_members g l = byte_sizes (geometries (map g.K.Nested.geometry l.members.now)) + 1

abbrev pub invariant-add_members-loop-i : goal.invariant-add_members-loop-i
invariant-add_members-loop-i g l =
    let whole = collection_of g.K.Nested.geometry l.fn.dim l.members in
    record {
      ahead : Ahead (λ m. member_measure (g.K.Nested.geometry m)) (measure_after l.before whole) l.total l.members l.i;
      fits : l.total < 2 ^ 64;
    }
