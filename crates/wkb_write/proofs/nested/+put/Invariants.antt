use Rattle.wkb_write.proofs.Prelude.{◌+◌, map, geometries, progress, encoding_of}
use Rattle.wkb_write.specs.Answers.{member_encoding}
use Rattle.wkb_write.specs.Bodies.{collection_of}
use Rattle.wkb_write.proofs.Loops.{HasLaid}
use Rattle.wkb_geom.specs.Sizes.{byte_size, byte_sizes}
use Rattle.wkb_write.proofs.nested.+put.Given as goal

abbrev pub decreases-put_member : goal.decreases-put_member
decreases-put_member g l = byte_size (g.K.Nested.geometry l.geom.now)

abbrev pub decreases-put_members : goal.decreases-put_members
decreases-put_members g l = byte_sizes (geometries (map g.K.Nested.geometry l.members.now)) + 1

abbrev pub invariant-put_members-loop-i : goal.invariant-put_members-loop-i
invariant-put_members-loop-i g l =
    HasLaid (progress g.S.Sink l.fn.out) (progress g.S.Sink l.out)
    (encoding_of l.fn.options (collection_of g.K.Nested.geometry l.fn.dim l.members))
    (member_encoding g.K.Nested.geometry l.order l.has_flags) l.members l.i
