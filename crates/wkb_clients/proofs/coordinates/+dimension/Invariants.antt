use Rattle.std.proofs.Common.{◌+◌, ◌*◌}
use Rattle.wkb.specs.Reads.{values}
use Rattle.wkb.specs.Values.{member_count, member_count_each}
use Rattle.wkb_clients.proofs.AllPoints.{HaveOnlyBefore}
use Rattle.wkb_clients.proofs.coordinates.+dimension.Given as goal

abbrev pub decreases-has_only : goal.decreases-has_only
decreases-has_only l = 2 * member_count l.geometry.now.value + 1

abbrev pub decreases-have_only : goal.decreases-have_only
decreases-have_only l = 2 * member_count_each (values l.members.now)

abbrev pub invariant-have_only-loop-member : goal.invariant-have_only-loop-member
invariant-have_only-loop-member l = HaveOnlyBefore l.dimension l.members l.member-index
