use Rattle.std.proofs.Common.{arith}
use Rattle.wkb.specs.Members.{member_falls}
use Rattle.wkb_clients.proofs.AllPoints.{each_has}
use Rattle.wkb_clients.proofs.coordinates.+dimension.Goals as goal

pub have_only-has_only-requires : goal.have_only-has_only-requires
have_only-has_only-requires t c = (member_falls _ _ _ t c.member-item.is c.loop-member-test.true c.decreases, tt)

pub have_only-returns-then-not-has_only : goal.have_only-returns-then-not-has_only
have_only-returns-then-not-has_only t c = grind (arith, each_has)
