use Rattle.wkb_read.proofs.Prelude.{◌≡◌, take}
use Rattle.wkb_read.specs.NoSrids.{HaveNoSrids}
use Rattle.wkb_read.proofs.srids.count_with_srids.Given as goal

abbrev pub invariant-loop-member : goal.invariant-loop-member
invariant-loop-member l = l.count ≡ 0 → HaveNoSrids (take l.member-index l.members)
