use Rattle.wkb_view.proofs.Prelude.{arith}
use Rattle.wkb_view.proofs.Members.{point_laid}
use Rattle.wkb_view.proofs.Leaves.{found, member_gives, member_passed}
use Rattle.wkb_view.proofs.multi_point.pass_point.Goals as goal

pub returns : goal.returns
returns c =
    let laid = point_laid _ _ _ c.in_ok-member.ensures in
    let read = c.in_ok-rest.ensures in
    let passed = member_passed 1 c.args.dimension c.args.bytes.now _ _ _ laid read.passed read.item in
    grind (arith, member_gives, found)
