use Rattle.wkb_view.proofs.Prelude.{arith, err_from_is_err_and}
use Rattle.wkb_view.proofs.Members.{member_laid}
use Rattle.wkb_laws.proofs.GeometryAt.{line_string_free}
use Rattle.wkb_view.proofs.Leaves.{found, member_gives, member_passed}
use Rattle.wkb_view.proofs.multi_line_string.LineStringsParts.pass.Goals as goal

pub returns : goal.returns
returns c =
    let laid = member_laid 2 _ _ _ c.in_ok-member.ensures in
    let read = c.in_ok-rest.ensures in
    let passed = member_passed 2 c.args.layout.dimension c.args.bytes.now _ _ _ laid read.passed read.item in
    grind (arith, member_gives, line_string_free, found)

pub returns-in_err-rest-clause-answer : goal.returns-in_err-rest-clause-answer
returns-in_err-rest-clause-answer c = grind (arith, member_laid, err_from_is_err_and, member_gives, line_string_free)
