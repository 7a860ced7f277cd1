use Rattle.wkb_view.proofs.Prelude.{refl, arith}
use Rattle.wkb_view.proofs.Leaves.{passed_by}
use Rattle.wkb_view.proofs.Spells.{line_string_is_encoding}
use Rattle.wkb_view.proofs.line_string.LineString.read.Goals as goal

pub returns-clause-passed : goal.returns-clause-passed
returns-clause-passed c =
    let read = c.in_ok-count.ensures in
    passed_by 9 c.args.bytes.now _ c.in_ok-count.end (omega arith) read.whole c.split_at.ensures.back
    (line_string_is_encoding c.args.layout c.args.bytes.now _ c.in_ok-count.count _ c.requires.head
    read.counted read.end read.whole refl read.answer)
