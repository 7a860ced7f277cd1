use Rattle.wkb_read.proofs.Prelude.{take, AllByRecursion}
use Rattle.wkb_read.specs.Prelude.{IsSpelledAsWritten}
use Rattle.wkb_read.proofs.geometry.+spellings.Given as goal

abbrev pub invariant-GeometryCollection::is_as_written-loop-member :
    goal.invariant-GeometryCollection::is_as_written-loop-member
invariant-GeometryCollection::is_as_written-loop-member l =
    AllByRecursion (IsSpelledAsWritten l.order l.has_flags) (take l.member-index l.others)
