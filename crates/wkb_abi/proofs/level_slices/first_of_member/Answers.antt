use Rattle.wkb_abi.proofs.Common.{arith}
use Rattle.wkb_check.proofs.Placing.{itself_first}
use Rattle.wkb_abi.proofs.level_slices.first_of_member.Goals as goal

pub next_bare-requires : goal.next_bare-requires
next_bare-requires c = record { ahead = record { pieces = _; are = c.of.ensures.ahead c.requires } }

pub returns-in-Some : goal.returns-in-Some
returns-in-Some c = λ g.
    let taken = c.in-Some.ensures.taken.takes.steps _ (c.of.ensures.ahead g) in
    let first = taken.first in
    grind (arith, itself_first)
