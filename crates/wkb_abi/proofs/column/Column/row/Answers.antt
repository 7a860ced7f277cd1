use Rattle.wkb_abi.proofs.Common.{arith}
use Rattle.std.proofs.lemmas.Grind.{common_steps}
use Rattle.wkb_abi.proofs.Spans.{reached, reach_same}
use Rattle.wkb_abi.proofs.column.Column.row.Goals.{then-null, else-null}
use Rattle.wkb_abi.proofs.column.Column.row.Goals as goal

pub returns-in_default-clause-reach : goal.returns-in_default-clause-reach
returns-in_default-clause-reach c = reach_same _ _ _ c.requires.before c.in_default.ensures.none

pub returns-in_default-clause-none : goal.returns-in_default-clause-none
returns-in_default-clause-none c = grind (arith, then-null, else-null)

pub returns-then-null-2-clause-reach : goal.returns-then-null-2-clause-reach
returns-then-null-2-clause-reach c = reached _ _ _ c.max.ensures c.requires.before c.in-Some.ensures.some

pub returns-then-start-before-clause-reach : goal.returns-then-start-before-clause-reach
returns-then-start-before-clause-reach c =
    reached _ _ _ c.max.ensures c.requires.before c.in-Some.ensures.some

pub returns-clause-reach : goal.returns-clause-reach
returns-clause-reach c = reached _ _ _ c.max.ensures c.requires.before c.in-Some.ensures.some

pub returns-clause-row : goal.returns-clause-row
returns-clause-row c = grind (arith, common_steps)
