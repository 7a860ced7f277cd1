use Rattle.std.proofs.Common.{arith}
use Rattle.wkb_command.specs.declared.program.Command.TheVariants.{Cost}
use Rattle.wkb_command.proofs.Reports.{fails_one, reports_line, says_accepted, says_counted}
use Rattle.wkb_command.proofs.program.cost_report.Goals as goal

pub returns-in-Err : goal.returns-in-Err
returns-in-Err c = grind (arith, fails_one)

pub returns-then-cost : goal.returns-then-cost
returns-then-cost c =
    reports_line Cost _ _ _ _ c.counts_report.ensures
    (says_accepted c.args.text.now c.in-Ok.cost c.if-cost.true c.in-Ok.ensures.ok)

pub returns-else-cost : goal.returns-else-cost
returns-else-cost c =
    reports_line Cost _ _ _ _ c.counts_report-else-cost.ensures
    (says_counted c.args.text.now c.in-Ok.cost c.if-cost.false c.in-Ok.ensures.ok)
