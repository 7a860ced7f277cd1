use Rattle.std.proofs.Common.{rules}
use Rattle.wkb_abi.proofs.KindTotals.{totals_found}
use Rattle.wkb_abi.proofs.totals.Totals.of_plain.Goals as goal

pub returns-clause-totals : goal.returns-clause-totals
returns-clause-totals c = search (rules, totals_found)
