use Rattle.std.proofs.Common.{rules}
use Rattle.wkb_bounds.proofs.scan.run_bounds_by_into.Goals as goal

pub returns : goal.returns
returns c = search (rules, c.widen.ensures, c.bounds.ensures, c.none-extremes.ensures)
