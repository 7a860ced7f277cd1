use Rattle.std.proofs.Common.{arith, rules}
use Rattle.wkb_bounds.proofs.Widening.{run_next, run_done}
use Rattle.wkb_bounds.proofs.extremes.Extremes.widen_by.Goals as goal

pub loop-left-preserved : goal.loop-left-preserved
loop-left-preserved c = search (rules, run_next)

pub returns : goal.returns
returns c = run_done c.loop-left.invariant.left (omega arith)
