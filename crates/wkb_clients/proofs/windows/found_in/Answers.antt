use Rattle.std.proofs.Common.{arith}
use Rattle.wkb.proofs.Kept.{keeping_ends}
use Rattle.wkb_clients.proofs.windows.found_in.Goals as goal

pub returns : goal.returns
returns c = keeping_ends _ _ _ _ _ c.loop-row.invariant (omega (arith, c.loop-row-test.false))
