use Rattle.std.proofs.Common.{length}
use Rattle.wkb_command.specs.Transfer.{WroteUpTo}
use Rattle.wkb_command.proofs.transfer.write_whole.Given as goal

abbrev pub invariant-loop-rest : goal.invariant-loop-rest
invariant-loop-rest g l = WroteUpTo (g.W.Write.contents l.initial.out) (g.W.Write.contents l.out) l.rest l.bytes

abbrev pub decreases-loop-rest : goal.decreases-loop-rest
decreases-loop-rest g l = length l.rest
