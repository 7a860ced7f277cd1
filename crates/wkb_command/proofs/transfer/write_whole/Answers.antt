use Rattle.std.proofs.Common.{arith}
use Rattle.wkb_command.proofs.Written.{wrote_once, wrote_more}
use Rattle.wkb_command.proofs.transfer.write_whole.Goals as goal

pub loop-rest-preserved : goal.loop-rest-preserved
loop-rest-preserved g c = grind (arith, wrote_more, wrote_once)
