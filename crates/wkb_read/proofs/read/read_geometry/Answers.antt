use Rattle.wkb_read.proofs.Prelude.{arith}
use Rattle.wkb_read.proofs.read.read_geometry.Goals as goal

pub returns-in-Ok-Opened-clause-reads : goal.returns-in-Ok-Opened-clause-reads
returns-in-Ok-Opened-clause-reads c = grind arith
