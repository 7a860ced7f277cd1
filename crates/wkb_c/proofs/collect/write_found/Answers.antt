use Rattle.wkb_abi.proofs.Common.{arith}
use Rattle.wkb_c.proofs.Gathering.{described_with, found_written}
use Rattle.wkb_c.proofs.collect.write_found.Goals as goal

pub write_requested-status-requires : goal.write_requested-status-requires
write_requested-status-requires c = described_with c.requires (omega (arith, c.requires.front.shallow))

pub returns-clause-written : goal.returns-clause-written
returns-clause-written c =
    found_written (λ i. (c.type_inv.row i).fits) c.requires (c.takes.ensures.fits c.if-not-takes.false)
    (rw c.inner.ensures at c.write_requested-status.ensures)
