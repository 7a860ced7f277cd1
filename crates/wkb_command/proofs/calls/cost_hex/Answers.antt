use Rattle.std.proofs.Common.{◌∙◌, sym}
use Rattle.wkb_command.proofs.Costs.{accepted_cost}
use Rattle.wkb_command.proofs.calls.cost_hex.Goals as goal

pub returns-in-None-clause-ok : goal.returns-in-None-clause-ok
returns-in-None-clause-ok c =
    accepted_cost _ _ _ _ _ c.in_ok-bytes.ensures.ok c.as_slice.ensures.value c.read_wkb_counted-read.ensures.reads
    c.read_wkb_counted-read.ensures.costs (sym c.err.ensures.value ∙ c.in-None.is)
