use Rattle.std.proofs.Common.{refl, rules}
use Rattle.wkb_command.proofs.Runs.{ends_whole, ends_cut, ends_for_memory}
use Rattle.wkb_command.proofs.program.tell.Goals as goal

pub returns-in-Ok-write_to : goal.returns-in-Ok-write_to
returns-in-Ok-write_to g c = search (rules, ends_whole, c.in-Ok-write_to.ensures, c.in-Ok.is)

pub returns-in-Ok : goal.returns-in-Ok
returns-in-Ok g c = ends_cut _ c.in-Ok.report.status c.write_to.ensures.beginning (rw c.in-Ok.is (refl, refl))

pub returns : goal.returns
returns g c = ends_for_memory _ c.write_whole.ensures.beginning
