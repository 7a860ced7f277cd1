use Rattle.wkb_command.specs.Program.{not_hex}
use Rattle.wkb_command.proofs.Reports.{reports_line}
use Rattle.wkb_command.proofs.program.Report.not_hex.Goals as goal

pub returns : goal.returns
returns c = λ command text none. reports_line command text _ _ _ c.new.ensures (not_hex none)
