use Rattle.wkb_abi.proofs.Common.{refl}
use Rattle.wkb_abi.specs.Columns.{accepted}
use Rattle.wkb_c.proofs.column_found.find_row.Goals as goal

pub returns-in-Some-clause-found : goal.returns-in-Some-clause-found
returns-in-Some-clause-found c = accepted c.in-Ok.row.now c.in-Ok.ensures.row refl c.found_of.ensures

pub returns-in-None-clause-found : goal.returns-in-None-clause-found
returns-in-None-clause-found c = c.find_any.ensures.found c.args.column.now c.args.i c.in-Ok.ensures.row
