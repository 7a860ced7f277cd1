use Rattle.wkb_abi.proofs.Common.{refl}
use Rattle.wkb_abi.specs.Columns.{accepted, refused}
use Rattle.wkb_c.proofs.column_found.find_any.Goals as goal

pub returns-in-Ok-clause-found : goal.returns-in-Ok-clause-found
returns-in-Ok-clause-found c = λ column i is. accepted c.args.row.now is refl c.found_of.ensures

pub returns-in-Err-clause-found : goal.returns-in-Err-clause-found
returns-in-Err-clause-found c = λ column i is. refused c.args.row.now is c.in-Err.ensures.refused refl
