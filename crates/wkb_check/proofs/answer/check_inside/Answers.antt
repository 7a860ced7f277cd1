use Rattle.std.proofs.Common.{rules}
use Rattle.wkb_check.proofs.Public.{headless_checks, body_checks, found_checks_within}
use Rattle.wkb_check.proofs.answer.check_inside.Goals as goal

pub returns-in-Err-clause-checks : goal.returns-in-Err-clause-checks
returns-in-Err-clause-checks c = headless_checks c.args.around c.args.buf.now c.in-Err.cause c.in-Err.ensures

pub returns-in-Ok-skip_geometry-clause-checks : goal.returns-in-Ok-skip_geometry-clause-checks
returns-in-Ok-skip_geometry-clause-checks c =
    search (rules, found_checks_within, c.in-Ok.ensures, c.in-Ok-skip_geometry.ensures.passes)

pub returns-in-Err-skip_geometry-clause-checks : goal.returns-in-Err-skip_geometry-clause-checks
returns-in-Err-skip_geometry-clause-checks c =
    search (rules, body_checks, c.in-Ok.ensures, c.in-Err-skip_geometry.ensures)
