use Rattle.std.proofs.Common.{arith}
use Rattle.wkb_command.proofs.Failures.{call_failed}
use Rattle.wkb_command.proofs.calls.rewrite_hex.Goals as goal

pub returns-in_err-canonical-clause-err : goal.returns-in_err-canonical-clause-err
returns-in_err-canonical-clause-err c = grind (arith, call_failed)
