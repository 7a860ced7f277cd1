use Rattle.wkb_command.proofs.Failures.{call_failed}
use Rattle.wkb_command.proofs.calls.same_hex.Goals as goal

pub returns-in_err-same-clause-err : goal.returns-in_err-same-clause-err
returns-in_err-same-clause-err c =
    call_failed _ _ _ _ _ c.in_err-same.ensures.err c.from_residual-in_err-same.ensures.1
    (λ h. (
      c.as_slice.result.now,
      (rw c.as_slice.ensures.value c.in_ok-first.ensures.ok),
      (c.as_slice-2.result.now, (rw c.as_slice-2.ensures.value c.in_ok-second.ensures.ok), h),
    ))
