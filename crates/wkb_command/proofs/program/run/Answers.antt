use Rattle.std.proofs.Common.{[], Err, refl, alloc_error}
use Rattle.std.proofs.KnownBytes.{Appends-nil}
use Rattle.std.proofs.lemmas.Result.{IfOk-weaker}
use Rattle.wkb_command.specs.Program.{misused, asked}
use Rattle.wkb_command.proofs.Runs.{some_input, ends_for_memory, ends_of}
use Rattle.wkb_command.proofs.program.run.Goals as goal

pub returns-in_default-clause-ends : goal.returns-in_default-clause-ends
returns-in_default-clause-ends g c =
    let input = some_input (g.R.Read.remaining c.args.input.now) in (
      input.0,
      input.1,
      ends_of _ _ _ _ _ c.tell.ensures
          (IfOk-weaker c.new.result _ _ (λ report is. rw (is.0, is.1) (misused c.in_default.ensures)) c.new.ensures),
    )

pub returns-in-Err-Memory-clause-ends : goal.returns-in-Err-Memory-clause-ends
returns-in-Err-Memory-clause-ends g c =
    let input = some_input (g.R.Read.remaining c.args.input.now) in
    (input.0, input.1, ends_of _ _ (Err alloc_error) _ _ c.tell-in-Err-Memory.ensures tt)

pub returns-in-Err-Unreadable-clause-ends : goal.returns-in-Err-Unreadable-clause-ends
returns-in-Err-Unreadable-clause-ends g c =
    let input = some_input (g.R.Read.remaining c.args.input.now) in
    (input.0, input.1, ends_for_memory _ (record { written = []; appended = Appends-nil _; parts = refl }))

pub returns-clause-ends : goal.returns-clause-ends
returns-clause-ends g c =
    let is_body = rw c.as_slice.ensures.value at c.without_last_feed-body.ensures in (
      c.in-Ok.bytes.items,
      c.in-Ok.ensures,
      ends_of _ _ _ _ _ c.tell-2.ensures
          (IfOk-weaker c.report_on_input.result _ _ (λ report replies. asked c.in-Some.ensures is_body replies)
          c.report_on_input.ensures),
    )
