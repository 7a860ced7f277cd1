-- How a run ends.
use Rattle.std.proofs.Common.{arith, ◌≡◌, ℕ, List, [], append-nil, Option, Some, None, IfSome, IfOk, Result, refl, sym}
use Rattle.std.proofs.Common.{◌∙◌, codes}
use Rattle.std.specs.declared.alloc.AllocError.{AllocError}
use Rattle.std.specs.Io.{StartsWith}
use Rattle.std.proofs.Math.Seq.{take-append_seam}
use Rattle.wkb_command.specs.declared.program.Report.{Report}
use Rattle.wkb_command.specs.Reports.{line_of, IsLineOf}
use Rattle.wkb_command.specs.Program.{RunOutcome, answered, cut_short, out_of_memory, RunEnds, status_failed}
use Rattle.wkb_command.specs.Transfer.{WroteUpTo}

-- an input for a run that reads none
pub some_input : (o : Option (List ℕ)) → (bytes : List ℕ) × IfSome o (λ all. bytes ≡ all)
some_input None = ([], tt)
some_input (Some x) = (x, refl)

-- ---- what was written

begins : {old new : Option (List ℕ)} {rest text : List ℕ} → (h : WroteUpTo old new rest text)
    → StartsWith text h.written
begins {rest = rest} h = rw (← h.parts) (take-append_seam h.written rest)

pub ends_whole : {old new : Option (List ℕ)} (rest line : List ℕ) (IsDue : List ℕ → ℕ → Type 0) (status : ℕ)
    → WroteUpTo old new rest line → rest ≡ [] → IsDue line status → RunEnds old new IsDue status
ends_whole rest line IsDue status h none due =
    let whole : h.written ≡ line = sym (append-nil h.written) ∙ (rw none at h.parts) in
    record { written = h.written; appended = h.appended; ends = rw whole (answered due) }

pub ends_cut : {old new : Option (List ℕ)} {rest line : List ℕ} (IsDue : List ℕ → ℕ → Type 0) (status : ℕ)
    → WroteUpTo old new rest line → IsDue line status → RunEnds old new IsDue status_failed
ends_cut IsDue status h due = record { written = h.written; appended = h.appended; ends = cut_short due (begins h) }

pub ends_for_memory : {old new : Option (List ℕ)} {rest : List ℕ} (IsDue : List ℕ → ℕ → Type 0)
    → WroteUpTo old new rest (codes "out of memory\n") → RunEnds old new IsDue status_failed
ends_for_memory IsDue h = record { written = h.written; appended = h.appended; ends = out_of_memory (begins h) }

-- ---- what is due

-- what is right for a report is right for the line that it gives
due_of : (r : Result Report AllocError) (IsDue : List ℕ → ℕ → Type 0)
    → IfOk r (λ report. IsDue (line_of report.output) report.status)
    → (line : List ℕ) (status : ℕ) → IsLineOf r line status → IsDue line status
due_of r IsDue h line status is = grind arith

outcome_of : (r : Result Report AllocError) (IsDue : List ℕ → ℕ → Type 0) (status : ℕ) (written : List ℕ)
    → IfOk r (λ report. IsDue (line_of report.output) report.status)
    → RunOutcome (IsLineOf r) status written → RunOutcome IsDue status written
outcome_of r IsDue status written h (answered due) = answered (due_of r IsDue h _ _ due)
outcome_of r IsDue status written h (cut_short due front) = cut_short (due_of r IsDue h _ _ due) front
outcome_of r IsDue status written h (out_of_memory front) = out_of_memory front

pub ends_of : (old new : Option (List ℕ)) (r : Result Report AllocError) (IsDue : List ℕ → ℕ → Type 0) (status : ℕ)
    → RunEnds old new (IsLineOf r) status → IfOk r (λ report. IsDue (line_of report.output) report.status)
    → RunEnds old new IsDue status
ends_of old new r IsDue status ends h = grind (arith, outcome_of)
