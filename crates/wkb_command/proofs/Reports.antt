-- What reports say.
use Rattle.std.proofs.Common.{arith, ◌≡◌, ◌≢◌, ℕ, List, [], ◌∷◌, ◌++◌, append_assoc, refl, ◌∙◌, Bool, true, false}
use Rattle.std.proofs.Common.{Option, Some, None, Result, ◌⊎◌, inl, inr, IfOk, codes}
use Rattle.std.specs.Fmt.{decimal}
use Rattle.std.specs.declared.alloc.AllocError.{AllocError}
use Rattle.std.proofs.lemmas.Result.{IfOk-weaker}
use Rattle.wkb_geom.specs.declared.{common.Endianness.Endianness, common.Form.TheVariants.Iso, error.WkbError.WkbError}
use Rattle.wkb_geom.specs.Encodings.{IsRewriting, IsRewritingWithSrid}
use Rattle.wkb_geom.specs.declared.error.WkbError.TheVariants as errors
use Rattle.wkb.specs.Canonical.{IsPairRefusal, OverflowsWithSrid, IsSize}
use Rattle.wkb.specs.Reads.{IsRefusal}
use Rattle.wkb_command.specs.declared.calls.Cost.{Cost as HexCost}
use Rattle.wkb_command.specs.declared.calls.HexFault.{HexFault}
use Rattle.wkb_command.specs.declared.calls.HexFault.TheVariants.{NotHex, Wkb, Memory}
use Rattle.wkb_command.specs.declared.program.Command.{Command}
use Rattle.wkb_command.specs.declared.program.Command.TheVariants.{Rewrite, RewriteWithSrid, Same, Cost, Srid}
use Rattle.wkb_command.specs.declared.program.Report.{Report}
use Rattle.wkb_command.specs.Readings.{HasSrid}
use Rattle.wkb_command.specs.Calls.{IsHex, OfHex, OfTwoHexes, IsCost, AreCompared, FailsOn, FailsOnTwo}
use Rattle.wkb_command.specs.Program.{Spells, one, two, TellsError, counts, hex_line, Says, rewritten}
use Rattle.wkb_command.specs.Program.{rewritten_with_srid, same, different, accepted, counted_refusal, srid, no_srid}
use Rattle.wkb_command.specs.Program.{refused, second_refused, Replies, said}
use Rattle.wkb_command.specs.Reports.{IsReport, IsReportOn, IsFailureOn, HasLines}
use Rattle.wkb_command.proofs.Spelled.{IsHex-from}

-- a fixed line
pub reports_line : (command : Command) (text line : List ℕ) (status : ℕ) (r : Result Report AllocError)
    → IfOk r (IsReport line status) → Replies command text line status → IfOk r (IsReportOn command text)
reports_line command text line status r h replies = IfOk-weaker r _ _ (λ report is. rw (is.0, is.1) replies) h

-- ---- failures

one_hex : (command : Command) (text : List ℕ) (inputs : List (List ℕ)) → command ≢ Same → Spells command text inputs
    → IsHex text
one_hex command text inputs ne (one other hex) = IsHex-from hex
one_hex command text inputs ne (two hex more) = absurd (ne refl)

pub fails_one : (command : Command) (text : List ℕ) (IsRight : List ℕ → WkbError → Type 0) (failure : HexFault)
    → command ≢ Same → ((bytes : List ℕ) (e : WkbError) → IsRight bytes e → (command ≢ Cost) × IsRefusal bytes e)
    → FailsOn text IsRight failure → IsFailureOn command text failure
fails_one command text IsRight NotHex ne f h = λ inputs spelled. h (one_hex command text inputs ne spelled)
fails_one command text IsRight (Wkb e) ne f h =
    let refusal = f h.0 e h.2 in λ line tells. said (one ne h.1) (refused refusal.0 refusal.1 tells)
fails_one command text IsRight Memory ne f h = tt

-- without an SRID no rewriting is too long
pub iso_refusal : (order : Endianness) (bytes : List ℕ) (e : WkbError)
    → IsRefusal bytes e ⊎ (OverflowsWithSrid order Iso bytes × IsSize e) → IsRefusal bytes e
iso_refusal order bytes e x = grind arith

says_pair : (a b line : List ℕ) (e : WkbError) → IsPairRefusal a b e → TellsError e line
    → Says Same (a ∷ b ∷ []) line 1
says_pair a b line e (inl h) tells = refused (λ is. cc) h tells
says_pair a b line e (inr h) tells = second_refused h.0 h.1 tells

pub fails_two : (text first second : List ℕ) (failure : HexFault) → HasLines text first second
    → FailsOnTwo first second IsPairRefusal failure → IsFailureOn Same text failure
fails_two text first second NotHex cut h = λ inputs spelled. h (cut.spelled inputs spelled)
fails_two text first second (Wkb e) cut h =
    λ line tells. rw cut.whole (said (two h.1 h.2.1) (says_pair h.0 h.2.0 line e h.2.2 tells))
fails_two text first second Memory cut h = tt

-- ---- answers

pub says_rewritten : (order : Endianness) (text items : List ℕ)
    → OfHex text (λ bytes. IsRewriting order Iso bytes items) → Replies (Rewrite order) text (hex_line items) 0
says_rewritten order text items h = said (one (λ is. cc) h.1) (rewritten h.2)

pub says_rewritten_with_srid : (order : Endianness) (text items : List ℕ)
    → OfHex text (λ bytes. IsRewritingWithSrid order bytes items)
    → Replies (RewriteWithSrid order) text (hex_line items) 0
says_rewritten_with_srid order text items h = said (one (λ is. cc) h.1) (rewritten_with_srid h.2)

pub says_same : (text first second : List ℕ) (equal : Bool) (r : Result Report AllocError) → HasLines text first second
    → IfOk r (IsReport (codes "same\n") 0) → equal ≡ true → OfTwoHexes first second (AreCompared equal)
    → IfOk r (IsReportOn Same text)
says_same text first second equal r cut new is h =
    reports_line Same text _ 0 r new (rw cut.whole (said (two h.1 h.2.1) (same (rw is at h.2.2))))

pub says_different : (text first second : List ℕ) (equal : Bool) (r : Result Report AllocError)
    → HasLines text first second → IfOk r (IsReport (codes "different\n") 0) → equal ≡ false
    → OfTwoHexes first second (AreCompared equal) → IfOk r (IsReportOn Same text)
says_different text first second equal r cut new is h =
    reports_line Same text _ 0 r new (rw cut.whole (said (two h.1 h.2.1) (different (rw is at h.2.2))))

pub ruleset comparison_laws = (says_same, says_different, fails_two)

pub counts_line : (verdict line : List ℕ) (turns slots : ℕ)
    → line ≡ verdict ++ (codes " turns " ++ (decimal turns ++ (codes " slots " ++ (decimal slots ++ codes "\n"))))
    → line ≡ counts verdict turns slots
counts_line verdict line turns slots is = is ∙ simp append_assoc

pub says_accepted : (text : List ℕ) (cost : HexCost) → cost.accepted ≡ true → OfHex text (IsCost cost)
    → Replies Cost text (counts (codes "accepted") cost.counts.turns cost.counts.slots) 0
says_accepted text cost is h = said (one (λ e. cc) h.1) (accepted (rw is at h.2))

pub says_counted : (text : List ℕ) (cost : HexCost) → cost.accepted ≡ false → OfHex text (IsCost cost)
    → Replies Cost text (counts (codes "refused") cost.counts.turns cost.counts.slots) 1
says_counted text cost is h = let refusal = rw is at h.2 in said (one (λ e. cc) h.1) (counted_refusal refusal.1)

pub says_srid : (text line : List ℕ) (number : ℕ) (found : Option ℕ) → found ≡ Some number
    → line ≡ codes "srid " ++ (decimal number ++ codes "\n") → OfHex text (λ bytes. HasSrid bytes found)
    → Replies Srid text line 0
says_srid text line number found is whole h =
    let ne : Srid ≢ Same = λ e. cc in rw whole (said (one ne h.1) (srid (rw is at h.2)))

pub says_no_srid : (text : List ℕ) (found : Option ℕ) (r : Result Report AllocError)
    → IfOk r (IsReport (codes "no srid\n") 0) → found ≡ None → OfHex text (λ bytes. HasSrid bytes found)
    → IfOk r (IsReportOn Srid text)
says_no_srid text found r new is h =
    reports_line Srid text _ 0 r new (said (one (λ e. cc) h.1) (no_srid (rw is at h.2)))

pub ruleset report_laws = (says_rewritten, says_rewritten_with_srid, says_srid, says_no_srid, fails_one, iso_refusal)
