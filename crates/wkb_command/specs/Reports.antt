-- What a report says: the line that it is written as, and its status.
use Rattle.std.specs.Prelude.{◌≡◌, ℕ, List, ◌∷◌, ◌++◌, Option, MatchOption, Result, Ok, Err, string_bytes}
use Rattle.std.specs.Borrow.{Bor}
use Rattle.std.specs.declared.alloc.AllocError.{AllocError}
use Rattle.wkb_command.specs.Calls.{IsHex}
use Rattle.wkb_command.specs.Program.{hex_line, line_feed, status_refused, Spells, Replies, TellsError}
use Rattle.wkb_command.specs.declared.{calls.HexFault.HexFault, calls.HexFault.TheVariants.NotHex}
use Rattle.wkb_command.specs.declared.{calls.HexFault.TheVariants.Wkb, calls.HexFault.TheVariants.Memory}
use Rattle.wkb_command.specs.declared.{program.Command.Command, program.Command.TheVariants.Same, program.Report.Report}
use Rattle.wkb_command.specs.declared.{program.Output.Output, program.Output.TheVariants.Text}
use Rattle.wkb_command.specs.declared.program.Output.TheVariants.{Hex}

-- a text is written as it is, with its line feed, and bytes as a line of hex
abbrev pub line_of : Output → List ℕ
line_of (Text text) = string_bytes text
line_of (Hex bytes) = hex_line bytes.items

-- the report has this line and this status
abbrev pub IsReport : List ℕ → ℕ → Report → Type 0
IsReport line status report = (line_of report.output ≡ line) × (report.status ≡ status)

-- the report has what a command replies to this text
abbrev pub IsReportOn : Command → List ℕ → Report → Type 0
IsReportOn command text report = Replies command text (line_of report.output) report.status

-- a failure of this command on this text
abbrev pub IsFailureOn : Command → List ℕ → HexFault → Type 0
IsFailureOn command text NotHex = (inputs : List (List ℕ)) → ¬ Spells command text inputs
IsFailureOn command text (Wkb e) = (line : List ℕ) → TellsError e line → Replies command text line status_refused
IsFailureOn command text Memory = Unit {0}

-- a text is these lines, and what it spells for `same` is their hex
pub record HasLines (text first second : List ℕ) : Type 0 where
  pub whole : text ≡ first ++ line_feed ∷ second
  pub spelled : (inputs : List (List ℕ)) → Spells Same text inputs → IsHex first × IsHex second

-- the two lines of a text, or None if it spells nothing for `same`
abbrev pub AreTwoLines : List ℕ → Option (Bor (List ℕ) × Bor (List ℕ)) → Type 0
AreTwoLines text result =
    MatchOption result ((inputs : List (List ℕ)) → ¬ Spells Same text inputs) (λ x. HasLines text x.0.now x.1.now)

-- the line and the status of a report, if there was memory for one
abbrev pub IsLineOf : Result Report AllocError → List ℕ → ℕ → Type 0
IsLineOf (Ok report) line status = (line ≡ line_of report.output) × (status ≡ report.status)
IsLineOf (Err e) line status = ⊥
