-- The program: the line that it writes and the status that it ends with, for its arguments and its input.
use Rattle.std.specs.Prelude.{◌≡◌, ◌≢◌, ◌⊎◌, ℕ, codes, Option, Some, None, IfSome, MatchOption}
use Rattle.std.specs.Prelude.{List, [], ◌∷◌, ◌++◌, map, EachIndex, slice_index, String, string_bytes}
use Rattle.std.specs.Global.{Global}
use Rattle.std.specs.declared.io.Read.{Ghosts as ReaderOf}
use Rattle.std.specs.declared.io.Write.{Ghosts as WriterOf}
use Rattle.std.specs.Fmt.{decimal}
use Rattle.std.specs.Io.{StartsWith}
use Rattle.std.specs.Io.KnownBytes.{Appends}
use Rattle.hex.specs.Hex.{encode_lower}
use Rattle.wkb_geom.specs.declared.{common.Endianness.Endianness, common.Endianness.TheVariants.BigEndian}
use Rattle.wkb_geom.specs.declared.{common.Endianness.TheVariants.LittleEndian, common.Form.TheVariants.Iso}
use Rattle.wkb_geom.specs.declared.{error.Cause.Cause, error.WkbError.WkbError}
use Rattle.wkb_geom.specs.Encodings.{IsRewriting, IsRewritingWithSrid}
use Rattle.wkb.specs.Canonical.{IsAccepted, HaveOneValue, HaveTwoValues}
use Rattle.wkb.specs.Reads.{IsRefusal}
use Rattle.wkb_command.specs.Readings.{Accepts, IsRefused, HasSrid}
use Rattle.wkb_command.specs.Calls.{IsHexOf}
use Rattle.wkb_geom.specs.declared.error.WkbError.TheVariants as errors
use Rattle.wkb_command.specs.declared.program.Command.{Command}
use Rattle.wkb_command.specs.declared.program.Command.TheVariants.{Rewrite, RewriteWithSrid, Same, Cost, Srid}

-- the argument that asks for each command
abbrev pub command_name : Command → List ℕ
command_name (Rewrite LittleEndian) = codes "le"
command_name (Rewrite BigEndian) = codes "be"
command_name (RewriteWithSrid LittleEndian) = codes "ewkb-le"
command_name (RewriteWithSrid BigEndian) = codes "ewkb-be"
command_name Same = codes "same"
command_name Cost = codes "cost"
command_name Srid = codes "srid"

-- the command of this name, or None if it is no command's
abbrev pub IsCommandNamed : List ℕ → Option Command → Type 0
IsCommandNamed name result =
    MatchOption result ((command : Command) → name ≢ command_name command) (λ command. name ≡ command_name command)

-- the arguments are no command's
abbrev pub AreNoCommand : List (List ℕ) → Type 0
AreNoCommand arguments = (command : Command) → arguments ≢ command_name command ∷ []

-- the command that the arguments ask for, or None
abbrev pub IsCommandOf : List (List ℕ) → Option Command → Type 0
IsCommandOf arguments result =
    MatchOption result (AreNoCommand arguments) (λ command. arguments ≡ command_name command ∷ [])

-- what is printed for other arguments
abbrev pub usage : List ℕ
usage = codes "usage: wkb_hex le|be|same|cost|srid|ewkb-le|ewkb-be\n"

-- ---- what a command reads

abbrev pub line_feed : ℕ
line_feed = 10

-- the input without one line feed at its very end
abbrev pub IsBody : List ℕ → List ℕ → Type 0
IsBody input body =
    (input ≡ body ++ line_feed ∷ []) ⊎ ((input ≡ body) × ((front : List ℕ) → input ≢ front ++ line_feed ∷ []))

-- A command reads the hex of these inputs: of two with a line feed between if it is `same`, else of one.
pub data Spells : Command → List ℕ → List (List ℕ) → Type 0 where
  one : {command : Command} {text bytes : List ℕ} → command ≢ Same → IsHexOf text bytes
      → Spells command text (bytes ∷ [])
  two : {first second a b : List ℕ} → IsHexOf first a → IsHexOf second b
      → Spells Same (first ++ line_feed ∷ second) (a ∷ b ∷ [])

-- ---- the statuses

-- of an accepted input
abbrev pub status_answered : ℕ
status_answered = 0

-- of an input that is rejected
abbrev pub status_refused : ℕ
status_refused = 1

-- of other arguments, and of an input that isn't hex
abbrev pub status_misused : ℕ
status_misused = 2

-- of a run that failed to allocate, to read or to write
abbrev pub status_failed : ℕ
status_failed = 3

-- ---- the table of the lines

-- without a line feed
abbrev pub IsOneLine : List ℕ → Type 0
IsOneLine text = EachIndex text (λ i. slice_index text i ≢ line_feed)

-- the hex of bytes as a line
abbrev pub hex_line : List ℕ → List ℕ
hex_line bytes = encode_lower bytes ++ line_feed ∷ []

-- `refused: ` and the text of an error, on one line
pub record IsRefusalLine (line : List ℕ) : Type 0 where
  pub text : List ℕ
  pub one_line : IsOneLine text
  pub whole : line ≡ codes "refused: " ++ text ++ codes "\n"

-- the line for an error: a text of its own for the end of the input, the text of the error for the others
abbrev pub TellsError : WkbError → List ℕ → Type 0
TellsError (errors.IOError e) line = line ≡ codes "refused: end of input\n"
TellsError _ line = IsRefusalLine line

-- the line of `cost`
abbrev pub counts : List ℕ → ℕ → ℕ → List ℕ
counts verdict turns slots =
    verdict ++ codes " turns " ++ decimal turns ++ codes " slots " ++ decimal slots ++ codes "\n"

-- The line that is written, and the status, for a command and its inputs.
pub data Says : Command → List (List ℕ) → List ℕ → ℕ → Type 0 where
  rewritten : {order : Endianness} {bytes answer : List ℕ} → IsRewriting order Iso bytes answer
      → Says (Rewrite order) (bytes ∷ []) (hex_line answer) status_answered
  rewritten_with_srid : {order : Endianness} {bytes answer : List ℕ} → IsRewritingWithSrid order bytes answer
      → Says (RewriteWithSrid order) (bytes ∷ []) (hex_line answer) status_answered
  same : {first second : List ℕ} → HaveOneValue first second
      → Says Same (first ∷ second ∷ []) (codes "same\n") status_answered
  different : {first second : List ℕ} → HaveTwoValues first second
      → Says Same (first ∷ second ∷ []) (codes "different\n") status_answered
  accepted : {bytes : List ℕ} {turns slots : ℕ} → Accepts bytes turns slots
      → Says Cost (bytes ∷ []) (counts (codes "accepted") turns slots) status_answered
  counted_refusal : {bytes : List ℕ} {cause : Cause} {turns slots : ℕ} → IsRefused bytes cause turns slots
      → Says Cost (bytes ∷ []) (counts (codes "refused") turns slots) status_refused
  srid : {bytes : List ℕ} {number : ℕ} → HasSrid bytes (Some number)
      → Says Srid (bytes ∷ []) (codes "srid " ++ decimal number ++ codes "\n") status_answered
  no_srid : {bytes : List ℕ} → HasSrid bytes None → Says Srid (bytes ∷ []) (codes "no srid\n") status_answered
  refused : {command : Command} {bytes line : List ℕ} {others : List (List ℕ)} {e : WkbError}
      → command ≢ Cost → IsRefusal bytes e → TellsError e line → Says command (bytes ∷ others) line status_refused
  second_refused : {first second line : List ℕ} {e : WkbError}
      → IsAccepted first → IsRefusal second e → TellsError e line → Says Same (first ∷ second ∷ []) line status_refused

-- The line and the status for a command and its text.
pub data Replies : Command → List ℕ → List ℕ → ℕ → Type 0 where
  said : {command : Command} {text line : List ℕ} {inputs : List (List ℕ)} {status : ℕ}
      → Spells command text inputs → Says command inputs line status → Replies command text line status
  not_hex : {command : Command} {text : List ℕ} → ((inputs : List (List ℕ)) → ¬ Spells command text inputs)
      → Replies command text (codes "not hex\n") status_misused

-- The line and the status for the arguments and the input.
pub data Answers (arguments : List (List ℕ)) (input : List ℕ) : List ℕ → ℕ → Type 0 where
  misused : AreNoCommand arguments → Answers arguments input usage status_misused
  asked : {command : Command} {body line : List ℕ} {status : ℕ} → arguments ≡ command_name command ∷ []
      → IsBody input body → Replies command body line status → Answers arguments input line status

-- ---- how a run ends

-- `IsDue` says which line and status are due. The whole line was written and its status returned, or the run failed
-- after a prefix of the line or of `out of memory`, perhaps empty or whole.
pub data RunOutcome (IsDue : List ℕ → ℕ → Type 0) : ℕ → List ℕ → Type 0 where
  answered : {line : List ℕ} {status : ℕ} → IsDue line status → RunOutcome IsDue status line
  cut_short : {line written : List ℕ} {status : ℕ} → IsDue line status → StartsWith line written
      → RunOutcome IsDue status_failed written
  out_of_memory : {written : List ℕ} → StartsWith (codes "out of memory\n") written
      → RunOutcome IsDue status_failed written

-- what the run wrote was appended to the output, and the run ended as above
pub record RunEnds (old new : Option (List ℕ)) (IsDue : List ℕ → ℕ → Type 0) (status : ℕ) : Type 0 where
  pub written : List ℕ
  pub appended : Appends old new written
  pub ends : RunOutcome IsDue status written

-- The run of the program with these arguments, to this writer, on what remains of this reader's input: on the bytes
-- that the reader reports, or on some if it reports none.
abbrev pub IsRunOf : {R W : Type 0} → ReaderOf R → WriterOf W → List (String Global) → R → W → W → ℕ → Type 0
IsRunOf reader writer arguments input old new status =
    (bytes : List ℕ) × IfSome (reader.remaining input) (λ all. bytes ≡ all)
    × RunEnds (writer.contents old) (writer.contents new) (Answers (map string_bytes arguments) bytes) status
