-- What is written of a line in parts, and of its hex in pieces.
use Rattle.std.proofs.Common.{◌≡◌, ℕ, ◌<◌, ◌*◌, ◌+◌, ◌-◌, List, [], ◌∷◌, ◌++◌, length, take, drop}
use Rattle.std.proofs.Common.{slice_set, append_assoc, Option, Result, Ok, Err, refl, arith}
use Rattle.std.specs.Result.{result_unwrap_or}
use Rattle.std.specs.Io.KnownBytes.{WriteAppends}
use Rattle.std.proofs.KnownBytes.{Appends-kept, Appends-nil, Appends-trans}
use Rattle.std.proofs.lemmas.Grind.{common_steps}
use Rattle.std.proofs.lemmas.List.{take_more_set}
use Rattle.hex.specs.Hex.{encode_with, encode_lower}
use Rattle.wkb_command.specs.Program.{line_feed, hex_line}
use Rattle.wkb_command.specs.Transfer.{WroteUpTo, WroteBeginning}

-- one write: it took as many bytes as it says, at an error none
pub wrote_once : {E : Type 0} (old new : Option (List ℕ)) (r : Result ℕ E) (count : ℕ) (text : List ℕ)
    → count ≡ result_unwrap_or r 0 → WriteAppends old new r text
    → WroteUpTo old new (take (length text - count) (drop count text)) text
wrote_once old new (Ok n) count text is p = grind (arith, common_steps)
wrote_once old new (Err e) count text is p = record {
  written = [];
  appended = Appends-kept _ _ _ _ (Appends-nil old) p;
  parts = rw is (grind (arith, common_steps));
}

-- some of the rest is written, too
pub wrote_more : {old mid new : Option (List ℕ)} {rest left text : List ℕ} → WroteUpTo old mid rest text
    → WroteUpTo mid new left rest → WroteUpTo old new left text
wrote_more g h = record {
  written = g.written ++ h.written;
  appended = Appends-trans _ _ _ _ _ g.appended h.appended;
  parts = rw (append_assoc, h.parts) g.parts;
}

-- more comes behind the text
wrote_before : {old new : Option (List ℕ)} {rest text : List ℕ} (behind : List ℕ) → WroteUpTo old new rest text
    → WroteUpTo old new (rest ++ behind) (text ++ behind)
wrote_before behind h = record { written = h.written; appended = h.appended; parts = rw (← append_assoc, h.parts) }

-- ---- hex

encode_with-append : (table front rest : List ℕ)
    → encode_with table (front ++ rest) ≡ encode_with table front ++ encode_with table rest
unfolding encode_with
encode_with-append table [] rest = refl
encode_with-append table (b ∷ front) rest = rw (encode_with-append table front rest) refl

hex_line-append : (piece after : List ℕ) → hex_line (piece ++ after) ≡ encode_lower piece ++ hex_line after
hex_line-append piece after = grind (arith, append_assoc, encode_with-append)

-- the digits of a piece of the rest were written, up to what is left of them
pub piece_written : {T E : Type 0} {old mid new : Option (List ℕ)} {digits : List ℕ} {r : Result T E}
    (rest piece after bytes left : List ℕ) → rest ≡ piece ++ after → digits ≡ encode_lower piece
    → WroteUpTo old mid (hex_line rest) (hex_line bytes) → (wrote : WroteBeginning mid new digits r)
    → wrote.rest ++ hex_line after ≡ left → WroteUpTo old new left (hex_line bytes)
piece_written rest piece after bytes left parts hex before wrote is =
    let next = wrote_before (hex_line after) wrote.beginning in
    wrote_more (rw (parts, hex_line-append piece after) at before) (rw (hex, is) at next)

-- the digits of the last piece, and a line feed
pub digits_and_feed : (digits piece : List ℕ) → take (2 * length piece) digits ≡ encode_lower piece
    → 2 * length piece < length digits
    → take (2 * length piece + 1) (slice_set digits (2 * length piece) line_feed) ≡ hex_line piece
digits_and_feed digits piece hex fits = grind (arith, take_more_set)
