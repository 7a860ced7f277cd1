-- Which texts are hex, and what texts spell for a command.
use Rattle.std.proofs.Common.{◌≡◌, ◌≢◌, ℕ, ◌<◌, true, List, ◌∷◌, ◌++◌, length, Option, Some, None, Err, refl, arith}
use Rattle.std.proofs.Common.{lit<, slice_index}
use Rattle.std.specs.Borrow.{Bor}
use Rattle.std.specs.List.{All}
use Rattle.std.specs.Str.{IsUtf8}
use Rattle.std.proofs.lemmas.Bool.Decides.{nat_tests}
use Rattle.std.proofs.lemmas.List.Elements.{All-append, All-cons}
use Rattle.std.proofs.lemmas.Str.{IsUtf8-from_ascii}
use Rattle.std.proofs.lemmas.Str.Ascii.{IsAscii-from_all}
use Rattle.std.proofs.lemmas.Str.Pattern.{IsSplitOnceResult, split_after, split_parts}
use Rattle.hex.specs.Hex.{decode_of, is_hex_digit}
use Rattle.hex.specs.declared.error.FromHexError.{FromHexError}
use Rattle.hex.proofs.HexLemmas.{decode_of-ok, decode_of-digits}
use Rattle.wkb_command.specs.Calls.{IsHex, IsHexOf}
use Rattle.wkb_command.specs.declared.{program.Command.Command, program.Command.TheVariants.Same}
use Rattle.wkb_command.specs.Program.{Spells, one, two, line_feed, IsOneLine}
use Rattle.wkb_command.specs.Reports.{HasLines}

-- ---- hex

pub IsHex-from : {text bytes : List ℕ} → IsHexOf text bytes → IsHex text
IsHex-from {text} {bytes} h =
    let found = decode_of-ok text bytes h.decoded in record { pairs = found.0; digits = found.1 }

pub not_hex : (text : List ℕ) (e : FromHexError) → decode_of text ≡ Err e → ¬ IsHex text
not_hex text e refused h = let found = decode_of-digits text h.pairs h.digits in cc (found.1, refused)

abbrev IsSmall : ℕ → Type 0
IsSmall c = c < 128

digit_small : (c : ℕ) → is_hex_digit c ≡ true → IsSmall c
digit_small c h = grind (arith, nat_tests)

digit_no_feed : (c : ℕ) → is_hex_digit c ≡ true → c ≢ line_feed
digit_no_feed c h = grind (arith, nat_tests)

hex_small : {text bytes : List ℕ} → IsHexOf text bytes → All IsSmall text
hex_small h = λ k d lt. digit_small _ ((IsHex-from h).digits k d lt)

hex_one_line : {text bytes : List ℕ} → IsHexOf text bytes → IsOneLine text
hex_one_line h = λ i lt. digit_no_feed _ ((IsHex-from h).digits i 0 lt)

abbrev pub HasFeed : List ℕ → Type 0
HasFeed text = (k : ℕ) × (k < length text) × (slice_index text k ≡ line_feed)

hex_no_feed : {text bytes : List ℕ} → IsHexOf text bytes → ¬ HasFeed text
hex_no_feed h found = hex_one_line h found.0 found.1 found.2

-- ---- what texts spell

-- only UTF-8 spells something
pub spelled_utf8 : (command : Command) (text : List ℕ) (inputs : List (List ℕ)) → Spells command text inputs
    → IsUtf8 text
spelled_utf8 command text inputs (one ne hex) = IsUtf8-from_ascii _ (IsAscii-from_all _ (hex_small hex))
spelled_utf8 command text inputs (two {first} {second} hex more) =
    let small : IsSmall line_feed = lit< tt in
    IsUtf8-from_ascii _ (IsAscii-from_all _
    (All-append IsSmall first _ (hex_small hex) (All-cons IsSmall line_feed second small (hex_small more))))

-- a line feed is in what `same` reads alone
pub feed_spells_none : (command : Command) (text : List ℕ) → command ≢ Same → HasFeed text → (inputs : List (List ℕ))
    → ¬ Spells command text inputs
feed_spells_none command text ne found inputs (one other hex) = hex_no_feed hex found
feed_spells_none command text ne found inputs (two hex more) = ne refl

pub uncut_spells_none : (text : List ℕ) → IsSplitOnceResult 10 text None → (inputs : List (List ℕ))
    → ¬ Spells Same text inputs
uncut_spells_none text none inputs (one ne hex) = ne refl
uncut_spells_none text none inputs (two {first} {second} hex more) =
    split_after 10 (first ++ line_feed ∷ second) first second None none (lit< tt) refl (hex_one_line hex)

spelled_around : (text : List ℕ) (x : Bor (List ℕ) × Bor (List ℕ)) → IsSplitOnceResult 10 text (Some x)
    → (inputs : List (List ℕ)) → Spells Same text inputs → IsHex x.0.now × IsHex x.1.now × ¬ HasFeed x.1.now
spelled_around text x cases inputs (one ne hex) = absurd (ne refl)
spelled_around text x cases inputs (two {first} {second} hex more) =
    let parts =
    split_after 10 (first ++ line_feed ∷ second) first second (Some x) cases (lit< tt) refl (hex_one_line hex) in
    ((rw parts.0 (IsHex-from hex)), (rw parts.1 (IsHex-from more)), (rw parts.1 (hex_no_feed more)))

module _ (text : List ℕ) (r : Option (Bor (List ℕ) × Bor (List ℕ))) (x : Bor (List ℕ) × Bor (List ℕ))
    (cases : IsSplitOnceResult 10 text r) (is : r ≡ Some x) where
  pub cut_of : HasLines text x.0.now x.1.now
  cut_of =
      let at_some = rw is at cases in record {
        whole = (split_parts 10 text (Some x) at_some (lit< tt)).0;
        spelled = λ inputs spelled. let around = spelled_around text x at_some inputs spelled in (around.0, around.1);
      }

  pub more_spells_none : HasFeed x.1.now → (inputs : List (List ℕ)) → ¬ Spells Same text inputs
  more_spells_none found inputs spelled = (spelled_around text x (rw is at cases) inputs spelled).2 found
