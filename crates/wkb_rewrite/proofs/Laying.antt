-- Bytes that are laid one after another.
use Rattle.std.proofs.Common.{◌≡◌, length, append_assoc, length-append, append-nil, slice_set, if◌then◌else◌, drop-drop}
use Rattle.std.proofs.Common.{ℕ, ◌+◌, ◌≤◌, List, [], ◌++◌, take, refl, ap, ◌∙◌, arith, ◌≢◌, ◌∷◌, None, Bool, ne_eqb}
use Rattle.std.proofs.lemmas.List.Edits.{sets-eq}
use lib.Seq.{length-sets}
use Rattle.wkb_laws.proofs.Parts.{take_front}
use Rattle.wkb_laws.specs.Prelude.{Endianness, Dimension, Form, order_byte, form_srid, type_of, srid_size, WkbType}
use Rattle.wkb_geom.specs.Encodings.{type_code}
unfoldable use Rattle.wkb_laws.specs.Prelude.{number_bytes, header_encoding, srid_encoding}
use borrow.Rule.Slice.PartMut.{put_mid}
use Rattle.wkb_check.proofs.Placing.{sets_after}
use Rattle.wkb_sink.proofs.Lengths.{length-number, length-header}
use Rattle.wkb_rewrite.specs.Shares.{IsLaidAt, type_header, header_part}

-- a part of a slice that was borrowed
pub part_laid : (all part bytes : List ℕ) (at k end : ℕ) → at + length bytes ≤ length all → length bytes ≡ k
    → end ≡ at + k → part ≡ bytes → IsLaidAt all (put_mid at k all part) at end bytes
part_laid all part bytes at k end room long ends is = grind (arith, drop-drop, append_assoc, sets-eq)

pub laid_on : {a b c : List ℕ} {i j k : ℕ} {xs ys : List ℕ} → IsLaidAt a b i j xs → IsLaidAt b c j k ys
    → IsLaidAt a c i k (xs ++ ys)
laid_on p q = grind (arith, length-append, sets_after)

pub laid_length : {a b : List ℕ} {i j : ℕ} {xs : List ℕ} → IsLaidAt a b i j xs → length b ≡ length a
laid_length {a = a} {i = i} {xs = xs} p = ap length p.laid ∙ length-sets a i xs

pub byte_laid : {a b : List ℕ} {i j byte : ℕ} {xs : List ℕ} → IsLaidAt (slice_set a i byte) b (i + 1) j xs
    → IsLaidAt a b i j (byte ∷ xs)
byte_laid p = grind arith

pub nothing_laid : (out : List ℕ) (at : ℕ) → IsLaidAt out out at at []
nothing_laid out at = record { end_is = omega arith; laid = refl }

-- at the start of a slice
pub laid_front : {a b : List ℕ} {j : ℕ} {xs : List ℕ} → IsLaidAt a b 0 j xs → length xs ≤ length a → take j b ≡ xs
laid_front p room = grind (arith, sets-eq, take_front)

-- ---- headers

-- a header without an SRID
pub bare_header : (order : Endianness) (form : Form) (t : WkbType) (code : ℕ) → code ≡ type_code form t
    → form_srid form ≡ None → order_byte order ∷ number_bytes order 4 code ≡ type_header order form t
unfolding header_encoding srid_encoding
bare_header order form t code c s = grind (arith, append-nil)

-- a piece that is no ring has its type's
pub header_of_some : (order : Endianness) (form : Form) (k : ℕ) (d : Dimension) → k ≢ 0
    → header_part order form k d ≡ type_header order form (type_of k d)
header_of_some order form k d some = ap (λ t. if t then [] else type_header order form (type_of k d)) (ne_eqb k 0 some)

-- ---- what search is given

pub most_srid : (some : Bool) → srid_size some ≤ 4
most_srid some = grind arith

pub ruleset lay_laws = (length-number, nothing_laid, part_laid, laid_length)

pub ruleset copy_laws = (length-header, most_srid, laid_length, laid_front, part_laid)
