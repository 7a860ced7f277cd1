-- The layout of a member that is known to stand at the start of the bytes, by its first byte and the flag of its code.
use Rattle.std.proofs.Common.{length, Option, false, arith, length-drop, Result, nat_lt, if◌then◌else◌, slice_index_or}
use Rattle.std.proofs.Common.{◌≡◌, ℕ, ◌≤◌, List, drop, Some, None, Bool, true, sym, ap, ◌∙◌, Ok, Err, IsOk, ◌==◌, not}
use Rattle.std.proofs.lemmas.Bool.{ltb-false}
use Rattle.wkb_geom.specs.declared.{common.Dimension.Dimension, common.Endianness.Endianness, header.Head.Head}
use Rattle.wkb_geom.specs.declared.{header.Layout.Layout, error.Cause.Cause}
use Rattle.wkb_geom.specs.declared.error.Cause.TheVariants.{EndOfInput as end_of_input}
use Rattle.wkb_geom.specs.Meanings.{has_srid_flag}
use Rattle.wkb_geom.specs.Numbers.{number}
use Rattle.wkb_geom.specs.Reading.{Meaning, meaning_of, head_by_code, head_by_order, head_at, order_of_byte, laid}
use Rattle.wkb_geom.specs.Reading.{layout_wanted, member_layout}

-- the layout of a member of this order and code
abbrev layout_by : ℕ → Dimension → Endianness → ℕ → Layout
layout_by k d order code = laid order d (if k == 1 then false else has_srid_flag code)

-- what is known where a member stands: its order, that its code is whole, and its layout
pub record Known (k : ℕ) (d : Dimension) (first : Option Endianness) (behind : List ℕ)
    (layout : Result Layout Cause) : Type 0 where
  pub order : Endianness
  pub order_is : first ≡ Some order
  pub whole : 4 ≤ length behind
  pub layout_is : layout ≡ Ok (layout_by k d order (number order 4 behind))

wanted : (k : ℕ) (d : Dimension) (h : Head) → IsOk (layout_wanted k d (Ok h))
    → layout_wanted k d (Ok h) ≡ Ok (laid h.order d (if k == 1 then false else h.has_srid))
wanted k d h is = grind arith

flag_of : (t : Bool) (m n : Meaning) → (if t then Some m else None) ≡ Some n → n.has_srid ≡ m.has_srid
flag_of t m n e = grind arith

-- a meaning has the flag of its code
flag_meant : (c : ℕ) (m : Meaning) → meaning_of c ≡ Some m → m.has_srid ≡ has_srid_flag c
unfolding meaning_of
flag_meant c m e = flag_of _ _ m e

by_code : (k : ℕ) (d : Dimension) (order : Endianness) (c : ℕ) (m : Option Meaning) → meaning_of c ≡ m
    → IsOk (layout_wanted k d (head_by_code order c m))
    → layout_wanted k d (head_by_code order c m) ≡ Ok (layout_by k d order c)
by_code k d order c None e h = absurd cc
by_code k d order c (Some m) e h = grind (arith, wanted, flag_meant)

-- the header behind an order, by whether the bytes are too short for one
abbrev head_if : Bool → Endianness → List ℕ → Result Head Cause
head_if short order behind =
    if short then Err end_of_input else head_by_code order (number order 4 behind) (meaning_of (number order 4 behind))

by_length : (k : ℕ) (d : Dimension) (order : Endianness) (behind : List ℕ) (short : Bool)
    → nat_lt (length behind) 4 ≡ short
    → IsOk (layout_wanted k d (head_if short order behind))
    → Known k d (Some order) behind (layout_wanted k d (head_if short order behind))
by_length k d order behind short e h = grind (arith, ltb-false, by_code)

by_order : (k : ℕ) (d : Dimension) (first : Option Endianness) (behind : List ℕ)
    → IsOk (layout_wanted k d (head_by_order first behind))
    → Known k d first behind (layout_wanted k d (head_by_order first behind))
by_order k d first behind h = grind (arith, by_length)

known : (k : ℕ) (d : Dimension) (bytes : List ℕ) → IsOk (member_layout k d bytes)
    → Known k d (order_of_byte (slice_index_or bytes 0 0)) (drop 1 bytes) (member_layout k d bytes)
unfolding head_at
known k d bytes h = grind (arith, by_order)

module _ (k : ℕ) (d : Dimension) (bytes : List ℕ) (is : IsOk (member_layout k d bytes)) where
  pub known_whole : 5 ≤ length bytes
  known_whole = let stands = known k d bytes is in omega (arith, stands.whole, length-drop 1 bytes)

  pub known_order : (o : Option Endianness) → o ≡ order_of_byte (slice_index_or bytes 0 0) → o ≡ None → ⊥
  known_order o e none = let stands = known k d bytes is in apart stands.order (sym stands.order_is ∙ sym e ∙ none)
    where
      apart : (order : Endianness) → Some order ≡ None → ⊥
      apart order h = cc

  known_layout : (order : Endianness) → order_of_byte (slice_index_or bytes 0 0) ≡ Some order
      → member_layout k d bytes ≡ Ok (layout_by k d order (number order 4 (drop 1 bytes)))
  known_layout order first =
      let stands = known k d bytes is in
      stands.layout_is
      ∙ ap (λ (x : Endianness). Ok (layout_by k d x (number x 4 (drop 1 bytes))))
      (same_order stands.order order (sym stands.order_is ∙ first))
    where
      same_order : (a b : Endianness) → Some a ≡ Some b → a ≡ b
      same_order a b h = cc

  -- the flag of another member than a point is read
  pub known_flagged : (order : Endianness) (code : ℕ) (point : Bool) (dimension : Dimension)
      → order_of_byte (slice_index_or bytes 0 0) ≡ Some order → code ≡ number order 4 (drop 1 bytes)
      → point ≡ (k == 1) → point ≡ false → dimension ≡ d
      → member_layout k d bytes ≡ Ok (laid order dimension (has_srid_flag code))
  known_flagged order code point dimension first code-is one other same =
      rw (same, code-is)
      (known_layout order first
      ∙ ap (λ (is : Bool). Ok (laid order d (if is then false else has_srid_flag (number order 4 (drop 1 bytes)))))
      (sym one ∙ other))

  -- that of a point is not set
  pub known_point : (order : Endianness) (point : Bool) (dimension : Dimension)
      → order_of_byte (slice_index_or bytes 0 0) ≡ Some order → point ≡ (k == 1) → point ≡ true → dimension ≡ d
      → member_layout k d bytes ≡ Ok (laid order dimension (not point))
  known_point order point dimension first is one same =
      rw (same, one)
      (known_layout order first
      ∙ ap (λ (is : Bool). Ok (laid order d (if is then false else has_srid_flag (number order 4 (drop 1 bytes)))))
      (sym is ∙ one))
