-- Lemmas on bytes that spell a value, however deep its collections nest: they serve every view in hand.
use Rattle.std.proofs.Common.{◌≡◌, ◌↔◌, ℕ, ◌+◌, ◌*◌, ◌<◌, ◌^◌, List, length, Option, None}
use Rattle.wkb_laws.specs.Prelude.{Endianness, Form, Iso, Ewkb, AreBytes, Value, Spelling, header, srid_count, Spells}
use Rattle.wkb_laws.specs.Prelude.{IsGeometry, normal, geometry_of, byte_size, encoding, IsForm, IsWritable}

-- the bytes of a value by its spelling: its size in ISO codes, and four for each SRID
abbrev pub spelled_size : Spelling → Value → ℕ
spelled_size s t = byte_size (geometry_of t) + 4 * srid_count s

-- Bytes of which it is known that they spell a value spell it by these very fields.
abbrev pub SpelledInFull : Type 0
SpelledInFull = (s : Spelling) (t : Value) (bytes : List ℕ) → ∥ Spells s t bytes ∥₁ → Spells s t bytes

-- A value is spelled by the number of bytes that its spelling and itself give.
abbrev pub SizeOfSpelled : Type 0
SizeOfSpelled = (s : Spelling) (t : Value) (bytes : List ℕ) → Spells s t bytes → length bytes ≡ spelled_size s t

-- The value is a lawful geometry and its own normal value. It can be written in ISO codes, in as many bytes less four
-- for each SRID, and under EWKB with its own SRID or without one.
pub record IsRewritable (s : Spelling) (t : Value) (bytes : List ℕ) : Type 0 where
  pub lawful : IsGeometry (geometry_of t)
  pub normal_is : normal (geometry_of t) ≡ t
  pub iso : (order : Endianness) → IsWritable order Iso (geometry_of t)
  pub size : (order : Endianness) → length bytes ≡ length (encoding order Iso (geometry_of t)) + 4 * srid_count s
  pub ewkb : (order : Endianness) → IsWritable order (Ewkb None) (geometry_of t)
  pub own_form : IsForm (Ewkb (header s).srid)
  pub own_srid : (order : Endianness) → IsWritable order (Ewkb (header s).srid) (geometry_of t)

-- Every value that bytes in memory spell can be written in these ways.
abbrev pub SpelledIsWritable : Type 0
SpelledIsWritable =
    (s : Spelling) (t : Value) (bytes : List ℕ) → AreBytes bytes → length bytes < 2 ^ 64 → Spells s t bytes
    → IsRewritable s t bytes

-- Two values that bytes spell are equal exactly where they are written alike.
abbrev pub EqualSpelled : Type 0
EqualSpelled = (order : Endianness) (form : Form) (s u : Spelling) (t v : Value) (x y : List ℕ)
    → IsForm form → AreBytes x → AreBytes y → Spells s t x → Spells u v y
    → (encoding order form (geometry_of t) ≡ encoding order form (geometry_of v)) ↔ (t ≡ v)

-- Two values that bytes spell are written alike under EWKB exactly where they are equal and the same SRID, or none, is
-- written.
abbrev pub EqualSpelledWithSrid : Type 0
EqualSpelledWithSrid = (order : Endianness) (i j : Option ℕ) (s u : Spelling) (t v : Value) (x y : List ℕ)
    → IsForm (Ewkb i) → IsForm (Ewkb j) → AreBytes x → AreBytes y → Spells s t x → Spells u v y
    → (encoding order (Ewkb i) (geometry_of t) ≡ encoding order (Ewkb j) (geometry_of v)) ↔ ((t ≡ v) × (i ≡ j))
