-- Where the bytes and the words of the subjects of a table are.
use Rattle.std.specs.Prelude.{◌≡◌, ℕ, suc, ◌+◌, ◌*◌, List, [], ◌∷◌, ◌++◌, length, drop, slice_get, Some}
use Rattle.wkb_laws.specs.Prelude.{Endianness, Front, number, Coordinate, Value, member_count, Spelling}
use Rattle.wkb_check.specs.Subjects.{Subject, order_in, subject_coordinates, SpellsSubject, subjects}
use Rattle.wkb_abi.specs.Tables.{geometry_entries}
use Rattle.wkb_abi.specs.declared.parts.Part.{Part}

-- word n of coordinate i of the part is the number at its place in the input
abbrev pub HoldsWords : List ℕ → Part → Endianness → List Coordinate → Type 0
HoldsWords input p order cs = (i n w : ℕ) (c : Coordinate) → slice_get cs i ≡ Some c → slice_get c n ≡ Some w
    → number order 8 (drop (p.offset + 8 * (p.width * i + n)) input) ≡ w

-- the bytes of the part, from its first up to its end, spell it, and its words are where the entry says
pub record HoldsSubject (input : List ℕ) (p : Part) (x : Subject) : Type 0 where
  pub bytes : List ℕ
  pub rest : List ℕ
  pub stand : drop p.begin input ≡ bytes ++ rest
  pub end_is : p.end ≡ p.begin + length bytes
  pub spell : SpellsSubject x bytes
  pub words : HoldsWords input p (order_in x) (subject_coordinates x)

-- each entry holds its subject, and there are as many entries as subjects
abbrev pub HoldEach : List ℕ → List Part → List Subject → Type 0
HoldEach input [] [] = Unit {0}
HoldEach input (p ∷ parts) (x ∷ xs) = HoldsSubject input p x × HoldEach input parts xs
HoldEach input [] (x ∷ xs) = ⊥
HoldEach input (p ∷ parts) [] = ⊥

-- the table of the geometry that the input begins with: where the bytes and words of its parts are
pub record HasTable (input : List ℕ) (parts : List Part) : Type 0 where
  pub s : Spelling
  pub t : Value
  pub rest : List ℕ
  pub front : Front input s t rest
  pub parts_are : parts ≡ geometry_entries 0 0 s t
  pub hold : HoldEach input (geometry_entries 0 0 s t) (subjects s t)
  pub many : length parts ≡ suc (member_count t)
