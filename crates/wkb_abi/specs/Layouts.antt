-- How the structs are laid out that cross to C: their sizes and alignments, and which field begins where. The rule is
-- that of the checker's machine, which lays a struct out as C does.
use Rattle.std.specs.Prelude.{◌≡◌, ℕ, List, [], ◌∷◌}
use denote.Builtin.{u8, u64}
use denote.RattleType.{RattleType}
use denote.Ref.{NamedLft}
use denote.Slice.{ShrSlice, MutSlice}
use denote.Struct.Declared.{Declared, row}
use denote.Struct.Values.{Values}
use mir.Syntax.{Ty}
use prog.Offsets.{Lies}
use Rattle.wkb_abi.specs.contracts.parts.Part.{the_type as part}
use Rattle.wkb_bounds.specs.contracts.range.Bounds.{the_type as bounds}
use Rattle.wkb_bounds.specs.contracts.range.Range.{the_type as range}
use Rattle.wkb_abi.specs.contracts.column.Column.{the_type as column}
use Rattle.wkb_abi.specs.contracts.level_slices.LevelSlices.{the_type as level_slices}
use Rattle.wkb_abi.specs.contracts.totals.Totals.{the_type as totals}
use Rattle.wkb_abi.specs.contracts.fault.WkbFault.{the_type as fault}
use Rattle.wkb_abi.specs.contracts.found.Found.{the_type as found}
use Rattle.wkb_abi.specs.contracts.level_column.LevelColumn.{the_type as level_column}
use Rattle.wkb_abi.specs.contracts.options.Options.{the_type as options}

-- a field, and those after it
abbrev pub ◌▸◌ : {A B : Type 0} → A → B → A × B
first ▸ rest = (first, rest)

infixr 35 ◌▸◌
-- the values of a type have this size and alignment, and their fields begin at these offsets
pub record HasLayout (T : RattleType) (size alignment : ℕ) (offsets : List ℕ) : Type 0 where
  pub type : Ty
  pub type_is : T.mir ≡ type ∷ []
  pub lies : Lies type size alignment offsets

-- and the fields of a struct are these, in this order
pub record IsLaidOut (T : Declared) (fields : T.D → Values T.parts) (size alignment : ℕ) (offsets : List ℕ) : Type 0
  where
    pub order : (x : T.D) → T.as_values x ≡ fields x
    pub layout : HasLayout (row T) size alignment offsets

-- what the check finds
abbrev pub FoundLayout : Type 0
FoundLayout = IsLaidOut found
    (λ f. f.size ▸ f.parts ▸ f.coordinates ▸ f.offset ▸ f.count ▸ f.srid ▸ f.has_srid
    ▸ f.kind ▸ f.dimension ▸ f.width ▸ f.order ▸ tt)
    64 8 (0 ∷ 8 ∷ 16 ∷ 24 ∷ 32 ∷ 40 ∷ 44 ∷ 48 ∷ 52 ∷ 56 ∷ 60 ∷ [])

abbrev pub FaultLayout : Type 0
FaultLayout = IsLaidOut fault
    (λ f. f.part ▸ f.offset ▸ f.end ▸ f.len ▸ f.code ▸ f.status ▸ tt)
    40 8 (0 ∷ 8 ∷ 16 ∷ 24 ∷ 32 ∷ 36 ∷ [])

abbrev pub OptionsLayout : Type 0
OptionsLayout = IsLaidOut options
    (λ o. o.order ▸ o.form ▸ o.srid ▸ tt)
    12 4 (0 ∷ 4 ∷ 8 ∷ [])

-- an entry of a table
abbrev pub PartLayout : Type 0
PartLayout = IsLaidOut part
    (λ p. p.begin ▸ p.end ▸ p.offset ▸ p.count ▸ p.next ▸ p.srid ▸ p.has_srid
    ▸ p.kind ▸ p.dimension ▸ p.width ▸ p.order ▸ tt)
    64 8 (0 ∷ 8 ∷ 16 ∷ 24 ∷ 32 ∷ 40 ∷ 44 ∷ 48 ∷ 52 ∷ 56 ∷ 60 ∷ [])

abbrev pub RangeLayout : Type 0
RangeLayout = IsLaidOut range
    (λ r. r.least ▸ r.greatest ▸ r.count ▸ tt)
    24 8 (0 ∷ 8 ∷ 16 ∷ [])

-- four ranges
abbrev pub BoundsLayout : Type 0
BoundsLayout = IsLaidOut bounds
    (λ b. b.x ▸ b.y ▸ b.z ▸ b.m ▸ tt)
    96 8 (0 ∷ 24 ∷ 48 ∷ 72 ∷ [])

abbrev pub TotalsLayout : Type 0
TotalsLayout = IsLaidOut totals
    (λ t. t.coordinates ▸ t.rings ▸ t.singles ▸ tt)
    24 8 (0 ∷ 8 ∷ 16 ∷ [])

-- a slice in a struct: a pointer and a length, at these offsets; which of them is the first is the compiler's rule
pub record SliceLayout : Type 0 where
  pub bytes : (a : NamedLft) → HasLayout (ShrSlice a.mir a.lft u8) 16 8 (0 ∷ 8 ∷ [])
  pub words : (a : NamedLft) → HasLayout (ShrSlice a.mir a.lft u64) 16 8 (0 ∷ 8 ∷ [])
  pub written : (a : NamedLft) → HasLayout (MutSlice a.mir a.lft u64) 16 8 (0 ∷ 8 ∷ [])

abbrev pub ColumnLayout : Type 0
ColumnLayout = (a : NamedLft) → IsLaidOut (column a)
    (λ c. c.bytes ▸ c.offsets ▸ c.offset_size ▸ c.validity ▸ c.validity_offset ▸ tt)
    64 8 (0 ∷ 16 ∷ 32 ∷ 40 ∷ 56 ∷ [])

abbrev pub LevelColumnLayout : Type 0
LevelColumnLayout = (a : NamedLft) → IsLaidOut (level_column a)
    (λ c. c.words ▸ c.ring_ends ▸ c.rings ▸ c.single_ends ▸ c.singles ▸ c.row_ends
    ▸ c.rows ▸ c.validity ▸ c.validity_offset ▸ tt)
    112 8 (0 ∷ 16 ∷ 32 ∷ 40 ∷ 56 ∷ 64 ∷ 80 ∷ 88 ∷ 104 ∷ [])

abbrev pub LevelSlicesLayout : Type 0
LevelSlicesLayout = (a : NamedLft) → IsLaidOut (level_slices a)
    (λ s. s.words ▸ s.ring_ends ▸ s.single_ends ▸ tt)
    48 8 (0 ∷ 16 ∷ 32 ∷ [])
