-- What the bounds of a geometry say of it, and how they are found.
use Rattle.std.specs.Prelude.{◌≡◌, ℕ, ◌+◌, ◌<◌, ◌^◌, Some, List, Result, Err, IfOk, IfErr}
use Rattle.wkb_laws.specs.Prelude.{Dimension, Front, Spelling, Coordinate, Value}
use Rattle.wkb_check.specs.Prelude.{Checks}
use Rattle.wkb_check.specs.declared.answer.Refused.{Refused}
use Rattle.wkb_bounds.specs.declared.{range.Range.Range, range.Bounds.Bounds, axes.AxisExtremes.AxisExtremes}
use Rattle.wkb_bounds.specs.Ranges.{no_numbers, widened, range_of}
use Rattle.wkb_bounds.specs.Extremes.{range_by, WidensRange}
use Rattle.wkb_bounds.specs.Ordinates.{Axis, x_axis, y_axis, z_axis, m_axis, words_at, words_in, words_on}

-- the range on an axis
abbrev pub on : Axis → Bounds → Range
on x_axis b = b.x
on y_axis b = b.y
on z_axis b = b.z
on m_axis b = b.m

-- on each axis the range of the value's words
abbrev pub AreBounds : Bounds → Value → Type 0
AreBounds b t = (a : Axis) → on a b ≡ range_of (words_on a t)

-- the input begins with a geometry that has these bounds
pub record BoundsFront (input : List ℕ) (b : Bounds) : Type 0 where
  pub spelled : Spelling
  pub value : Value
  pub rest : List ℕ
  pub front : Front input spelled value rest
  pub bounded : AreBounds b value

-- whatever geometry the input begins with, it has these bounds
abbrev pub BoundsOnlyFront : List ℕ → Bounds → Type 0
BoundsOnlyFront input b = (s : Spelling) (t : Value) (rest : List ℕ) → Front input s t rest → AreBounds b t

-- What a result says of the bytes: the bounds of the geometry at the start, or the refusal that the check returns.
pub record FindsBounds (input : List ℕ) (r : Result Bounds Refused) : Type 0 where
  pub front : IfOk r (λ b. BoundsFront input b)
  pub one_front : IfOk r (λ b. BoundsOnlyFront input b)
  pub refused : IfErr r (λ e. Checks input (Err e))

-- ---- how they are found

-- the bounds of no coordinate
abbrev pub nothing : Bounds
nothing = record { x = no_numbers; y = no_numbers; z = no_numbers; m = no_numbers }

-- the bounds that have these ranges
abbrev pub bounds_by : AxisExtremes → Bounds
bounds_by k = record { x = range_by 0 k.x; y = range_by 0 k.y; z = range_by 0 k.z; m = range_by 0 k.m }

-- the bounds are widened by these words on each axis
abbrev pub Widens : Bounds → Bounds → (Axis → List ℕ) → Type 0
Widens old new words = (a : Axis) → on a new ≡ widened (on a old) (words a)

-- the bounds are widened by some coordinates
abbrev pub WidensBounds : AxisExtremes → AxisExtremes → Dimension → List Coordinate → Type 0
WidensBounds old new d cs = Widens (bounds_by old) (bounds_by new) (λ a. words_in a d cs)

-- the ranges of x and y are widened by some coordinates
pub record WidensPlane (old new : AxisExtremes) (cs : List Coordinate) : Type 0 where
  pub x : WidensRange old.x new.x (words_at (Some 0) cs)
  pub y : WidensRange old.y new.y (words_at (Some 1) cs)
  pub z : new.z ≡ old.z
  pub m : new.m ≡ old.m

-- so many more words can be counted
abbrev pub HasRoom : Bounds → ℕ → Type 0
HasRoom b n = (a : Axis) → (on a b).count + n < 2 ^ 64
