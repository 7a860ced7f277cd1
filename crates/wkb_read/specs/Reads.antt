-- What the result of reading says of the input.
use Rattle.std.specs.Prelude.{◌≡◌, ℕ, ◌+◌, ◌*◌, ◌≤◌, List, length, Bool, Result, Ok, Err, IfOk, IfErr, drop}
use Rattle.wkb_read.specs.Prelude.{Endianness, Dimension, WkbError, Value, member_count, listed_count, Spelling}
use Rattle.wkb_read.specs.Prelude.{any, Front, HasNoFront, max_nesting, Cause, Refuses, Opens, Tells, geometry_of}
use Rattle.wkb_read.specs.Prelude.{Item, Counts, IsGeometry, normal}
use Rattle.wkb_read.specs.Memory.{IsNotMemory}
use Rattle.wkb_view.specs.Lends.{geometry_seen}
pub use Rattle.wkb_view.specs.Lends.{IsFront, CanBeWritten, IsRead, Lends}
use Rattle.wkb_geom.specs.declared.error.WkbError.TheVariants as errors
use Rattle.wkb_read.specs.declared.geometry.Wkb.{Wkb}

-- whatever geometry the input begins with has these bytes, this spelling and this value
abbrev pub IsOnlyFront : List ℕ → Item → Type 0
IsOnlyFront buf w = (s : Spelling) (t : Value) (rest : List ℕ) → (f : Front buf s t rest)
    → (f.front ≡ w.encoding) × (s ≡ w.spelled) × (t ≡ w.value)

-- The geometry at an offset in a blob: the bytes there spell it, and no other is there.
pub record BeginsAt (blob : List ℕ) (offset : ℕ) (w : Item) : Type 0 where
  pub front : IsFront (drop offset blob) w
  pub only : IsOnlyFront (drop offset blob) w

-- the input is rejected, and the error says why
pub record IsRefusal (buf : List ℕ) (e : WkbError) : Type 0 where
  pub cause : Cause
  pub turns : ℕ
  pub slots : ℕ
  pub refuses : Refuses max_nesting any buf cause turns slots
  pub tells : Tells e cause

-- whatever cause the input is rejected for is the one that the error gives
abbrev pub TellsEach : List ℕ → WkbError → Type 0
TellsEach buf e = (cause : Cause) (turns slots : ℕ) → Refuses max_nesting any buf cause turns slots → Tells e cause

-- where the result is an error other than an allocation failure, this holds of it
abbrev pub IfRefused : Result Wkb WkbError → (WkbError → Type 0) → Type 0
IfRefused (Ok w) P = Unit {0}
IfRefused (Err (errors.Memory e)) P = Unit {0}
IfRefused (Err e) P = P e

-- where the result is an allocation failure, this holds
abbrev pub IfMemory : Result Wkb WkbError → Type 0 → Type 0
IfMemory (Err (errors.Memory e)) P = P
IfMemory _ P = Unit {0}

-- the members and the list entries of this value were counted
abbrev pub CountsValue : Value → Counts → Type 0
CountsValue t c = (c.turns ≡ member_count t) × (c.slots ≡ listed_count t)

-- the turns and the entries of the input's refusal were counted
abbrev pub CountsRefusal : List ℕ → Counts → Type 0
CountsRefusal buf c = (cause : Cause) (turns slots : ℕ) → Refuses max_nesting any buf cause turns slots
    → (c.turns ≡ turns) × (c.slots ≡ slots)

-- no more was counted than of the geometry at the start, or than of the refusal
pub record CountsAtMost (buf : List ℕ) (c : Counts) : Type 0 where
  pub front : (s : Spelling) (t : Value) (rest : List ℕ) → Front buf s t rest
      → (c.turns ≤ member_count t) × (c.slots ≤ listed_count t)
  pub refusal : (cause : Cause) (turns slots : ℕ) → Refuses max_nesting any buf cause turns slots
      → (c.turns ≤ turns) × (c.slots ≤ slots)

-- no list of the input asks for an entry
pub record AsksForNone (buf : List ℕ) : Type 0 where
  pub front : (s : Spelling) (t : Value) (rest : List ℕ) → Front buf s t rest → listed_count t ≡ 0
  pub refusal : (cause : Cause) (turns slots : ℕ) → Refuses max_nesting any buf cause turns slots → slots ≡ 0

-- no ring and no member of the input is begun
pub record BeginsNone (buf : List ℕ) : Type 0 where
  pub front : (s : Spelling) (t : Value) (rest : List ℕ) → Front buf s t rest → member_count t ≡ 0
  pub refusal : (cause : Cause) (turns slots : ℕ) → Refuses max_nesting any buf cause turns slots → turns ≡ 0

-- A geometry of this kind takes no memory: a point, a line string or a multi point; a list of rings, line strings or
-- polygons that asks for no entry; a collection of which no member is begun.
pub record KindTakesNone (k : ℕ) (buf : List ℕ) : Type 0 where
  pub polygon : k ≡ 3 → AsksForNone buf
  pub multi_line_string : k ≡ 5 → AsksForNone buf
  pub multi_polygon : k ≡ 6 → AsksForNone buf
  pub collection : k ≡ 7 → BeginsNone buf

-- if the input begins with a header, the geometry after it takes no memory
abbrev pub TakesNoMemory : List ℕ → Type 0
TakesNoMemory buf = (order : Endianness) (k : ℕ) (d : Dimension) (srid : Bool) (behind : List ℕ)
    → Opens buf order k d srid behind → KindTakesNone k buf

-- What a result says of the bytes: a geometry is the one at the start, and means what its value means; an error gives
-- the one refusal; and an allocation failure is reported only where memory is taken.
pub record Reads (buf : List ℕ) (r : Result Wkb WkbError) : Type 0 where
  pub front : IfOk r (λ w. IsFront buf w)
  pub one_front : IfOk r (λ w. IsOnlyFront buf w)
  pub lawful : IfOk r (λ w. IsGeometry (geometry_of w.value))
  pub seen : IfOk r (λ w. geometry_seen w ≡ geometry_of w.value)
  pub normal : IfOk r (λ w. normal (geometry_of w.value) ≡ w.value)
  pub writable : IfOk r (λ w. CanBeWritten w.value)
  pub refusal : IfRefused r (λ e. IsRefusal buf e)
  pub one_cause : IfRefused r (λ e. TellsEach buf e)
  pub no_front : IfRefused r (λ e. HasNoFront buf)
  pub no_memory : TakesNoMemory buf → IfErr r IsNotMemory

-- what it cost: the members and the list entries of the value, or of the refusal; and it is bounded by the bytes
pub record Costs (buf : List ℕ) (r : Result Wkb WkbError) (c : Counts) : Type 0 where
  pub counts : IfOk r (λ w. CountsValue w.value c)
  pub refusal_counts : IfRefused r (λ e. CountsRefusal buf c)
  pub memory_counts : IfMemory r (CountsAtMost buf c)
  pub turns_bounded : 4 * c.turns ≤ length buf + 4
  pub slots_bounded : c.slots ≤ 15 * length buf
