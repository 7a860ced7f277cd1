-- Which inputs are read without an allocation, and which results are no allocation failure.
use Rattle.std.specs.Prelude.{◌≡◌, ℕ, ◌+◌, ◌≤◌, List, length, Result, Ok, Err}
use Rattle.wkb_read.specs.Prelude.{WkbType, Layout, ReadError, WkbError, Head, layout_of, head_at, polygon_at}
use Rattle.wkb_read.specs.Prelude.{multi_line_string_at, multi_polygon_at, body_start, count_in, IsCause}
use Rattle.wkb_geom.specs.declared.code.WkbType.TheVariants as kinds
use Rattle.wkb_geom.specs.declared.error.WkbError.TheVariants as errors
use Rattle.wkb_read.specs.declared.read.stack.Begun.{Begun}
use Rattle.wkb_read.specs.declared.read.stack.Begun.TheVariants.{Whole, Opened}

-- the error is no allocation failure
abbrev pub IsNotMemory : WkbError → Type 0
IsNotMemory (errors.Memory e) = ⊥
IsNotMemory _ = Unit {0}

-- a collection of this layout has no members: its count is 0 or missing
abbrev pub HasNoMembers : Layout → List ℕ → Type 0
HasNoMembers l bytes = body_start l.has_srid + 4 ≤ length bytes → count_in l bytes ≡ 0

-- The body of a geometry of this type takes no memory: that of a point, a line string or a multi point; a list of
-- parts that asks for no entry; a collection without members.
abbrev pub TypeTakesNone : WkbType → Layout → List ℕ → Type 0
TypeTakesNone (kinds.Polygon d) l bytes = (polygon_at l bytes).0.slots ≡ 0
TypeTakesNone (kinds.MultiLineString d) l bytes = (multi_line_string_at l bytes).0.slots ≡ 0
TypeTakesNone (kinds.MultiPolygon d) l bytes = (multi_polygon_at l bytes).0.slots ≡ 0
TypeTakesNone (kinds.GeometryCollection d) l bytes = HasNoMembers l bytes
TypeTakesNone _ l bytes = Unit {0}

-- if the bytes begin with a header, the body after it takes no memory
abbrev pub ReadsWithoutMemory : List ℕ → Type 0
ReadsWithoutMemory bytes = (h : Head) → head_at bytes ≡ Ok h → TypeTakesNone h.wkb_type (layout_of h) bytes

-- neither an allocation failure nor an open collection
abbrev pub NeedsNone : Result Begun ReadError → Type 0
NeedsNone (Ok (Whole w rest)) = Unit {0}
NeedsNone (Ok (Opened o rest)) = ⊥
NeedsNone (Err error) = IsCause error
