-- What reading a geometry of each kind returns, and what it counts: what is seen in the view that was read, with the
-- bytes after it; or why the reader stopped.
use Rattle.std.specs.Prelude.{ℕ, List, Result}
use Rattle.std.specs.Borrow.{Bor}
use Rattle.wkb_geom.specs.declared.code.TheConstants.{POLYGON}
use Rattle.wkb_view.specs.Prelude.{Dimension, Layout, Cause, ReadError, Listed, Coordinate, polygon_at, multi_point_at}
use Rattle.wkb_view.specs.Prelude.{multi_line_string_at, multi_polygon_at, member_at}
use Rattle.wkb_view.specs.declared.{counts.Counts.Counts, multi_point.MultiPoint.MultiPoint, reserved.Reserved.Reserved}
use Rattle.wkb_view.specs.Members.{polygon_seen, multi_line_string_seen, multi_polygon_seen, members_behind}
use Rattle.wkb_view.specs.Outcome.{IsReadCounted, IsReadOrStops}
use Rattle.wkb_view.specs.Passes.{polygons_seen}
use Rattle.wkb_view.specs.Views.{multi_point_seen}

-- a value that was read, with the bytes after it, or why the reader stopped
abbrev Read : Type 0 → Type 0
Read X = Result (X × Bor (List ℕ)) ReadError

-- a polygon of this layout is read
abbrev pub ReadsPolygon : Layout → List ℕ → Read (Listed (List (List Coordinate))) → Counts → Counts → Type 0
ReadsPolygon l bytes result old new = IsReadOrStops polygon_seen result (polygon_at l bytes) old new

-- a multi point of this layout is read
abbrev pub ReadsMultiPoint : Layout → List ℕ → Result (MultiPoint × Bor (List ℕ)) Cause → Counts → Counts → Type 0
ReadsMultiPoint l bytes result old new = IsReadCounted multi_point_seen result (multi_point_at l bytes) old new

-- a multi line string of this layout is read
abbrev pub ReadsMultiLineString : Layout → List ℕ → Read (Listed (List (List Coordinate))) → Counts → Counts → Type 0
ReadsMultiLineString l bytes result old new =
    IsReadOrStops multi_line_string_seen result (multi_line_string_at l bytes) old new

-- a multi polygon of this layout is read
abbrev pub ReadsMultiPolygon : Layout → List ℕ → Read (Listed (List (List (List Coordinate)))) → Counts → Counts
    → Type 0
ReadsMultiPolygon l bytes result old new = IsReadOrStops multi_polygon_seen result (multi_polygon_at l bytes) old new

-- a polygon with a header of its own is read, of this dimension
abbrev pub ReadsMember : Dimension → List ℕ → Read (Listed (List (List Coordinate))) → Counts → Counts → Type 0
ReadsMember d bytes result old new = IsReadOrStops polygon_seen result (member_at POLYGON d bytes) old new

-- n polygons are read, each with a header of its own, after the count of a multi polygon of this layout
abbrev pub ReadsMembers : Layout → ℕ → List ℕ → Read (Reserved (Listed (List (List Coordinate)))) → Counts → Counts
    → Type 0
ReadsMembers l n bytes result old new = IsReadOrStops polygons_seen result (members_behind POLYGON l n bytes) old new
