-- What steps of a loop pass over, and what they keep of it.
use Rattle.std.specs.Prelude.{◌≡◌, ℕ, ◌+◌, List, length, Result, Ok, Err}
use Rattle.std.specs.Borrow.{Bor}
use Rattle.wkb_geom.specs.declared.code.TheConstants.{POINT}
use Rattle.wkb_view.specs.Prelude.{Dimension, Layout, Cause, Reading, done, refused, consumed}
use Rattle.wkb_view.specs.Prelude.{member_at, Item, Listed, Coordinate, multi_point_end}
use Rattle.wkb_view.specs.declared.{counts.Counts.Counts, reserved.Reserved.Reserved}
use Rattle.wkb_view.specs.Entries.{entries}
use Rattle.wkb_view.specs.Members.{member_item, members_behind, points_in, polygon_items}
use Rattle.wkb_view.specs.Outcome.{CountsOutcome}

-- the bytes that were passed, as this, and those after them
abbrev pub passed_as : {Y : Type 0} → (List ℕ → Y) → List ℕ → Bor (List ℕ) → Y × List ℕ
passed_as taken bytes rest = (taken (consumed bytes rest.now), rest.now)

-- a part was passed, or is rejected; neither costs anything
abbrev pub PassesPart : {A : Type 0} → (List ℕ → Reading A) → (List ℕ → A) → List ℕ → Result (Bor (List ℕ)) Cause
    → Type 0
PassesPart reading seen bytes (Ok rest) = reading bytes ≡ done (seen (consumed bytes rest.now)) rest.now
PassesPart reading seen bytes (Err cause) = reading bytes ≡ refused bytes cause

-- a point without an SRID was passed, or is rejected
abbrev pub PassesPoint : Dimension → List ℕ → Result (Bor (List ℕ)) Cause → Type 0
PassesPoint d bytes result = PassesPart (member_at POINT d) (member_item POINT d) bytes result

-- n points were passed, or one is rejected
abbrev pub PassesPoints : Layout → ℕ → List ℕ → Result (Bor (List ℕ)) Cause → Counts → Counts → Type 0
PassesPoints l n bytes result old new =
    CountsOutcome (passed_as (points_in l n) bytes) result (members_behind POINT l n bytes) old new

-- the rest begins where the n points of a multi point end
abbrev pub IsAfterPoints : Layout → ℕ → List ℕ → List ℕ → Type 0
IsAfterPoints l n bytes rest = multi_point_end l.dimension l.has_srid n + length rest ≡ length bytes

-- what is seen in polygons that were read
abbrev pub polygons_seen : Reserved (Listed (List (List Coordinate))) → List Item
polygons_seen members = polygon_items (entries members)
