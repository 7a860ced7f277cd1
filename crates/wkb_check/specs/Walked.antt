-- Passing over parts from left to right: a reading without its values, of which the coordinates are counted.
use Rattle.std.specs.Prelude.{ℕ, suc, ◌+◌, ◌-◌, List, [], ◌∷◌, length, sum_by, Result, Ok, Err, ◌==◌, if◌then◌else◌}
use Rattle.wkb_laws.specs.Prelude.{WkbType, Cause, Dimension, Head, Layout, max_nesting}
use Rattle.wkb_check.specs.declared.skip.MemberKind.{MemberKind}
use Rattle.wkb_check.specs.declared.skip.MemberKind.TheVariants as members
use Rattle.wkb_geom.specs.Reading.{Reading, Item, ring_in, line_string_of, polygon_of, list_item, list_at}
use Rattle.wkb_geom.specs.Reading.{multi_point_with, member_at, multi_line_string_at, multi_polygon_at, body_at}
use Rattle.wkb_geom.specs.Reading.{collection_within, geometry_inside, at_no_cost, ring_part, type_kind, layout_of}
unfoldable use Rattle.wkb_geom.specs.Reading.{repeated, point_at, line_string_at, polygon_at}
unfoldable use Rattle.wkb_geom.specs.Reading.{multi_point_at}
use Rattle.wkb_geom.specs.Counted.{coordinate_count}

-- parts that are begun, and coordinates that are passed
abbrev pub Tally : Type 0
Tally = ℕ × ℕ

-- what was counted, and the bytes that are left; or how many parts are begun, the fault, and how many bytes are left
-- where the rejected part begins
abbrev pub Walked : Type 0
Walked = Result (Tally × List ℕ) (ℕ × (Cause × ℕ))

-- a reading without its values, after this tally
abbrev pub walked : {A : Type 0} → (A → ℕ) → Reading A → Tally → Walked
walked many (c, Ok x) t = Ok ((t.0 + c.turns, t.1 + many x.0), x.1)
walked many (c, Err r) t = Err (t.0 + c.turns, (r.cause, length r.left))

-- one part, then what follows it
abbrev pub onward : Walked → (Tally → List ℕ → Walked) → Walked
onward (Ok x) f = f x.0 x.1
onward (Err e) f = Err e

-- the coordinates of a ring, by its encoding
abbrev pub ring_coordinates : Layout → List ℕ → ℕ
ring_coordinates l encoding = length (ring_in l.order l.dimension encoding)

-- the coordinates of a geometry, and of one of this kind
abbrev pub item_coordinates : Item → ℕ
item_coordinates i = coordinate_count i.value

abbrev pub coordinates_by : ℕ → Item → ℕ
coordinates_by k i =
    if k == 1 then 1
    else if k == 2 then length (line_string_of i.value)
    else if k == 3 then sum_by length (polygon_of i.value)
    else item_coordinates i

-- the number of a member's kind in a code
abbrev pub number_of_member : MemberKind → ℕ
number_of_member members.Point = 1
number_of_member members.LineString = 2
number_of_member members.Polygon = 3

-- the multi geometry of members of this kind, where the length of multi points is not tested before
unfoldable pub multi_at : MemberKind → Layout → List ℕ → Reading Item
multi_at members.Point l bytes =
    list_at 4 l (member_at 1 l.dimension) (list_item l multi_point_with) bytes
multi_at members.LineString l bytes = multi_line_string_at l bytes
multi_at members.Polygon l bytes = multi_polygon_at l bytes

-- ---- walks, by what is passed

abbrev pub point_walked : Layout → List ℕ → Tally → Walked
point_walked l bytes = walked (coordinates_by 1) (at_no_cost (point_at l bytes))

abbrev pub line_string_walked : Layout → List ℕ → Tally → Walked
line_string_walked l bytes = walked (coordinates_by 2) (line_string_at l bytes)

abbrev pub ring_walked : Layout → List ℕ → Tally → Walked
ring_walked l bytes = walked (ring_coordinates l) (ring_part l bytes)

abbrev pub rings_walked : Layout → ℕ → List ℕ → Tally → Walked
rings_walked l n bytes = walked (sum_by (ring_coordinates l)) (repeated n (ring_part l) bytes)

abbrev pub polygon_walked : Layout → List ℕ → Tally → Walked
polygon_walked l bytes = walked (coordinates_by 3) (polygon_at l bytes)

-- a member of this kind with its header, and n of them
abbrev pub member_walked : MemberKind → Dimension → List ℕ → Tally → Walked
member_walked kind d bytes =
    let k = number_of_member kind in walked (coordinates_by k) (member_at k d bytes)

abbrev pub members_walked : MemberKind → Dimension → ℕ → List ℕ → Tally → Walked
members_walked kind d n bytes =
    let k = number_of_member kind in walked (sum_by (coordinates_by k)) (repeated n (member_at k d) bytes)

abbrev pub multi_point_walked : Layout → List ℕ → Tally → Walked
multi_point_walked l bytes = walked item_coordinates (multi_point_at l bytes)

abbrev pub multi_walked : MemberKind → Layout → List ℕ → Tally → Walked
multi_walked kind l bytes = walked item_coordinates (multi_at kind l bytes)

-- ---- collections

-- a geometry of this type, with room for this many open collections
abbrev pub body_within : ℕ → WkbType → Layout → List ℕ → Reading Item
body_within room t l bytes = body_at (collection_within room) t l bytes

-- a geometry of this type behind its header, with room for this many open collections
abbrev pub type_walked : ℕ → WkbType → Layout → List ℕ → Tally → Walked
type_walked room t l bytes = walked (coordinates_by (type_kind t)) (body_within room t l bytes)

-- a geometry behind its header, inside this many open collections
abbrev pub body_walked : ℕ → Head → List ℕ → Tally → Walked
body_walked around h bytes = type_walked (max_nesting - around) h.wkb_type (layout_of h) bytes

-- a geometry from its header on, inside this many open collections
abbrev pub inside_walked : ℕ → List ℕ → Tally → Walked
inside_walked around bytes = walked item_coordinates (geometry_inside around bytes)

-- what follows a finished part: the members that the open collections still have, the innermost first
abbrev pub ahead_of : List ℕ → Tally → List ℕ → Walked
ahead_of [] t rest = Ok (t, rest)
ahead_of (n ∷ ns) t rest =
    onward (walked (sum_by item_coordinates) (repeated n (geometry_inside (suc (length ns))) rest) t) (ahead_of ns)
