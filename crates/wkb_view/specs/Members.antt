-- The parts of a geometry by their encodings: the rings of a polygon, and the members of multi geometries, each with an
-- order, a code and an SRID of its own.
use Rattle.std.specs.Prelude.{◌≡◌, ℕ, zero, suc, ◌+◌, ◌*◌, List, [], ◌∷◌, map, length, false, Result, Ok, Err}
use Rattle.std.specs.Prelude.{if◌then◌else◌, ◌==◌}
use Rattle.std.specs.List.{AllByRecursion}
use Rattle.wkb_geom.specs.declared.header.TheConstants.{MIN_MEMBER_SIZE}
use Rattle.wkb_geom.specs.Values.{polygon, multi_line_string, multi_polygon}
use Rattle.wkb_view.specs.Prelude.{Layout, Dimension, BigEndian, Cause, Coordinate, width, point_end, line_string_end}
use Rattle.wkb_view.specs.Prelude.{Spellings, no_spellings, Listed, whole_of, Reading, repeated, Item, spellings, laid}
use Rattle.wkb_view.specs.Prelude.{body_start, count_in, parts_start, spelled_in, point_item, line_string_item, ring_in}
use Rattle.wkb_view.specs.Prelude.{list_item, line_string_of, polygon_of, multi_point_with, member_layout, member_at}
use Rattle.wkb_view.specs.Prelude.{BytesSpell}
use Rattle.wkb_view.specs.Pieces.{pieces, ArePieces, IsRingPart, Passed}

-- the point (k = 1) or the line string (k = 2) of an encoding of this layout
abbrev pub item_of : ℕ → Layout → List ℕ → Item
item_of k l encoding = if k == 1 then point_item l encoding else line_string_item l encoding

-- where it ends
abbrev pub item_end : ℕ → Layout → List ℕ → ℕ
item_end k l encoding =
    if k == 1 then point_end l.dimension l.has_srid else line_string_end l.dimension l.has_srid
    (count_in l encoding)

-- the encoding is that of a point or a line string of this layout
pub record IsEncoding (k : ℕ) (l : Layout) (encoding : List ℕ) : Type 0 where
  pub whole : length encoding ≡ item_end k l encoding
  pub spells : BytesSpell (item_of k l encoding)

-- the encoding is that of a member of this kind and dimension
pub record IsMemberOfKind (k : ℕ) (d : Dimension) (encoding : List ℕ) : Type 0 where
  pub layout : Layout
  pub layout_is : member_layout k d encoding ≡ Ok layout
  pub encoding_is : IsEncoding k layout encoding

-- a point or a line string of this layout was passed
abbrev pub PassedEncoding : ℕ → Layout → List ℕ → List ℕ → Type 0
PassedEncoding k l bytes rest = Passed MIN_MEMBER_SIZE (IsEncoding k l) bytes rest

-- a member of this kind and dimension was passed
abbrev pub PassedMember : ℕ → Dimension → List ℕ → List ℕ → Type 0
PassedMember k d bytes rest = Passed MIN_MEMBER_SIZE (IsMemberOfKind k d) bytes rest

-- the layout that was read; where none was, any
abbrev pub layout_said : Dimension → Result Layout Cause → Layout
layout_said d (Ok l) = l
layout_said d (Err c) = laid BigEndian d false

-- the member that an encoding is
abbrev pub member_item : ℕ → Dimension → List ℕ → Item
member_item k d encoding = item_of k (layout_said d (member_layout k d encoding)) encoding

-- ---- parts after a count, by the offsets at which they end

-- n parts, read one after the other
abbrev pub parts_behind : {A : Type 0} → (List ℕ → Reading A) → Layout → ℕ → List ℕ → Reading (List A)
parts_behind part l n bytes = repeated n part (parts_start l.has_srid bytes)

-- n members of this kind
abbrev pub members_behind : ℕ → Layout → ℕ → List ℕ → Reading (List Item)
members_behind k l n bytes = parts_behind (member_at k l.dimension) l n bytes

-- the encodings of the parts
abbrev pub pieces_behind : Layout → List ℕ → List ℕ → List (List ℕ)
pieces_behind l ends encoding = pieces (body_start l.has_srid + 4) ends encoding

-- each is a ring
abbrev pub AreRingParts : Layout → List ℕ → List ℕ → Type 0
AreRingParts l ends encoding = ArePieces (IsRingPart l.order l.dimension) (body_start l.has_srid + 4) ends encoding

-- each is a member of this kind
abbrev pub AreMembersOfKind : ℕ → Layout → List ℕ → List ℕ → Type 0
AreMembersOfKind k l ends encoding = ArePieces (IsMemberOfKind k l.dimension) (body_start l.has_srid + 4) ends encoding

-- the members, by the offsets at which they end
abbrev pub members_in : ℕ → Layout → List ℕ → List ℕ → List Item
members_in k l ends encoding = map (member_item k l.dimension) (pieces_behind l ends encoding)

-- the offsets at which n parts of one size end
abbrev pub every : ℕ → ℕ → ℕ → List ℕ
every start size zero = []
every start size (suc n) = (start + size) ∷ every (start + size) size n

-- the bytes of a member of a multi point
abbrev pub stride : Dimension → ℕ
stride d = 5 + 8 * width d

-- the offsets at which the members of a multi point end
abbrev pub point_ends : Layout → ℕ → List ℕ
point_ends l n = every (body_start l.has_srid + 4) (stride l.dimension) n

-- the encoding has n points after its count
abbrev pub ArePoints : Layout → ℕ → List ℕ → Type 0
ArePoints l n encoding = AreMembersOfKind 1 l (point_ends l n) encoding

-- the n points after the count
abbrev pub points_in : Layout → ℕ → List ℕ → List Item
points_in l n encoding = members_in 1 l (point_ends l n) encoding

-- ---- what a view means: by its layout, where its parts end or what they are, and its bytes

-- a multi point by its encoding
abbrev pub multi_point_item : Layout → ℕ → List ℕ → Item
multi_point_item l n encoding = list_item l multi_point_with (points_in l n encoding) encoding

-- a geometry with these parts and members
abbrev pub listed : {A : Type 0} → Layout → A → Spellings → List ℕ → Listed A
listed l parts members encoding =
    record { encoding = encoding; spelled = spelled_in l encoding [] members; dimension = l.dimension; parts = parts }

-- a polygon by its rings
abbrev pub polygon_laid : Layout → List ℕ → List ℕ → Listed (List (List Coordinate))
polygon_laid l ends encoding =
    listed l (map (ring_in l.order l.dimension) (pieces_behind l ends encoding)) no_spellings encoding

-- a multi line string by its members
abbrev pub line_strings_laid : Layout → List ℕ → List ℕ → Listed (List (List Coordinate))
line_strings_laid l ends encoding =
    listed l (map (λ i. line_string_of i.value) (members_in 2 l ends encoding))
    (spellings (members_in 2 l ends encoding)) encoding

-- what is seen in the value of a polygon's view, and of a multi line string's
abbrev pub polygon_seen : Listed (List (List Coordinate)) → Item
polygon_seen p = whole_of polygon p

abbrev pub multi_line_string_seen : Listed (List (List Coordinate)) → Item
multi_line_string_seen m = whole_of multi_line_string m

-- each has this dimension
abbrev pub AreOfDimension : {A : Type 0} → Dimension → List (Listed A) → Type 0
AreOfDimension d members = AllByRecursion (λ p. p.dimension ≡ d) members

-- the geometries of polygons
abbrev pub polygon_items : List (Listed (List (List Coordinate))) → List Item
polygon_items ps = map polygon_seen ps

-- a multi polygon by its members
abbrev pub polygons_laid : Layout → List (Listed (List (List Coordinate))) → List ℕ
    → Listed (List (List (List Coordinate)))
polygons_laid l members encoding =
    listed l (map (λ i. polygon_of i.value) (polygon_items members)) (spellings (polygon_items members)) encoding

-- what is seen in the value of a multi polygon's view
abbrev pub multi_polygon_seen : Listed (List (List (List Coordinate))) → Item
multi_polygon_seen m = whole_of multi_polygon m
