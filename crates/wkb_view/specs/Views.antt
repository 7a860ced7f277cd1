-- What the views of points, line strings and multi points mean.
use Rattle.std.proofs.Common.{ℕ, ◌+◌, ◌*◌, List, take, drop, Option}
use Rattle.wkb_view.specs.Prelude.{Coordinate, coordinate, point_item, line_string_of, line_string_item, body_start}
use Rattle.wkb_view.specs.Prelude.{Layout, Dimension, width, Item, point_of, points_of, order_of, Spelling, Endianness}
use Rattle.wkb_view.specs.declared.{point.Point.Point, line_string.LineString.LineString}
use Rattle.wkb_view.specs.declared.multi_point.MultiPoint.{MultiPoint}
use Rattle.wkb_view.specs.Coords.{coordinate_encoding}
use Rattle.wkb_view.specs.Members.{stride, multi_point_item}

-- what is seen in a view
abbrev pub point_seen : Point → Item
point_seen p = point_item p.layout p.buf.now

abbrev pub line_string_seen : LineString → Item
line_string_seen l = line_string_item l.layout l.buf.now

abbrev pub multi_point_seen : MultiPoint → Item
multi_point_seen m = multi_point_item m.layout m.count m.buf.now

-- how its bytes spell it, and the order of its numbers
abbrev pub point_spelling : Point → Spelling
point_spelling p = (point_seen p).spelled

abbrev pub point_order : Point → Endianness
point_order p = order_of (point_spelling p)

abbrev pub multi_point_spelling : MultiPoint → Spelling
multi_point_spelling m = (multi_point_seen m).spelled

abbrev pub line_string_spelling : LineString → Spelling
line_string_spelling l = (line_string_seen l).spelled

abbrev pub line_string_order : LineString → Endianness
line_string_order l = order_of (line_string_spelling l)

-- the coordinates of a line string
abbrev pub seen_coordinates : LineString → List Coordinate
seen_coordinates l = line_string_of (line_string_seen l).value

-- how its bytes are laid out
abbrev pub point_layout : Point → Layout
point_layout p = p.layout

abbrev pub line_string_layout : LineString → Layout
line_string_layout l = l.layout

abbrev pub multi_point_layout : MultiPoint → Layout
multi_point_layout m = m.layout

-- the dimension of a view
abbrev pub point_dimension : Point → Dimension
point_dimension p = p.layout.dimension

abbrev pub line_string_dimension : LineString → Dimension
line_string_dimension l = l.layout.dimension

abbrev pub multi_point_dimension : MultiPoint → Dimension
multi_point_dimension m = m.layout.dimension

-- the coordinate of a point, and the points of a multi point
abbrev pub seen_coordinate : Point → Option Coordinate
seen_coordinate p = point_of (point_seen p).value

abbrev pub seen_points : MultiPoint → List (Option Coordinate)
seen_points m = points_of (multi_point_seen m).value

-- the words of a point, also where all are NaNs
abbrev pub coordinate_in : Point → Coordinate
coordinate_in p = coordinate p.layout.order p.layout.dimension (drop (body_start p.layout.has_srid) p.buf.now)

-- where the coordinate or the point at an index begins in its bytes
abbrev pub line_string_offset : LineString → ℕ → ℕ
line_string_offset l i = body_start l.layout.has_srid + 4 + 8 * width l.layout.dimension * i

abbrev pub multi_point_offset : MultiPoint → ℕ → ℕ
multi_point_offset m i = body_start m.layout.has_srid + 4 + stride m.layout.dimension * i

-- the bytes of a point's words, of a line string's coordinate and of a multi point's member
abbrev pub point_coord_bytes : Point → List ℕ
point_coord_bytes p = coordinate_encoding p.layout.dimension (body_start p.layout.has_srid) (point_seen p).encoding

abbrev pub line_string_coord_bytes : LineString → ℕ → List ℕ
line_string_coord_bytes l i = coordinate_encoding l.layout.dimension (line_string_offset l i) l.buf.now

abbrev pub multi_point_member_bytes : MultiPoint → ℕ → List ℕ
multi_point_member_bytes m i = take (stride m.layout.dimension) (drop (multi_point_offset m i) m.buf.now)

-- the bytes of a point after its header: its words
abbrev pub point_words_bytes : Point → List ℕ
point_words_bytes p = drop (body_start p.layout.has_srid) (point_seen p).encoding

-- the bytes of a line string after its header: its count and its coordinates
abbrev pub line_string_ring_bytes : LineString → List ℕ
line_string_ring_bytes l = drop (body_start l.layout.has_srid) l.buf.now

-- the bytes of a line string after its count: its coordinates
abbrev pub line_string_coords_bytes : LineString → List ℕ
line_string_coords_bytes l = drop (body_start l.layout.has_srid + 4) l.buf.now
