-- The pieces at the start of any bytes, one after another, each up to its rings or members: also those before a fault.
use Rattle.std.specs.Prelude.{ℕ, ◌+◌, ◌-◌, List, length, drop, Result, Ok, Err, Option, Some, None, nat_eq, nat_lt}
use Rattle.std.specs.Prelude.{nat_le, if◌then◌else◌}
use Rattle.wkb_laws.specs.Prelude.{Cause, Head, number}
use Rattle.wkb_geom.specs.declared.code.TheConstants.{POINT, POLYGON}
use Rattle.wkb_geom.specs.Reading.{head_at, type_kind, type_dimension, layout_of, body_start, count_in, srid_in}
use Rattle.wkb_check.specs.Prelude.{Piece, own_end, ring_piece}
use Rattle.wkb_check.specs.declared.begun.NextPiece.{NextPiece}

-- the piece of a geometry with this header and these bytes, which begins at this byte; a point has no count
abbrev pub headed_piece : List ℕ → ℕ → Result Head Cause → Option Piece
headed_piece bytes at (Err c) = None
headed_piece bytes at (Ok h) =
    let is_point = nat_eq (type_kind h.wkb_type) POINT in
    let body = at + body_start h.has_srid in
    Some (record {
      kind = type_kind h.wkb_type;
      dimension = type_dimension h.wkb_type;
      order = h.order;
      srid = srid_in h.order h.has_srid bytes;
      count = if is_point then 1 else count_in (layout_of h) bytes;
      begin = at;
      offset = if is_point then body else body + 4;
    })

-- the piece that comes next: a ring in the order and dimension of its polygon, or a geometry
abbrev pub next_piece : List ℕ → NextPiece → Option Piece
next_piece buf w =
    let from = drop w.at buf in
    if nat_lt 0 w.rings
    then Some (ring_piece w.order w.dimension w.at (number w.order 4 from))
    else headed_piece from w.at (head_at from)

-- a piece whose own bytes are in these
abbrev pub held_in : List ℕ → Option Piece → Option Piece
held_in buf None = None
held_in buf (Some p) = if nat_le (own_end p) (length buf) then Some p else None

-- the place behind a piece, up to its rings or members: the rings of a polygon come next
abbrev pub behind : NextPiece → Option Piece → NextPiece
behind w None = w
behind w (Some p) =
    if nat_eq p.kind POLYGON
    then record { at = own_end p; rings = p.count; order = p.order; dimension = p.dimension }
    else record { at = own_end p; rings = w.rings - 1; order = w.order; dimension = w.dimension }
