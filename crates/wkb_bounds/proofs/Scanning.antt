-- What is said of the bounds of a geometry that the check found.
use Rattle.std.proofs.Common.{◌≡◌, ℕ, ◌<◌, List, Ok, refl, arith, nat_lt, true, lt-ltb}
use Rattle.wkb_geom.specs.declared.code.TheConstants.{POLYGON}
use Rattle.wkb_laws.specs.Prelude.{Value, Spelling, node, type_kind}
use Rattle.wkb_check.specs.Prelude.{HasGeometry, IsPieceAt, piece_of, HeaderIs, Checks, DescribesFront}
use Rattle.wkb_check.specs.declared.{answer.Summary.Summary, pieces.Piece.Piece}
use Rattle.wkb_check.proofs.Ahead.{found_header, piece_by}
use Rattle.wkb_check.proofs.Joining.{geometry_of_front}
use Rattle.wkb_bounds.specs.declared.range.Bounds.{Bounds}
use Rattle.wkb_bounds.specs.Bounded.{AreBounds, BoundsFront}

pub front_there : {input : List ℕ} {found : Summary} → Checks input (Ok found) → HasGeometry input
front_there c = geometry_of_front c.front.front

pub bounds_front : {input : List ℕ} {found : Summary} {b : Bounds} → Checks input (Ok found)
    → ((g : HasGeometry input) → AreBounds b g.value) → BoundsFront input b
bounds_front c are = record {
  spelled = c.front.spelled;
  value = c.front.value;
  rest = c.front.rest;
  front = c.front.front;
  bounded = are (geometry_of_front c.front.front);
}

-- what was found to be a point or a line string has coordinates
pub found_low : {buf : List ℕ} {found : Summary} → DescribesFront buf found → (p : Piece) → IsPieceAt buf 0 p
    → type_kind found.wkb_type < 3 → nat_lt p.kind 3 ≡ true
found_low f p is low =
    let g = geometry_of_front f.front in
    lt-ltb p.kind 3 (omega (arith, (piece_by 0 g.spelled g.value (found_header f refl refl g) p (is g)).kind_is))

-- the header of a polygon, by its piece
pub polygon_header : (s : Spelling) (t : Value) (p : Piece) → p ≡ piece_of 0 s t → p.kind ≡ POLYGON
    → HeaderIs s t POLYGON p.dimension p.order p.srid
polygon_header (node h words ss) t p is three = grind arith
