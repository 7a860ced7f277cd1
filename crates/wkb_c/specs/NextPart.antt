-- The part that comes after another one, in any bytes.
use Rattle.std.specs.Prelude.{ℕ, ◌-◌, ◌^◌, List, length, min, Option, Some, None, unwrap_or, ◌==◌, if◌then◌else◌}
use Rattle.wkb_geom.specs.Codes.{dimension_of_thousands}
use Rattle.wkb_geom.specs.declared.common.Dimension.TheVariants.{Xy}
use Rattle.wkb_geom.specs.declared.common.Endianness.TheVariants.{BigEndian, LittleEndian}
use Rattle.wkb_check.specs.Begun.{next_piece, held_in, behind}
use Rattle.wkb_check.specs.Pieces.{own_end}
use Rattle.wkb_check.specs.declared.begun.NextPiece.{NextPiece}
use Rattle.wkb_check.specs.declared.pieces.Piece.{Piece}
use Rattle.wkb_abi.specs.Tables.{entry_of}
use Rattle.wkb_abi.specs.declared.parts.Part.{Part}

-- where the part after this one begins, and what it is; none begins at the end of the bytes
abbrev pub place_after : List ℕ → Part → NextPiece
place_after buf p = record {
  at = min p.end (length buf);
  rings = min p.next (2 ^ 32 - 1);
  order = if p.order == 0 then BigEndian else LittleEndian;
  dimension = unwrap_or (dimension_of_thousands p.dimension) Xy;
}

-- its piece, if it is there up to its rings or members
abbrev pub piece_after : List ℕ → Part → Option Piece
piece_after buf p = held_in buf (next_piece buf (place_after buf p))

-- its entry ends where its own bytes do, and counts the rings that come next; without a piece there is no other entry
abbrev pub entry_after : List ℕ → Part → Option Piece → Part
entry_after buf p None = p
entry_after buf p (Some q) = entry_of q (own_end q) (behind (place_after buf p) (Some q)).rings
