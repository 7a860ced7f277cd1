-- What is known of a geometry that is to be rewritten.
use Rattle.std.specs.Prelude.{◌≡◌, ◌≢◌, ℕ, ◌+◌, List, drop, None, Some, false, true, Bool}
use Rattle.wkb_laws.specs.Prelude.{Endianness, Form, number, type_of}
use Rattle.wkb_geom.specs.Encodings.{type_code}
use Rattle.wkb_check.specs.Prelude.{Steps}
use Rattle.wkb_check.specs.declared.{pieces.Piece.Piece, pieces.Pieces.Pieces, pieces.TheConstants.RING}
use Rattle.wkb_rewrite.specs.Shares.{is_empty_point}

-- a geometry has the code that is written of it under this form; a ring has none
abbrev pub CodeStands : Endianness → Form → List ℕ → Piece → Type 0
CodeStands order form buf p =
    p.kind ≢ RING → number order 4 (drop (p.begin + 1) buf) ≡ type_code form (type_of p.kind p.dimension)

-- a piece has the order and the code that are written of it under a form without an SRID, and is no empty point
pub record StandsAsWritten (order : Endianness) (form : Form) (buf : List ℕ) (p : Piece) : Type 0 where
  pub order_is : p.order ≡ order
  pub plain : p.srid ≡ None
  pub code : CodeStands order form buf p
  pub some : is_empty_point buf p ≡ false

-- the walk passed the next piece, and these are distinguished: one that stands as it is written, and one that may not
pub record HasPassed (order : Endianness) (form : Form) (buf : List ℕ) (old new : Pieces) (stands : Bool) : Type 0 where
  pub piece : Piece
  pub step : Steps old (Some piece) new
  pub is : stands ≡ true → StandsAsWritten order form buf piece
