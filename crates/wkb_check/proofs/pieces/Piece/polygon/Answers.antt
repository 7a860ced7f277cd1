use Rattle.std.proofs.Common.{sym}
use Rattle.wkb_check.proofs.Ahead.{found_header}
use Rattle.wkb_check.proofs.pieces.Piece.polygon.Goals as goal

pub of_header-requires-clause-header : goal.of_header-requires-clause-header
of_header-requires-clause-header c = found_header c.requires.here (sym c.requires.polygon) c.dimension-dimension.ensures
