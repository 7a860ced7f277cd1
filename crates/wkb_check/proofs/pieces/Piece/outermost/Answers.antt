use Rattle.wkb_check.proofs.Ahead.{found_header}
use Rattle.wkb_check.proofs.pieces.Piece.outermost.Goals as goal

pub of_header-requires-clause-header : goal.of_header-requires-clause-header
of_header-requires-clause-header c = found_header c.requires c.kind-kind.ensures c.dimension-dimension.ensures
