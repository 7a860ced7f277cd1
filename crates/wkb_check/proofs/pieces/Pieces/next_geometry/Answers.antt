use Rattle.std.proofs.Common.{rules}
use Rattle.wkb_check.proofs.Following.{geometry_there}
use Rattle.wkb_check.proofs.pieces.Pieces.next_geometry.Goals as goal

pub of_geometry-piece-requires : goal.of_geometry-piece-requires
of_geometry-piece-requires c = search (rules, geometry_there)
