use Rattle.wkb_check.proofs.pieces.Pieces.behind.Goals as goal

pub pass_geometry-requires-clause-ahead : goal.pass_geometry-requires-clause-ahead
pass_geometry-requires-clause-ahead c = record { pieces = _; are = c.of-pieces.ensures.ahead c.requires.here }

pub pass_geometry-requires-clause-piece : goal.pass_geometry-requires-clause-piece
pass_geometry-requires-clause-piece c = rw (c.of-pieces.ensures.begins, c.of-pieces.ensures.same) c.requires.first
