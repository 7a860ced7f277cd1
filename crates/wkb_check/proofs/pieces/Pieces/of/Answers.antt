use Rattle.std.proofs.Common.{rules}
use Rattle.wkb_check.proofs.Following.{ahead_first}
use Rattle.wkb_check.proofs.pieces.Pieces.of.Goals as goal

pub returns : goal.returns
returns c = search (rules, ahead_first)
