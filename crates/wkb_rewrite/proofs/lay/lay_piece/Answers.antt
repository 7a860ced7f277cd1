use Rattle.std.proofs.Common.{rules}
use Rattle.wkb_rewrite.proofs.Laying.{laid_on}
use Rattle.wkb_rewrite.proofs.lay.lay_piece.Goals as goal

pub returns-then-piece-ne-POINT : goal.returns-then-piece-ne-POINT
returns-then-piece-ne-POINT c = search (rules, laid_on)

pub returns : goal.returns
returns c = search (rules, laid_on)
