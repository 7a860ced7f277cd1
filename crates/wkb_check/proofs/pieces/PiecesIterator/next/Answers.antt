use Rattle.std.proofs.Common.{rules}
use Rattle.wkb_check.proofs.Following.{goes}
use Rattle.wkb_check.proofs.pieces.PiecesIterator.next.Goals as goal

pub returns-then-self-gt0-clause-goes : goal.returns-then-self-gt0-clause-goes
returns-then-self-gt0-clause-goes c = search (rules, goes)

pub returns-then-self-gt0-2-clause-goes : goal.returns-then-self-gt0-2-clause-goes
returns-then-self-gt0-2-clause-goes c = search (rules, goes)
