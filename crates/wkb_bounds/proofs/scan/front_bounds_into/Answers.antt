use Rattle.wkb_bounds.proofs.Words.{walk_starts, walk_ahead, walk_goes, walk_ends}
use Rattle.wkb_bounds.proofs.scan.front_bounds_into.Goals as goal
use Rattle.wkb_bounds.proofs.scan.front_bounds_into.Goals.{in-BigEndian-by_order, in-LittleEndian-by_order}

pub widen_by_bare-requires-clause-before : goal.widen_by_bare-requires-clause-before
widen_by_bare-requires-clause-before c = walk_starts c.of-pieces.ensures c.none-extremes.ensures

pub widen_by_bare-requires-2-clause-before : goal.widen_by_bare-requires-2-clause-before
widen_by_bare-requires-2-clause-before c = walk_starts c.of-pieces.ensures c.none-extremes.ensures

pub loop-piece-init : goal.loop-piece-init
loop-piece-init c =
    elim c.match-by_order.branch [
      | in-BigEndian-by_order w ↦ rw (w.extremes-is, w.pieces-is) w.widen_by_bare.ensures
      | in-LittleEndian-by_order w ↦ rw (w.extremes-is, w.pieces-is) w.widen_by_bare-2.ensures
    ]

pub loop-piece-init-derived : goal.loop-piece-init-derived
loop-piece-init-derived c = (walk_ahead c.requires.here (loop-piece-init c), tt)

pub loop-piece-preserved : goal.loop-piece-preserved
loop-piece-preserved c = walk_goes c.loop-piece.invariant c.in-Some.ensures.steps c.widen_by_piece.ensures

pub returns : goal.returns
returns c = walk_ends c.loop-piece.invariant c.in_default.is c.next.ensures.steps c.bounds.ensures
