use Rattle.wkb_abi.proofs.Common.{arith}
use Rattle.wkb_abi.proofs.Levels.{first_fits, walk_begins, walk_stays, piece_fits, walk_on, walk_ends}
use Rattle.wkb_abi.proofs.level_slices.lay_walked.Goals as goal

pub lay_piece_levels-requires : goal.lay_piece_levels-requires
lay_piece_levels-requires c =
    first_fits _ _ _ c.args.out.now c.requires.room (omega arith) (omega arith) (omega arith) c.requires.first
    c.requires.here

pub loop-ring-init : goal.loop-ring-init
loop-ring-init c =
    walk_begins _ _ _ c.args.out.now c.requires.room (omega arith) (omega arith) (omega arith)
    c.behind-pieces.ensures.steps c.with-at.ensures c.lay_piece_levels.ensures.laid
    c.lay_piece_levels.ensures.same_slices

-- ---- a ring

pub next_if_ring-requires : goal.next_if_ring-requires
next_if_ring-requires c =
    let l = c.loop-ring.invariant.left c.requires.here in record { pieces = l.ps; are = l.ahead }

pub lay_piece_levels-requires-in-Some : goal.lay_piece_levels-requires-in-Some
lay_piece_levels-requires-in-Some c =
    piece_fits c.loop-ring.invariant c.in-Some.ensures.taken.takes.steps c.requires.here

pub loop-ring-preserved-in-Some : goal.loop-ring-preserved-in-Some
loop-ring-preserved-in-Some c =
    walk_on c.loop-ring.invariant c.in-Some.ensures.taken.takes.steps c.with-at-in-Some.ensures
    c.lay_piece_levels-in-Some.ensures.laid c.lay_piece_levels-in-Some.ensures.same_slices

-- ---- any other piece

pub next-requires : goal.next-requires
next-requires c =
    let l = (walk_stays c.loop-ring.invariant (c.next_if_ring.ensures.taken.stays c.in_default.is)).left c.requires.here
    in
    record { pieces = l.ps; are = l.ahead }

pub lay_piece_levels-requires-in-Some-next : goal.lay_piece_levels-requires-in-Some-next
lay_piece_levels-requires-in-Some-next c =
    let l = walk_stays c.loop-ring.invariant (c.next_if_ring.ensures.taken.stays c.in_default.is) in
    piece_fits l c.in-Some-next.ensures.steps.steps c.requires.here

pub loop-ring-preserved : goal.loop-ring-preserved
loop-ring-preserved c =
    let l = walk_stays c.loop-ring.invariant (c.next_if_ring.ensures.taken.stays c.in_default.is) in
    walk_on l c.in-Some-next.ensures.steps.steps c.with-at-in-Some-next.ensures
    c.lay_piece_levels-in-Some-next.ensures.laid c.lay_piece_levels-in-Some-next.ensures.same_slices

pub returns-in_default-next-clause-levels : goal.returns-in_default-next-clause-levels
returns-in_default-next-clause-levels c =
    let l = walk_stays c.loop-ring.invariant (c.next_if_ring.ensures.taken.stays c.in_default.is) in
    walk_ends l c.in_default-next.ensures.steps.steps
