use Rattle.wkb_abi.proofs.Common.{arith}
use Rattle.wkb_abi.proofs.Levels.{first_fits, walk_begins, piece_fits, walk_on, walk_ends}
use Rattle.wkb_abi.proofs.level_slices.lay_rings.Goals as goal

pub lay_piece_levels-requires : goal.lay_piece_levels-requires
lay_piece_levels-requires c =
    first_fits _ _ _ c.args.out.now c.requires.room (omega arith) (omega arith) (omega arith) c.requires.first
    c.requires.here

pub loop-ring-init : goal.loop-ring-init
loop-ring-init c = record {
  walk =
      walk_begins _ _ _ c.args.out.now c.requires.room (omega arith) (omega arith) (omega arith)
      c.behind-pieces.ensures.steps c.with-at.ensures c.lay_piece_levels.ensures.laid
      c.lay_piece_levels.ensures.same_slices;
  alone = (c.behind-pieces.ensures.rings c.requires.polygon).alone;
}

pub next_if_ring-requires : goal.next_if_ring-requires
next_if_ring-requires c =
    let l = c.loop-ring.invariant.walk.left c.requires.here in record { pieces = l.ps; are = l.ahead }

pub lay_piece_levels-requires-in-Some : goal.lay_piece_levels-requires-in-Some
lay_piece_levels-requires-in-Some c =
    let l = c.loop-ring.invariant in
    piece_fits l.walk (c.in-Some.ensures.steps l.alone).steps c.requires.here

pub loop-ring-preserved : goal.loop-ring-preserved
loop-ring-preserved c =
    let l = c.loop-ring.invariant in
    record {
      walk =
          walk_on l.walk (c.in-Some.ensures.steps l.alone).steps c.with-at-in-Some.ensures
          c.lay_piece_levels-in-Some.ensures.laid c.lay_piece_levels-in-Some.ensures.same_slices;
      alone = (c.next_if_ring.ensures.rings l.alone).alone;
    }

pub returns-clause-levels : goal.returns-clause-levels
returns-clause-levels c =
    let l = c.loop-ring.invariant in walk_ends l.walk (c.in_default.ensures.steps l.alone).steps
