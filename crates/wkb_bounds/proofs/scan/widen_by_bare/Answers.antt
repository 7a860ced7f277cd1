use Rattle.std.proofs.Common.{arith}
use Rattle.wkb_check.proofs.Following.{fewer_left, stepped}
use Rattle.wkb_bounds.proofs.Words.{walk_ahead, walk_goes, walk_stays}
use Rattle.wkb_bounds.proofs.scan.widen_by_bare.Goals as goal

-- ---- a point with a plain header

pub next_if_point-requires : goal.next_if_point-requires
next_if_point-requires c = walk_ahead c.requires.here c.loop-point.invariant

pub loop-point-preserved-in-Some : goal.loop-point-preserved-in-Some
loop-point-preserved-in-Some c =
    walk_goes c.loop-point.invariant (stepped c.in-Some.ensures) c.widen_by_piece.ensures

-- ---- another geometry with a plain header, and its rings

pub next_bare-requires : goal.next_bare-requires
next_bare-requires c =
    let still = walk_stays c.loop-point.invariant (c.next_if_point.ensures.stays c.in_default.is) in
    record { ahead = walk_ahead c.requires.here still }

pub loop-ring-init : goal.loop-ring-init
loop-ring-init c = record {
  widened =
      walk_goes (walk_stays c.loop-point.invariant (c.next_if_point.ensures.stays c.in_default.is))
      (stepped c.in-Some-next_bare.ensures.taken) c.widen_by_piece-in-Some-next_bare.ensures;
  fewer = omega arith;
}

pub next_if_ring-requires : goal.next_if_ring-requires
next_if_ring-requires c = walk_ahead c.requires.here c.loop-ring.invariant.widened

pub loop-ring-preserved : goal.loop-ring-preserved
loop-ring-preserved c =
    let s = stepped c.in-Some-next_if_ring.ensures.taken in
    record {
      widened = walk_goes c.loop-ring.invariant.widened s c.widen_by_piece-in-Some-next_if_ring.ensures;
      fewer = omega (arith, c.loop-ring.invariant.fewer, fewer_left s);
    }
