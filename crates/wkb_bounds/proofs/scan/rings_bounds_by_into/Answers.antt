use Rattle.std.proofs.Common.{ap, nat_lt}
use Rattle.wkb_check.proofs.Ahead.{piece_by}
use Rattle.wkb_bounds.proofs.Words.{walk_behind, walk_ahead, walk_goes, walk_ends}
use Rattle.wkb_bounds.proofs.scan.rings_bounds_by_into.Goals as goal

pub loop-ring-init : goal.loop-ring-init
loop-ring-init c =
    let here = c.requires.here in
    let behind = c.behind-pieces.ensures in
    let first = piece_by 0 here.spelled here.value (c.requires.header here) _ (c.of_header-first.ensures here) in
    record {
      widened = walk_behind behind (ap (λ k. nat_lt k 3) first.kind_is) c.none-extremes.ensures;
      alone = (behind.rings first.kind_is).alone;
    }

pub next_if_ring-requires : goal.next_if_ring-requires
next_if_ring-requires c = walk_ahead c.requires.here c.loop-ring.invariant.widened

pub loop-ring-preserved : goal.loop-ring-preserved
loop-ring-preserved c =
    let l = c.loop-ring.invariant in
    record {
      widened = walk_goes l.widened (c.in-Some.ensures.steps l.alone) c.widen_by_piece.ensures;
      alone = (c.next_if_ring.ensures.rings l.alone).alone;
    }

pub returns : goal.returns
returns c =
    let l = c.loop-ring.invariant in
    walk_ends l.widened c.in_default.is (c.next_if_ring.ensures.steps l.alone) c.bounds.ensures
