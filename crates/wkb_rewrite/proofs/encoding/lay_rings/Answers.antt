use Rattle.wkb_rewrite.proofs.Encodings.{inner_again}
use Rattle.wkb_rewrite.proofs.Walks.{none_taken, some_ahead}
use Rattle.wkb_rewrite.proofs.Encoded.{next_fits, left_inside, left_none, first_room, first_left}
use Rattle.wkb_rewrite.proofs.encoding.lay_rings.Goals as goal

pub lay_piece-at-requires-clause-room : goal.lay_piece-at-requires-clause-room
lay_piece-at-requires-clause-room c =
    let here = c.requires.here in
    first_room c.args.options.endianness c.args.options.form here (c.behind-pieces.ensures.steps here) _
    (c.requires.room here)

pub loop-ring-init : goal.loop-ring-init
loop-ring-init c =
    let behind = c.behind-pieces.ensures in
    record {
      left = λ g.
          rw c.inner.ensures
          (first_left c.args.options.endianness c.args.options.form g (behind.steps g) behind.same
          c.lay_piece-at.ensures);
      alone = (behind.rings c.requires.polygon).alone;
    }

pub next_if_ring-requires : goal.next_if_ring-requires
next_if_ring-requires c = some_ahead (c.loop-ring.invariant.left c.requires.here).rest

pub lay_piece-at-requires-in-Some : goal.lay_piece-at-requires-in-Some
lay_piece-at-requires-in-Some c =
    let here = c.requires.here in
    let l = c.loop-ring.invariant in
    next_fits (l.left here) (c.in-Some.ensures.steps l.alone) (c.requires.room here)

pub loop-ring-preserved : goal.loop-ring-preserved
loop-ring-preserved c = record {
  left = λ g.
      left_inside (c.loop-ring.invariant.left g) (inner_again c.args.options.form c.inner.ensures)
      (c.in-Some.ensures.steps c.loop-ring.invariant.alone) c.lay_piece-at-in-Some.ensures;
  alone = (c.next_if_ring.ensures.rings c.loop-ring.invariant.alone).alone;
}

pub returns : goal.returns
returns c = record {
  laid = λ g.
      let l = c.loop-ring.invariant.left g in
      let s = c.next_if_ring.ensures.steps c.loop-ring.invariant.alone in
      (left_none l (none_taken l.rest c.in_default.is s)).1;
}
