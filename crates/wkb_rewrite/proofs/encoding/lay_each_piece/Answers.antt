use Rattle.std.proofs.Common.{arith, ◌∙◌}
use Rattle.wkb_check.proofs.Following.{fewer_left, stepped}
use Rattle.wkb_rewrite.proofs.Encodings.{inner_again}
use Rattle.wkb_rewrite.proofs.Walks.{none_taken, some_ahead}
use Rattle.wkb_rewrite.proofs.Encoded.{left_inside, left_none, left_still, next_fits, first_room, first_left}
use Rattle.wkb_rewrite.proofs.encoding.lay_each_piece.Goals as goal

pub lay_piece-at-requires-clause-room : goal.lay_piece-at-requires-clause-room
lay_piece-at-requires-clause-room c =
    let here = c.requires.here in
    first_room c.args.options.endianness c.args.options.form here (c.behind-pieces.ensures.steps here) _
    (c.requires.room here)

pub loop-point-init : goal.loop-point-init
loop-point-init c = λ g.
    let behind = c.behind-pieces.ensures in
    rw c.inner.ensures
    (first_left c.args.options.endianness c.args.options.form g (behind.steps g) behind.same c.lay_piece-at.ensures)

-- ---- a point with a plain header

pub next_if_point-requires : goal.next_if_point-requires
next_if_point-requires c = some_ahead (c.loop-point.invariant c.requires.here).rest

pub lay_piece-at-requires-in-Some : goal.lay_piece-at-requires-in-Some
lay_piece-at-requires-in-Some c =
    let here = c.requires.here in
    next_fits (c.loop-point.invariant here) (stepped c.in-Some.ensures) (c.requires.room here)

pub loop-point-preserved-in-Some : goal.loop-point-preserved-in-Some
loop-point-preserved-in-Some c = λ g.
    left_inside (c.loop-point.invariant g) (inner_again c.args.options.form c.inner.ensures) (stepped c.in-Some.ensures)
    c.lay_piece-at-in-Some.ensures

-- ---- another geometry with a plain header, and its rings

pub next_bare-requires : goal.next_bare-requires
next_bare-requires c =
    let l = c.loop-point.invariant c.requires.here in
    record { ahead = some_ahead (left_still l (c.next_if_point.ensures.stays c.in_default.is)).rest }

pub lay_piece-at-requires-in-Some-next_bare : goal.lay_piece-at-requires-in-Some-next_bare
lay_piece-at-requires-in-Some-next_bare c =
    let here = c.requires.here in
    let l = left_still (c.loop-point.invariant here) (c.next_if_point.ensures.stays c.in_default.is) in
    next_fits l (stepped c.in-Some-next_bare.ensures.taken) (c.requires.room here)

pub loop-ring-init : goal.loop-ring-init
loop-ring-init c = record {
  left = λ g.
      let l = left_still (c.loop-point.invariant g) (c.next_if_point.ensures.stays c.in_default.is) in
      left_inside l (inner_again c.args.options.form c.inner.ensures) (stepped c.in-Some-next_bare.ensures.taken)
      c.lay_piece-at-in-Some-next_bare.ensures;
  fewer = omega arith;
}

pub next_if_ring-requires : goal.next_if_ring-requires
next_if_ring-requires c = some_ahead (c.loop-ring.invariant.left c.requires.here).rest

pub lay_piece-at-requires-in-Some-next_if_ring : goal.lay_piece-at-requires-in-Some-next_if_ring
lay_piece-at-requires-in-Some-next_if_ring c =
    let here = c.requires.here in
    next_fits (c.loop-ring.invariant.left here) (stepped c.in-Some-next_if_ring.ensures.taken) (c.requires.room here)

pub loop-ring-preserved : goal.loop-ring-preserved
loop-ring-preserved c =
    let s = stepped c.in-Some-next_if_ring.ensures.taken in
    record {
      left = λ g.
          left_inside (c.loop-ring.invariant.left g) (inner_again c.args.options.form c.inner.ensures) s
          c.lay_piece-at-in-Some-next_if_ring.ensures;
      fewer = omega (arith, c.loop-ring.invariant.fewer, fewer_left s);
    }

-- ---- any other piece

pub next-requires : goal.next-requires
next-requires c =
    let same =
    c.next_bare.ensures.taken.stays c.in_default-next_bare.is ∙ c.next_if_point.ensures.stays c.in_default.is in
    some_ahead (left_still (c.loop-point.invariant c.requires.here) same).rest

pub lay_piece-at-requires-in-Some-next : goal.lay_piece-at-requires-in-Some-next
lay_piece-at-requires-in-Some-next c =
    let here = c.requires.here in
    let same =
    c.next_bare.ensures.taken.stays c.in_default-next_bare.is ∙ c.next_if_point.ensures.stays c.in_default.is in
    let l = left_still (c.loop-point.invariant here) same in
    next_fits l c.in-Some-next.ensures.steps (c.requires.room here)

pub loop-point-preserved : goal.loop-point-preserved
loop-point-preserved c = λ g.
    let same =
    c.next_bare.ensures.taken.stays c.in_default-next_bare.is ∙ c.next_if_point.ensures.stays c.in_default.is in
    let l = left_still (c.loop-point.invariant g) same in
    left_inside l (inner_again c.args.options.form c.inner.ensures) c.in-Some-next.ensures.steps
    c.lay_piece-at-in-Some-next.ensures

pub returns-in_default-next-clause-size : goal.returns-in_default-next-clause-size
returns-in_default-next-clause-size c = λ g.
    let same =
    c.next_bare.ensures.taken.stays c.in_default-next_bare.is ∙ c.next_if_point.ensures.stays c.in_default.is in
    let l = left_still (c.loop-point.invariant g) same in
    (left_none l (none_taken l.rest c.in_default-next.is c.next.ensures.steps)).0

pub returns-in_default-next-clause-laid : goal.returns-in_default-next-clause-laid
returns-in_default-next-clause-laid c = λ g.
    let same =
    c.next_bare.ensures.taken.stays c.in_default-next_bare.is ∙ c.next_if_point.ensures.stays c.in_default.is in
    let l = left_still (c.loop-point.invariant g) same in
    (left_none l (none_taken l.rest c.in_default-next.is c.next.ensures.steps)).1
