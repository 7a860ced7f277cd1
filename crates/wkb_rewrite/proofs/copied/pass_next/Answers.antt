use Rattle.std.proofs.Common.{sym, subst, ◌∙◌}
use Rattle.wkb_check.specs.Pieces.{IsAhead}
use Rattle.wkb_rewrite.proofs.Copying.{taken_there}
use Rattle.wkb_rewrite.proofs.Standing.{there_header}
use Rattle.wkb_rewrite.proofs.Walks.{nothing_ahead}
use Rattle.wkb_rewrite.proofs.copied.pass_next.Goals as goal

pub stands_as_written-requires-in-Some-next_if_point-clause-header : goal.stands_as_written-requires-in-Some-next_if_point-clause-header
stands_as_written-requires-in-Some-next_if_point-clause-header c =
    let ahead = c.requires.ahead in
    let stays = c.next_if_ring.ensures.taken.stays c.in_default.is in
    let still = subst (λ w. IsAhead w ahead.pieces) (sym stays) ahead.are in
    there_header (taken_there c.next_if_ring.new.self (λ i. (c.type_inv.buf i).fits)
    (c.next_if_ring.ensures.taken.same ∙ c.requires.here) still
    (c.in-Some-next_if_point.ensures.takes.steps ahead.pieces still))

pub stands_as_written-requires-in-Some-next_bare-clause-header : goal.stands_as_written-requires-in-Some-next_bare-clause-header
stands_as_written-requires-in-Some-next_bare-clause-header c =
    let ahead = c.requires.ahead in
    let same = c.next_if_point.ensures.same ∙ c.next_if_ring.ensures.taken.same in
    let stays =
    c.next_if_point.ensures.stays c.in_default-next_if_point.is
    ∙ c.next_if_ring.ensures.taken.stays c.in_default.is in
    let still = subst (λ w. IsAhead w ahead.pieces) (sym stays) ahead.are in
    there_header (taken_there c.next_if_point.new.self (λ i. (c.type_inv.buf i).fits) (same ∙ c.requires.here) still
    (c.in-Some-next_bare.ensures.taken.takes.steps ahead.pieces still))

pub stands_as_written-requires-2-clause-header : goal.stands_as_written-requires-2-clause-header
stands_as_written-requires-2-clause-header c =
    let ahead = c.requires.ahead in
    let same =
    c.next_bare.ensures.taken.same ∙ c.next_if_point.ensures.same ∙ c.next_if_ring.ensures.taken.same in
    let stays =
    c.next_bare.ensures.taken.stays c.in_default-next_bare.is
    ∙ c.next_if_point.ensures.stays c.in_default-next_if_point.is
    ∙ c.next_if_ring.ensures.taken.stays c.in_default.is in
    let still = subst (λ w. IsAhead w ahead.pieces) (sym stays) ahead.are in
    there_header (taken_there c.next_bare.new.self (λ i. (c.type_inv.buf i).fits) (same ∙ c.requires.here) still
    (c.in_ok-piece.ensures.steps.steps ahead.pieces still))

pub returns-in_err-piece-clause-none : goal.returns-in_err-piece-clause-none
returns-in_err-piece-clause-none c = λ _ xs are.
    let stays =
    c.next_bare.ensures.taken.stays c.in_default-next_bare.is
    ∙ c.next_if_point.ensures.stays c.in_default-next_if_point.is
    ∙ c.next_if_ring.ensures.taken.stays c.in_default.is in
    let still = subst (λ w. IsAhead w xs) (sym stays) are in
    nothing_ahead still c.in_err-piece.was c.next.ensures.steps
