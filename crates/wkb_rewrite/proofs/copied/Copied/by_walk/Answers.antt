use Rattle.std.proofs.Common.{arith, refl}
use Rattle.wkb_check.proofs.Ahead.{here}
use Rattle.wkb_rewrite.proofs.Measured.{long_of}
use Rattle.wkb_rewrite.proofs.Copying.{one_more_stands, still_ahead, all_stand}
use Rattle.wkb_rewrite.proofs.copied.Copied.by_walk.Goals as goal

pub pass_next-requires : goal.pass_next-requires
pass_next-requires c =
    let l = c.loop-stands.invariant (here c.requires) in
    record { ahead = still_ahead l; here = l.same }

pub loop-stands-preserved : goal.loop-stands-preserved
loop-stands-preserved c = λ g.
    one_more_stands (λ i. (c.type_inv.buf i).fits) c.args.options.form c.inner-form.ensures
    (c.loop-stands.invariant g) c.in-Some.ensures.passed c.if-not-stands.false

pub behind_header-requires-clause-stands : goal.behind_header-requires-clause-stands
behind_header-requires-clause-stands c = λ g.
    let l = c.loop-stands.invariant g in
    all_stand c.args.options (λ i. (c.type_inv.buf i).fits) c.outermost-first.ensures c.inner-form.ensures
    (long_of c.requires g) l
    (c.pass_next.ensures.none c.in_default.is l.left l.ahead)
    (c.has_written_words.ensures.order c.if-not-has_written_words.false)
    (c.has_written_words.ensures.some c.if-not-has_written_words.false)
    (omega arith) refl
