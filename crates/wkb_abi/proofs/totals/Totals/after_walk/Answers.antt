use Rattle.wkb_abi.proofs.Common.{arith, subjects}
use Rattle.wkb_abi.proofs.Levels.{totals_reached, totals_next}
use Rattle.wkb_abi.proofs.totals.Totals.after_walk.Goals as goal

pub loop-piece-init-derived : goal.loop-piece-init-derived
loop-piece-init-derived c = (record { pieces = _; are = (c.behind-pieces.ensures.steps c.requires.here).ahead }, tt)

pub loop-piece-init : goal.loop-piece-init
loop-piece-init c = λ g.
    totals_next c.args.self (c.behind-pieces.ensures.steps g) c.with-to.ensures
    (totals_reached 0 (subjects g.spelled g.value) c.args.self
    (record { coordinates = omega arith; rings = omega arith; singles = omega arith }))

pub loop-piece-preserved : goal.loop-piece-preserved
loop-piece-preserved c = λ g.
    let l = c.loop-piece.invariant g in
    totals_next c.loop-piece.to (c.in-Some.ensures.steps.steps l.ps l.ahead) c.with-to-in-Some.ensures l.left

pub returns : goal.returns
returns c = λ g.
    let l = c.loop-piece.invariant g in rw (c.in_default.ensures.steps.steps l.ps l.ahead) at l.left
