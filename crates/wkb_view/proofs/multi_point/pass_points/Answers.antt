use Rattle.wkb_view.proofs.Prelude.{arith, err_from_is_err_and}
use Rattle.wkb_view.proofs.Lists.{freely, refused_stops, part_costs, loop_stops}
use Rattle.wkb_view.proofs.Pieces.{pieces_next, pieces_read}
use Rattle.wkb_view.proofs.Members.{ends_next, points_end}
use Rattle.wkb_view.specs.Prelude.read_errors
use Rattle.wkb_view.proofs.multi_point.pass_points.Goals as goal

pub overflow_add-counts : goal.overflow_add-counts
overflow_add-counts c = grind (arith, part_costs c.loop-test.true c.loop.invariant.left)

pub returns-in_err-rest-clause-points : goal.returns-in_err-rest-clause-points
returns-in_err-rest-clause-points c =
    let p = err_from_is_err_and c.from_residual.result c.from_residual.ensures.1 in
    rw (p.1, p.2)
    (loop_stops c.loop-test.true c.loop.invariant.left (read_errors.Cause c.in_err-rest.field-0.0) _
    (refused_stops _ _ _ _ c.in_err-rest.ensures.answer))

pub loop-preserved : goal.loop-preserved
loop-preserved c =
    let so_far = c.loop.invariant in
    let gives = freely _ _ _ c.in_ok-rest.ensures.answer in
    let passed = c.in_ok-rest.ensures.passed in
    rw (ends_next c.args.layout c.loop.counter c.args.bytes.now c.loop.rest.now _ so_far.rest_is so_far.within passed)
    (pieces_next _ _ (omega arith) c.loop-test.true so_far gives.0 gives.1 passed)

pub returns : goal.returns
returns c = grind (arith, pieces_read c.loop-test.false c.loop.invariant, points_end)
