use Rattle.wkb_view.proofs.Prelude.{arith, err_from_is_err_and}
use Rattle.wkb_view.proofs.Lists.{parts_length, freely, refused_stops, part_costs, loop_stops}
use Rattle.wkb_view.proofs.Pieces.{pieces_next, pieces_read, parts_fit}
use Rattle.wkb_view.specs.Prelude.read_errors
use Rattle.wkb_view.proofs.ends.pass_parts.Goals as goal

pub overflow_add-counts : goal.overflow_add-counts
overflow_add-counts g c = grind (arith, part_costs c.loop-test.true c.loop.invariant.so_far.left)

pub returns-in_err-rest-clause-answer : goal.returns-in_err-rest-clause-answer
returns-in_err-rest-clause-answer g c =
    let p = err_from_is_err_and c.from_residual.result c.from_residual.ensures.1 in
    rw (p.1, p.2)
    (loop_stops c.loop-test.true c.loop.invariant.so_far.left (read_errors.Cause c.in_err-rest.field-0.0) _
    (refused_stops _ _ _ _ c.in_err-rest.ensures.answer))

pub loop-preserved : goal.loop-preserved
loop-preserved g c =
    let gives = freely _ _ _ c.in_ok-rest.ensures.answer in
    record {
      so_far =
          rw c.push.ensures.entries
          (pieces_next _ _ (g.P.Parts.parts c.args.layout).counted c.loop-test.true c.loop.invariant.so_far
          gives.0 gives.1 c.in_ok-rest.ensures.passed);
      room = omega arith;
    }

pub returns-clause-answer : goal.returns-clause-answer
returns-clause-answer g c = grind (arith, pieces_read c.loop-test.false c.loop.invariant.so_far)

pub returns-clause-ends : goal.returns-clause-ends
returns-clause-ends g c = (pieces_read c.loop-test.false c.loop.invariant.so_far).2

pub push-requires : goal.push-requires
push-requires g c = grind (arith, parts_fit, parts_length, (g.P.Parts.parts c.args.layout).counted)
