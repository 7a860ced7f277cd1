use Rattle.wkb_view.proofs.Prelude.{length-append, arith}
use Rattle.std.proofs.lemmas.List.{map-append}
use Rattle.wkb_view.proofs.Lists.{part_costs, next_part, loop_stops, parts_end}
use Rattle.wkb_view.proofs.Members.{all_more}
use Rattle.wkb_view.proofs.multi_polygon.read_members.Goals as goal

pub overflow_add-own : goal.overflow_add-own
overflow_add-own c = omega (arith, (part_costs c.loop-test.true c.loop.invariant.left).0)

pub read_member-requires : goal.read_member-requires
read_member-requires c = grind (arith, part_costs c.loop-test.true c.loop.invariant.left)

pub returns-in-Err-clause-polygons : goal.returns-in-Err-clause-polygons
returns-in-Err-clause-polygons c =
    loop_stops c.loop-test.true c.loop.invariant.left c.in-Err.error _ c.in-Err.ensures.answer

pub returns-in-Err-clause-no_memory : goal.returns-in-Err-clause-no_memory
returns-in-Err-clause-no_memory c = grind (arith, part_costs c.loop-test.true c.loop.invariant.left)

pub loop-preserved : goal.loop-preserved
loop-preserved c =
    let answer = c.in-Ok.ensures.answer in
    record {
      left =
          rw (c.push.ensures.entries, map-append)
          (next_part c.loop-test.true c.loop.invariant.left _ _ _ answer.0 answer.1);
      room = omega arith;
      taken_in_all = grind (arith, length-append);
      grows = omega arith;
      same = grind (arith, all_more);
      as_many = grind (arith, length-append);
    }

pub returns-clause-polygons : goal.returns-clause-polygons
returns-clause-polygons c = parts_end c.loop-test.false c.loop.invariant.left
