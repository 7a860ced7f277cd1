use Rattle.wkb_read.proofs.Prelude.{◌≡◌, length, reverse, length-reverse, arith, costs, cost_of, first_member}
use Rattle.wkb_read.proofs.Stack.{Finishes, finishes}
use Rattle.wkb_read.proofs.read.stack.read_collection.Goals.{After-len, In-Ok-Whole}
use Rattle.wkb_read.proofs.read.stack.read_collection.Goals as goal

as_many : (c : After-len) → length (reverse c.loop-collection.stack.items) ≡ c.len.result
as_many c = omega (arith, length-reverse c.loop-collection.stack.items)

-- a whole part was read
part : (c : In-Ok-Whole) → length (reverse c.loop-collection.stack.items) ≡ c.len.result
    → Finishes (reverse c.loop-collection.stack.items) c.in-Ok-Whole.part c.in-Ok-Whole.rest.now c.read_front.new.counts
    (costs (cost_of c.args.counts.now) (first_member 0 c.args.outermost c.args.members.now))
part c around =
    finishes c.in-Ok-Whole.part
    (reverse c.loop-collection.stack.items) c.in-Ok-Whole.rest c.loop-collection.bytes.now c.loop-collection.counts
    c.read_front.new.counts _ c.loop-collection.invariant.reaches
    (rw (c.in-Ok-Whole.field-0-is, ← around) at c.in-Ok-Whole.ensures.begins)

pub close_finished-requires : goal.close_finished-requires
close_finished-requires c =
    let p = goal.at.close_finished-requires c in
    grind (arith, part p.In-Ok-Whole (as_many p.After-len))
