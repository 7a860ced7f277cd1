use Rattle.wkb_read.proofs.Prelude.{◌≤◌, length, reverse, max_nesting, costs, cost_of, first_member}
use Rattle.wkb_read.proofs.Stack.{Reaches}
use Rattle.wkb_read.proofs.read.stack.read_collection.Given as goal

abbrev pub invariant-loop-collection : goal.invariant-loop-collection
invariant-loop-collection l = record {
  reaches : Reaches (reverse l.stack.items) l.bytes l.counts
      (costs (cost_of l.fn.counts) (first_member 0 l.fn.outermost l.fn.members));
  shallow : length l.stack.items ≤ max_nesting;
}

abbrev pub decreases-loop-collection : goal.decreases-loop-collection
decreases-loop-collection l = length l.bytes
