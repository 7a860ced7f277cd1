use Rattle.wkb_read.proofs.Prelude.{◌≤◌, length, reverse, vec_len, costs, cost_of, outward}
use Rattle.wkb_read.proofs.Stack.{Finishes}
use Rattle.wkb_read.proofs.read.stack.close_finished.Given as goal

abbrev pub invariant-loop-top : goal.invariant-loop-top
invariant-loop-top l = record {
  finishes : Finishes (reverse l.stack.items) l.finished l.rest l.counts
      (costs (cost_of l.fn.counts) (outward (reverse l.fn.stack.items) l.fn.part l.rest));
  fewer : length l.stack.items ≤ length l.fn.stack.items;
}

abbrev pub decreases-loop-top : goal.decreases-loop-top
decreases-loop-top l = vec_len l.stack
