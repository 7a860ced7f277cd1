-- Where the coordinates of a run are.
use Rattle.std.proofs.Common.{ℕ, ◌+◌, ◌*◌, ◌/◌, ◌<◌, ◌≤◌, length, arith}
use Rattle.wkb_bounds.specs.declared.run.Run.{Run}

pub first_there : (r : Run) → 0 < r.count → r.size ≤ length r.bytes.now
first_there r some = grind arith

pub word_there : (r : Run) (k : ℕ) → 0 < r.count → k < r.size / 8 → 8 * k + 8 ≤ length r.bytes.now
word_there r k some there = omega (arith, first_there r some)
