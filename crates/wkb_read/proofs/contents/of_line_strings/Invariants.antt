use Rattle.wkb_read.proofs.Prelude.{◌≡◌, ◌+◌, drop, length, sum_by}
use Rattle.wkb_read.proofs.contents.of_line_strings.Given as goal

abbrev pub invariant-loop-i : goal.invariant-loop-i
invariant-loop-i l = l.coordinates + sum_by length (drop l.i l.multi.parts) ≡ sum_by length l.multi.parts
