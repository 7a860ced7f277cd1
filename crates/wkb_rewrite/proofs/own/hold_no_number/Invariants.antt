use Rattle.std.proofs.Common.{◌≡◌, ℕ, List, drop}
use Rattle.wkb_geom.specs.Numbers.{all_nan}
use Rattle.wkb_rewrite.specs.Shares.{Holds}
use Rattle.wkb_rewrite.proofs.own.hold_no_number.Given as goal

abbrev pub invariant-loop-i : goal.invariant-loop-i
invariant-loop-i l = (words : List ℕ) → Holds l.order words l.bytes → all_nan words ≡ all_nan (drop l.i words)
