use Rattle.std.proofs.Common.{◌≡◌, ℕ, List, take}
use Rattle.wkb_rewrite.specs.Shares.{Holds}
use Rattle.wkb_rewrite.proofs.own.hold_same_words.Given as goal

abbrev pub invariant-loop-i : goal.invariant-loop-i
invariant-loop-i l = (first second : List ℕ) → Holds l.a_order first l.a → Holds l.b_order second l.b
    → take l.i first ≡ take l.i second
