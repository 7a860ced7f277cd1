-- Faults, one after another.
use Rattle.std.proofs.Common.{◌≡◌, ℕ, ◌<◌, ◌^◌, Option, None, arith}
use Rattle.std.proofs.lemmas.Bool.Decides.{nat_tests}
use Rattle.wkb_geom.specs.Encodings.{Fault, or_else, count_fault}

-- where neither of two faults is there, the first isn't
pub none_first : (a b : Option Fault) → or_else a b ≡ None → a ≡ None
unfolding or_else
none_first a b h = grind arith

-- nor the second
pub none_rest : (a b : Option Fault) → or_else a b ≡ None → b ≡ None
unfolding or_else
none_rest a b h = grind arith

-- where neither is there, none is
pub none_both : (a b : Option Fault) → a ≡ None → b ≡ None → or_else a b ≡ None
unfolding or_else
none_both a b p q = rw p q

-- a count without a fault
pub count_below : (n : ℕ) → count_fault n ≡ None → n < 2 ^ 32
unfolding count_fault
count_below n h = grind (arith, nat_tests)
