-- Faults, one after another.
use Rattle.wkb_write.proofs.Prelude.{◌≡◌, ℕ, ◌<◌, ◌≤◌, ◌^◌, Option, None, refl, arith, ◌⊎◌, nat_tests}
use Rattle.wkb_write.proofs.Prelude.{Unknown, Fault, or_else, count_fault, dimensions_fault, Finds}
use Rattle.wkb_laws.proofs.Values.{count_fault_none}
use Rattle.wkb_geom.specs.declared.error.Fault.TheVariants as found

pub reports_first : (e : Fault) (a b : Option Fault) → Finds e a → Finds e (or_else a b)
unfolding or_else
reports_first e a b r = record { is = rw r.is refl }

pub reports_rest : (e : Fault) (a b : Option Fault) → a ≡ None → Finds e b → Finds e (or_else a b)
unfolding or_else
reports_rest e a b p r = record { is = rw p r.is }

-- the error of a dimension without a name
pub reports_dimensions : (n : ℕ) → (n < 2) ⊎ (4 < n)
    → Finds (found.UnsupportedDimensions n) (dimensions_fault (Unknown n))
unfolding dimensions_fault
reports_dimensions n h = record { is = grind (arith, nat_tests) }

pub no_fault_between : (n : ℕ) → 2 ≤ n → n ≤ 4 → dimensions_fault (Unknown n) ≡ None
unfolding dimensions_fault
no_fault_between n low high = grind (arith, nat_tests)

pub reports_count : (n : ℕ) → 2 ^ 32 ≤ n → Finds found.Count (count_fault n)
unfolding count_fault
reports_count n h = record { is = grind (arith, nat_tests) }

pub ruleset fault_laws = (reports_dimensions, no_fault_between, reports_count, count_fault_none)
