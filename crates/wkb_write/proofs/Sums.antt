-- Parts one after another, as a loop measures them.
use Rattle.wkb_write.proofs.Prelude.{subst, first_fault, count_below, sum_by-cons, count_fault, parts_fault, parts_size}
use Rattle.wkb_write.proofs.Prelude.{length, Result, arith, Fault, or_else, drop_all, sum_by, Measures, capped, Measure}
use Rattle.wkb_write.proofs.Prelude.{◌≡◌, ℕ, ◌+◌, ◌*◌, ◌^◌, ◌<◌, ◌≤◌, List, drop, None, Ok, refl, ◌∙◌, Finds}
use Rattle.std.proofs.lemmas.Nat.{mul-le}
use Rattle.wkb_write.specs.Measures.{result_of}
use Rattle.wkb_write.specs.declared.measure.Measured.{Measured}
use Rattle.wkb_write.specs.Bodies.{parts_measure}
use Rattle.wkb_write.proofs.Faults.{reports_first}
use Rattle.wkb_write.proofs.FirstItem.{ItemAt}
use Rattle.wkb_write.specs.declared.measure.Measured.TheVariants as measured

-- the first fault of the whole is that of the parts from an index on, and its size is the total and theirs
pub record Ahead {X : Type 0} (part : X → Measure) (whole : Measure) (total : ℕ) (xs : List X) (i : ℕ) : Type 0 where
  pub fault : whole.fault ≡ first_fault (λ x. (part x).fault) (drop i xs)
  pub size : capped whole.size ≡ capped (total + sum_by (λ x. (part x).size) (drop i xs))

-- before the first part
pub parts_ahead : {X : Type 0} {n : ℕ} (header : ℕ) (part : X → Measure) (xs : List X) → n ≡ length xs
    → count_fault n ≡ None → Ahead part (parts_measure header part xs) (4 + header * n) xs 0
unfolding or_else parts_fault parts_size
parts_ahead header part xs is counted = record { fault = rw (← is, counted) refl; size = rw is refl }

-- the fault of the count
pub count_found : {X : Type 0} (part : X → Measure) (xs : List X) (n : ℕ) (e : Fault) → n ≡ length xs
    → Finds e (count_fault n) → Finds e (parts_fault part xs)
unfolding parts_fault
count_found part xs n e is finds = reports_first e _ _ (subst (λ k. Finds e (count_fault k)) is finds)

-- the bytes that all parts begin with fit `usize`
pub headers_fit : (header n : ℕ) → header < 2 ^ 8 → count_fault n ≡ None → 4 + header * n < 2 ^ 64
headers_fit header n short counted = grind (arith, count_below, mul-le)

module _ {X : Type 0} {part : X → Measure} {whole : Measure} {total : ℕ} {xs : List X} {i : ℕ}
    (ahead : Ahead part whole total xs i) where
  found : (e : Fault) → ItemAt xs i (λ x. Finds e (part x).fault) → Finds e whole.fault
  unfolding first_fault
  found e at = rw (ahead.fault, at.rest) (reports_first e _ _ at.holds)

  -- one more part
  pub part_step : {n sum : ℕ} → ItemAt xs i (λ x. Measures (part x).fault (part x).size (Ok n))
      → capped sum ≡ capped (total + n) → Ahead part whole sum xs (i + 1)
  unfolding first_fault or_else
  part_step at more =
      let sizes = sum_by-cons (λ x. (part x).size) at.item (drop (i + 1) xs) in grind arith

  -- what was measured of a part is a fault
  pub part_refused : (m : Measured) → ItemAt xs i (λ x. Measures (part x).fault (part x).size (result_of m))
      → ((k : ℕ) → m ≡ measured.Bytes k → ⊥) → Measures whole.fault whole.size (result_of m)
  part_refused (measured.Bytes k) at never = absurd (never k refl)
  part_refused (measured.UnsupportedDimensions k) at never = found _ at
  part_refused measured.Count at never = found _ at
  part_refused measured.Size at never = found _ at

  -- what was measured of the last part and all before it
  pub last_part : (r : Result ℕ Fault) → ItemAt xs i (λ x. Measures (part x).fault (total + (part x).size) r)
      → length xs ≤ i + 1 → Measures whole.fault whole.size r
  unfolding first_fault or_else
  last_part r at end = grind (arith, drop_all, sum_by-cons, found)

  -- all parts
  pub all_parts : length xs ≤ i → (whole.fault ≡ None) × (capped total ≡ capped whole.size)
  unfolding first_fault
  all_parts past = grind (arith, drop_all)

-- what is measured of all parts after their count
module _ {X : Type 0} (header total i : ℕ) (part : X → Measure) (xs : List X)
    (ahead : Ahead part (parts_measure header part xs) total xs i) (past : length xs ≤ i) where
  pub parts_faultless : parts_fault part xs ≡ None
  parts_faultless = (all_parts ahead past).0

  pub parts_sized : (size : ℕ) → size ≡ capped total → size ≡ capped (parts_size header part xs)
  parts_sized size is = is ∙ (all_parts ahead past).1

pub ruleset measured_laws = (count_found, parts_faultless, parts_sized)
