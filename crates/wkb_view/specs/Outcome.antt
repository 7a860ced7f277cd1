-- How the result of a read agrees with reading.
use Rattle.std.specs.Prelude.{◌≡◌, ℕ, ◌+◌, ◌≤◌, ◌<◌, ◌^◌, List, length, Result, Ok, Err, Some, IfErr}
use Rattle.std.specs.Borrow.{Bor}
use Rattle.wkb_view.specs.Prelude.{Cause, ReadError, Cost, Outcome, Reading, Item, consumed, rejection, cause_of}
use Rattle.wkb_view.specs.Prelude.read_errors
use Rattle.wkb_view.specs.declared.counts.Counts.{Counts}

-- what was counted between the two
pub record Spent (old new : Counts) (cost : Cost) : Type 0 where
  pub turns : new.turns ≡ old.turns + cost.turns
  pub slots : new.slots ≡ old.slots + cost.slots

-- what was counted, as a cost
abbrev pub cost_of : Counts → Cost
cost_of c = record { turns = c.turns; slots = c.slots }

-- one turn more
abbrev pub next_turn : Counts → Counts
next_turn c = record { turns = c.turns + 1; slots = c.slots }

-- no more than this was counted between the two
pub record AtMost (old new : Counts) (cost : Cost) : Type 0 where
  pub turns : new.turns ≤ old.turns + cost.turns
  pub slots : new.slots ≤ old.slots + cost.slots

-- the counters have room for it
pub record CanCount (old : Counts) (cost : Cost) : Type 0 where
  pub turns : old.turns + cost.turns < 2 ^ 128
  pub slots : old.slots + cost.slots < 2 ^ 128

-- the result is the outcome, by what it shows
abbrev pub IsOutcome : {X Y : Type 0} → (X → Y × List ℕ) → Result X Cause → Outcome Y → Type 0
IsOutcome shown (Ok x) outcome = outcome ≡ Ok (shown x)
IsOutcome shown (Err cause) outcome = cause_of outcome ≡ Some cause

-- the result is the outcome of a reading, and its cost was counted
abbrev pub CountsOutcome : {X Y : Type 0} → (X → Y × List ℕ) → Result X Cause → Reading Y → Counts → Counts → Type 0
CountsOutcome shown result reading old new = IsOutcome shown result reading.1 × Spent old new reading.0

-- what is seen in a view, and the bytes after it
abbrev pub seen_with_rest : {X Y : Type 0} → (X → Y) → X × Bor (List ℕ) → Y × List ℕ
seen_with_rest seen x = (seen x.0, x.1.now)

-- the view and the bytes after it are the outcome, or these bytes are rejected
abbrev pub IsReadAs : {X Y : Type 0} → (X → Y) → List ℕ → Result (X × Bor (List ℕ)) Cause → Outcome Y → Type 0
IsReadAs seen bytes (Ok x) outcome = outcome ≡ Ok (seen_with_rest seen x)
IsReadAs seen bytes (Err cause) outcome = outcome ≡ Err (rejection bytes cause)

-- the view and the bytes after it are those of a reading, whose cost was counted
abbrev pub IsReadCounted : {X Y : Type 0} → (X → Y) → Result (X × Bor (List ℕ)) Cause → Reading Y → Counts → Counts
    → Type 0
IsReadCounted seen result reading old new = CountsOutcome (seen_with_rest seen) result reading old new

-- a reading's cause, whose cost was counted; where an allocation failed, no more than that cost
abbrev pub Stops : {A : Type 0} → ReadError → Reading A → Counts → Counts → Type 0
Stops (read_errors.Cause cause) reading old new = (cause_of reading.1 ≡ Some cause) × Spent old new reading.0
Stops read_errors.Memory reading old new = AtMost old new reading.0

-- the result is the outcome of a reading, and its cost was counted, or the reader stopped
abbrev pub CountsOrStops : {X Y : Type 0} → (X → Y × List ℕ) → Result X ReadError → Reading Y → Counts → Counts → Type 0
CountsOrStops shown (Ok x) reading old new = (reading.1 ≡ Ok (shown x)) × Spent old new reading.0
CountsOrStops shown (Err error) reading old new = Stops error reading old new

-- the view and the bytes after it are those of a reading, whose cost was counted, or the reader stopped
abbrev pub IsReadOrStops : {X Y : Type 0} → (X → Y) → Result (X × Bor (List ℕ)) ReadError → Reading Y → Counts → Counts
    → Type 0
IsReadOrStops seen result reading old new = CountsOrStops (seen_with_rest seen) result reading old new

-- what was read is the item of the bytes that were taken
abbrev pub IsTakenAs : {X : Type 0} → (X → Item) → (List ℕ → Item) → List ℕ → X × Bor (List ℕ) → Type 0
IsTakenAs seen item bytes x = seen x.0 ≡ item (consumed bytes x.1.now)

-- what was read has at least this many bytes: those after it are so many fewer
abbrev pub TakesAtLeast : {X : Type 0} → ℕ → List ℕ → X × Bor (List ℕ) → Type 0
TakesAtLeast least bytes x = length x.1.now + least ≤ length bytes

-- the bytes are rejected: no allocation failed
abbrev pub IsCause : ReadError → Type 0
IsCause (read_errors.Cause cause) = Unit {0}
IsCause read_errors.Memory = ⊥

-- a reading that asks for no slot fails only by rejecting the bytes
abbrev pub RefusesWithoutSlots : {X Y : Type 0} → Reading Y → Result X ReadError → Type 0
RefusesWithoutSlots reading result = reading.0.slots ≡ 0 → IfErr result IsCause
