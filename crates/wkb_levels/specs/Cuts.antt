-- Lists that are cut out of one longer list by the ends of their items.
use Rattle.std.specs.Prelude.{◌≡◌, ℕ, zero, suc, ◌+◌, ◌-◌, ◌≤◌, ◌<◌, List, [], ◌∷◌, length, slice_index, slice_range}
use Rattle.std.specs.Prelude.{Option, Some, None, option_and_then}
use Rattle.std.specs.Option.{option_map}

-- where item i begins, where the first begins at `start`
abbrev pub start_at : ℕ → List ℕ → ℕ → ℕ
start_at start ends zero = start
start_at start ends (suc i) = slice_index ends i

-- the ends don't fall, from the start on, and none passes the limit
abbrev pub AreEnds : ℕ → ℕ → List ℕ → Type 0
AreEnds limit start ends =
    (start ≤ limit)
    × ((i : ℕ) → i < length ends → (start_at start ends i ≤ slice_index ends i) × (slice_index ends i ≤ limit))

-- each end is one more than the one before it
abbrev pub AreOnes : ℕ → List ℕ → Type 0
AreOnes start ends = (i : ℕ) → i < length ends → slice_index ends i ≡ start_at start ends i + 1

-- The items of a list from each end up to the next. The first item of the list has the number `base`.
abbrev pub pieces_from : {A : Type 0} → ℕ → List A → ℕ → List ℕ → List (List A)
pieces_from base items start [] = []
pieces_from base items start (e ∷ ends) =
    slice_range items (start - base) (e - base) ∷ pieces_from base items e ends

-- the one item of a list of one item
abbrev pub only : {A : Type 0} → List A → Option A
only [] = None
only (a ∷ []) = Some a
only (a ∷ b ∷ rest) = None

-- the one item of each list
abbrev pub only_each : {A : Type 0} → List (List A) → Option (List A)
only_each [] = Some []
only_each (items ∷ rest) = option_and_then (λ a. option_map (λ more. a ∷ more) (only_each rest)) (only items)
