-- Readings one after the other, and their costs.
use Rattle.wkb_view.proofs.Prelude.{◌≡◌, one_turn, Reading, and_then, repeated, ReadError, CanCount, next_turn, cost_of}
use Rattle.wkb_view.proofs.Prelude.{◌+◌, ◌≤◌, ℕ, suc, List, [], ◌∷◌, Ok, refl, arith, costs, done, Counts, Spent, Stops}
use Rattle.std.proofs.Common.{add_assoc}
use Rattle.wkb_geom.specs.Reading.{◌⊕◌}
use Rattle.wkb_view.specs.Prelude.{Cost}

pub cost_is : (a b : Cost) → a.turns ≡ b.turns → a.slots ≡ b.slots → a ≡ b
cost_is a b t s = rw (t, s) refl

pub costs-costs : {A : Type 0} (a b : Cost) (r : Reading A) → costs a (costs b r) ≡ costs (a ⊕ b) r
costs-costs a b r = grind (arith, add_assoc, cost_is)

pub and_then-costs : {A B : Type 0} (c : Cost) (r : Reading A) (g : A → List ℕ → Reading B)
    → and_then (costs c r) g ≡ costs c (and_then r g)
and_then-costs c r g = grind (arith, costs-costs)

pub and_then-assoc : {A B C : Type 0} (r : Reading A) (f : A → List ℕ → Reading B) (g : B → List ℕ → Reading C)
    → and_then (and_then r f) g ≡ and_then r (λ x rest. and_then (f x rest) g)
and_then-assoc r f g = grind (arith, and_then-costs)

pub and_then-same : {A B : Type 0} (r : Reading A) (f g : A → List ℕ → Reading B)
    → ((x : A) (rest : List ℕ) → f x rest ≡ g x rest) → and_then r f ≡ and_then r g
and_then-same r f g h = grind (arith, h)

pub done_then : {A B : Type 0} (x : A) (rest : List ℕ) (f : A → List ℕ → Reading B)
    → and_then (done x rest) f ≡ f x rest
done_then x rest f = grind (arith, cost_is)

-- what the first of two costs is among what both cost
pub and_then-least : {A B : Type 0} (r : Reading A) (g : A → List ℕ → Reading B)
    → (r.0.turns ≤ (and_then r g).0.turns) × (r.0.slots ≤ (and_then r g).0.slots)
and_then-least r g = (grind arith, grind arith)

-- one part more
pub repeated_more : {A B : Type 0} (n : ℕ) (part : List ℕ → Reading A) (bytes : List ℕ)
    (end : List A → List ℕ → Reading B)
    → and_then (repeated (suc n) part bytes) end
    ≡ costs one_turn
    (and_then (part bytes) (λ x rest. and_then (repeated n part rest) (λ xs after. end (x ∷ xs) after)))
unfolding repeated
repeated_more n part bytes end = grind (arith, and_then-costs, and_then-assoc, and_then-same, done_then)

pub repeated_none : {A B : Type 0} (part : List ℕ → Reading A) (bytes : List ℕ) (end : List A → List ℕ → Reading B)
    → and_then (repeated 0 part bytes) end ≡ end [] bytes
unfolding repeated
repeated_none part bytes end = done_then [] bytes end

-- ---- what was counted and what is left to be read, as what was counted before and the whole

-- a turn is begun
pub turn_begins : {A : Type 0} (old new : Counts) (r : Reading A) → new ≡ next_turn old
    → costs (cost_of new) r ≡ costs (cost_of old) (costs one_turn r)
turn_begins old new r turn = grind (arith, cost_is, costs-costs)

-- all is read
pub all_read : {A : Type 0} (x : A) (rest : List ℕ) (whole : Reading A) (old new : Counts)
    → costs (cost_of new) (done x rest) ≡ costs (cost_of old) whole
    → (whole.1 ≡ Ok (x, rest)) × Spent old new whole.0
all_read x rest whole old new e = grind arith

module _ {A B : Type 0} (r : Reading A) (f : A → List ℕ → Reading B) (whole : Reading B) (old mid : Counts)
    (leads : costs (cost_of mid) (and_then r f) ≡ costs (cost_of old) whole) where
  -- what the next part costs is among the cost of the whole
  pub part_within : (mid.turns + r.0.turns ≤ old.turns + whole.0.turns)
      × (mid.slots + r.0.slots ≤ old.slots + whole.0.slots)
  part_within = grind (arith, and_then-least)

  -- so where the whole can be counted, the part can
  pub part_counted : CanCount old whole.0 → CanCount mid r.0
  part_counted fits = grind arith

-- a part that was read leads to what follows it
pub part_leads : {A B : Type 0} (r : Reading A) (f : A → List ℕ → Reading B) (whole : Reading B) (old mid new : Counts)
    (x : A) (rest : List ℕ)
    → costs (cost_of mid) (and_then r f) ≡ costs (cost_of old) whole → r.1 ≡ Ok (x, rest) → Spent mid new r.0
    → costs (cost_of new) (f x rest) ≡ costs (cost_of old) whole
part_leads r f whole old mid new x rest leads is spent = grind (arith, cost_is, costs-costs)

-- and where it stops, the whole does
pub part_stops : {A B : Type 0} (error : ReadError) (r : Reading A) (f : A → List ℕ → Reading B) (whole : Reading B)
    (old mid new : Counts)
    → costs (cost_of mid) (and_then r f) ≡ costs (cost_of old) whole → Stops error r mid new
    → Stops error whole old new
part_stops error r f whole old mid new leads h = grind arith
