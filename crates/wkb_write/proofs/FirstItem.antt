-- The item of a list at an index, and the first one.
use Rattle.wkb_write.proofs.Prelude.{◌≡◌, ℕ, zero, suc, ◌+◌, ◌-◌, ◌<◌, List, [], ◌∷◌, length, Option, Some, None, refl}
use Rattle.wkb_write.proofs.Prelude.{arith, slice_get, get_or, drop, add-one, slice_get_read}
use Rattle.std.proofs.lemmas.Option.{slice_get-get_or}
use Rattle.std.specs.Prelude.{IfSome, IsSome}
use Rattle.std.specs.Option.{option_map}

pub length-none_first : {X : Type 0} (xs : List X) → slice_get xs 0 ≡ None → length xs ≡ 0
length-none_first [] h = refl
length-none_first (x ∷ xs) h = cc

pub length-some_first : {X : Type 0} (xs : List X) (x : X) → slice_get xs 0 ≡ Some x → length xs - 1 + 1 ≡ length xs
length-some_first [] x h = cc
length-some_first (y ∷ xs) x h = omega arith

-- where there is an item at i, what was answered for it is there
pub some_below : {X Y : Type 0} (f : Y → X) (o : Option Y) (xs : List X) (i : ℕ) → option_map f o ≡ slice_get xs i
    → i < length xs → IsSome o
some_below f (Some y) xs i h k = refl
some_below f None [] i h k = absurd (omega arith)
some_below f None (x ∷ xs) i h k = let there = slice_get-get_or (x ∷ xs) i x k in cc

pub ruleset ring_laws = (length-none_first, length-some_first, some_below)

-- the item at an index, with those behind it, and what is said of it
pub record ItemAt {X : Type 0} (xs : List X) (i : ℕ) (P : X → Type 0) : Type 0 where
  pub item : X
  pub rest : drop i xs ≡ item ∷ drop (i + 1) xs
  pub holds : P item

-- as a clause says it
pub item_at : {X : Type 0} {P : X → Type 0} (xs : List X) (i : ℕ) → i < length xs → IfSome (slice_get xs i) P
    → ItemAt xs i P
item_at [] i within holds = absurd (omega arith)
item_at (x ∷ xs) zero within holds = record { item = x; rest = refl; holds = holds }
item_at (x ∷ xs) (suc i) within holds = grind (arith, add-one, item_at xs i (omega arith) holds)

-- as a loop reads it
pub item_read : {X : Type 0} {P : X → Type 0} {j : ℕ} (xs : List X) (i : ℕ) (x : X) → x ≡ get_or xs j x → j ≡ i
    → i < length xs → P x → ItemAt xs i P
item_read xs i x is here within holds = grind (arith, item_at, slice_get_read)
