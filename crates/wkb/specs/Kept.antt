-- What a loop keeps of a list's items.
use Rattle.std.specs.Prelude.{ℕ, List, [], ◌∷◌, ◌++◌, drop}

-- Of the items of the first list the second has, in order, some of which P holds; of each other Q holds.
pub data Keeps {A : Type 0} (P Q : A → Type 0) : List A → List A → Type 0 where
  none : Keeps P Q [] []
  kept : (x : A) (xs ks : List A) → P x → Keeps P Q xs ks → Keeps P Q (x ∷ xs) (x ∷ ks)
  left : (x : A) (xs ks : List A) → Q x → Keeps P Q xs ks → Keeps P Q (x ∷ xs) ks

-- These were kept of the items before an index: with what is kept of those from it on, they are what is kept of all.
pub record KeepsBefore {A : Type 0} (P Q : A → Type 0) (xs ks : List A) (i : ℕ) : Type 0 where
  pub before : (more : List A) → Keeps P Q (drop i xs) more → Keeps P Q xs (ks ++ more)
