-- Sums over a list that a loop goes through.
use Rattle.std.proofs.Common.{◌≡◌, ℕ, zero, suc, ◌+◌, ◌≤◌, List, [], ◌∷◌, length, Some, arith, drop, sum_by, slice_get}
use Rattle.std.proofs.lemmas.List.{drop_all}
use Rattle.std.proofs.lemmas.List.Sums.{sum_by-cons}

next_added : {A : Type 0} (f : A → ℕ) (xs : List A) (i : ℕ) (x : A) → Some x ≡ slice_get xs i
    → sum_by f (drop i xs) ≡ f x + sum_by f (drop (suc i) xs)
next_added f [] i x at = absurd (cc)
next_added f (y ∷ xs) zero x at = grind (arith, sum_by-cons)
next_added f (y ∷ xs) (suc i) x at = next_added f xs i x at

-- one more is added
pub sum_more : {A : Type 0} (f : A → ℕ) (xs : List A) (i count n : ℕ) (x : A) → Some x ≡ slice_get xs i → n ≡ f x
    → count + sum_by f (drop i xs) ≡ sum_by f xs → (count + n) + sum_by f (drop (i + 1) xs) ≡ sum_by f xs
sum_more f xs i count n x at is so_far = grind (arith, next_added)

-- all are added
pub sum_all : {A : Type 0} (f : A → ℕ) (xs : List A) (i count : ℕ) → length xs ≤ i
    → count + sum_by f (drop i xs) ≡ sum_by f xs → count ≡ sum_by f xs
sum_all f xs i count all so_far = grind (arith, drop_all)
