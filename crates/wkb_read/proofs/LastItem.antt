-- A list by its last item: the top of a stack.
use Rattle.wkb_read.proofs.Prelude.{◌≡◌, ℕ, suc, List, [], ◌∷◌, ◌++◌, length, take, slice_index_or, slice_set, reverse}
use Rattle.wkb_read.proofs.Prelude.{sym, ap, ◌∙◌, arith, length-append, length-set, take_all, take-suc, take-suc-set}
use Rattle.wkb_read.proofs.Prelude.{reverse-append, length-reverse}

backwards : {A : Type 0} (xs front : List A) (o : A) → xs ≡ front ++ o ∷ [] → reverse xs ≡ o ∷ reverse front
backwards xs front o is = ap reverse is ∙ reverse-append front (o ∷ [])

-- the stack from its top on, and with another top
pub record Top {A : Type 0} (xs : List A) (n : ℕ) (o : A) : Type 0 where
  pub below : List A
  pub is : reverse xs ≡ o ∷ below
  pub set_is : (y : A) → reverse (slice_set xs n y) ≡ y ∷ below
  pub count : length xs ≡ suc (length below)

pub top : {A : Type 0} (xs : List A) (n : ℕ) (o : A) → length xs ≡ suc n → o ≡ slice_index_or xs n o → Top xs n o
top xs n o l is =
    let all : xs ≡ take n xs ++ o ∷ [] = grind (arith, take_all, take-suc) in
    record {
      below = reverse (take n xs);
      is = backwards xs (take n xs) o all;
      set_is =
          λ y. backwards _ (take n xs) y
          (sym (take_all (suc n) _ (omega (arith, length-set xs n y))) ∙ take-suc-set xs n y (omega arith));
      count = omega (arith, ap length all, length-append (take n xs) (o ∷ []), length-reverse (take n xs));
    }

-- what is taken off the stack is the other top
pub popped : {A : Type 0} (xs ys : List A) (n : ℕ) (o y z : A) (t : Top xs n o) → slice_set xs n y ≡ ys ++ z ∷ []
    → (y ≡ z) × (t.below ≡ reverse ys)
popped xs ys n o y z t e = let same : y ∷ t.below ≡ z ∷ reverse ys = sym (t.set_is y) ∙ backwards _ ys z e in (cc, cc)
