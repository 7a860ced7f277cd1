-- Lemmas: the turns of a loop that keeps some items of a list, told by a relation.
use Rattle.std.proofs.Common.{ℕ, ◌+◌, ◌<◌, ◌≤◌, List, [], ◌∷◌, ◌++◌, drop, length, append_assoc, append-nil, arith, subst}
use Rattle.std.specs.Prelude.{slice_index_or}
use Rattle.std.proofs.lemmas.List.{drop_all, drop_more}
use Rattle.wkb.specs.Kept.{Keeps, none, kept, left, KeepsBefore}

-- Before the first item none is kept.
pub keeping_starts : {A : Type 0} (P Q : A → Type 0) (xs : List A) → KeepsBefore P Q xs [] 0
keeping_starts P Q xs = record { before = λ more h. h }

-- A loop keeps the item at an index, of which P holds.
pub keeps_one : {A : Type 0} (P Q : A → Type 0) (xs ks : List A) (i : ℕ) (x : A) → KeepsBefore P Q xs ks i
    → i < length xs → P (slice_index_or xs i x) → KeepsBefore P Q xs (ks ++ (slice_index_or xs i x ∷ [])) (i + 1)
keeps_one P Q xs ks i x so_far inside is =
    let y = slice_index_or xs i x in
    record {
      before = λ more h.
          rw (append_assoc ks (y ∷ []) more)
          (so_far.before (y ∷ more) (rw (drop_more xs i x inside) (kept y (drop (i + 1) xs) more is h)));
    }

-- A loop leaves the item at an index out, of which Q holds.
pub leaves_one : {A : Type 0} (P Q : A → Type 0) (xs ks : List A) (i : ℕ) (x : A) → KeepsBefore P Q xs ks i
    → i < length xs → Q (slice_index_or xs i x) → KeepsBefore P Q xs ks (i + 1)
leaves_one P Q xs ks i x so_far inside is = grind (arith, drop_more, left)

-- Behind the last item all were looked at.
pub keeping_ends : {A : Type 0} (P Q : A → Type 0) (xs ks : List A) (i : ℕ) → KeepsBefore P Q xs ks i → length xs ≤ i
    → Keeps P Q xs ks
keeping_ends P Q xs ks i so_far all =
    subst (Keeps P Q xs) (append-nil ks) (so_far.before [] (rw (drop_all i xs all) none))

pub ruleset keeping_laws = (keeping_starts, keeps_one, leaves_one, keeping_ends)
