-- The statuses of a column's rows, and their items where each row has one.
use Rattle.wkb_abi.proofs.Common.{ℕ, ◌+◌, ◌<◌, List, length, slice_index, refl, sym, subst, arith, set, IsAccepted}
use Rattle.wkb_abi.proofs.Common.{Column}
use Rattle.std.specs.Prelude.{slice_index_or}
use lib.Seq.{get_or-set_same, get_or-set_other}
use Rattle.wkb_abi.specs.Columns.{RowShows, RowsShow, accepted, refused, no_row, IsStatusOfRow}

-- what holds of the rows below a number, and of its own status, holds with one status more
pub statuses_more : (Q : ℕ → ℕ → Type 0) (statuses : List ℕ) (i s : ℕ) → i < length statuses
    → ((j : ℕ) → j < i → Q j (slice_index statuses j)) → Q i s
    → (j : ℕ) → j < i + 1 → Q j (slice_index (set statuses i s) j)
statuses_more Q statuses i s there above own = grind (arith, get_or-set_other, get_or-set_same)

-- the same of statuses and items
pub shown_more : {A : Type 0} {Shows : List ℕ → A → Type 0} {none : A} {c : Column} {statuses : List ℕ} {items : List A}
    (i s : ℕ) (a : A) → i < length statuses → i < length items → RowsShow Shows none c i statuses items
    → RowShows Shows none c i s a → RowsShow Shows none c (i + 1) (set statuses i s) (set items i a)
shown_more {Shows = Shows} {none} {c} {statuses} {items} i s a there room above own = record {
  each =
      statuses_more (λ j t. RowShows Shows none c j t (slice_index_or (set items i a) j none)) statuses i s there
      (λ j below.
      let other = get_or-set_other items i j a none (λ same. omega (arith, same, below)) in
      subst (RowShows Shows none c j (slice_index statuses j)) (sym other) (above.each j below))
      (subst (RowShows Shows none c i s) (sym (get_or-set_same items i a none room)) own);
}

-- the status of a row whose item shows that it is accepted
pub status_shown : {A : Type 0} {Shows : List ℕ → A → Type 0} {none : A} {c : Column} {i status : ℕ} {item : A}
    → ((row : List ℕ) → Shows row item → IsAccepted row) → RowShows Shows none c i status item
    → IsStatusOfRow c i status
status_shown fine (accepted row is ok shows) = accepted row is ok (fine row shows)
status_shown fine (refused row is why none) = refused row is why refl
status_shown fine (no_row why none) = no_row why refl
