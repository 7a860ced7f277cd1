-- How far the rows of a column reach, so that no two of them overlap.
use Rattle.wkb_abi.proofs.Common.{◌≡◌, ℕ, zero, suc, ◌+◌, ◌<◌, ◌≤◌, ◌⊎◌, inl, inr, List, [], length, ap, arith, ◌-◌}
use Rattle.wkb_abi.proofs.Common.{Column, IsRow}
use Rattle.std.proofs.Common.{max, drop, length-take}
use Rattle.wkb_abi.specs.Columns.{IsSpan, HasNoSpan, EndBy, IsReach, RowsFollow, RowsFit, total_length}

module _ (bytes offsets : List ℕ) (size : ℕ) where
  -- the rows before row i are among those before the next one
  fewer : (i limit : ℕ) → EndBy bytes offsets size (i + 1) limit → EndBy bytes offsets size i limit
  fewer i limit by = λ j start end below is. by j start end (omega (arith, below)) is

  -- so far the rows reach with a row that has bytes, and this is the greater end
  pub reached : {i reach start end to : ℕ} → to ≡ max reach end → IsReach bytes offsets size i reach
      → IsSpan bytes offsets size i start end → IsReach bytes offsets size (i + 1) to
  reached {i} {reach} {start} {end} {to} to_is r own = record {
    enough = grind arith;
    least = λ limit by. omega (arith, r.least limit (fewer i limit by), by i start end (omega arith) own, to_is);
  }

  -- and with a row that has none
  pub reach_same : {i reach : ℕ} → IsReach bytes offsets size i reach → HasNoSpan bytes offsets size i
      → IsReach bytes offsets size (i + 1) reach
  reach_same {i} {reach} r none = record {
    enough = grind arith;
    least = λ limit by. r.least limit (fewer i limit by);
  }

pub rows_follow : RowsFollow
rows_follow c i j row later below a b = b.slice.after i a.slice.start a.slice.end below a.slice.span

module _ (c : Column) (row : ℕ → List ℕ) where
  -- rows that end by here are together no longer
  abbrev EndAndFit : ℕ → Type 0
  EndAndFit n =
      (limit : ℕ) → EndBy c.bytes.now c.offsets.now c.offset_size n limit → total_length row n ≤ limit

  row_fits : (n : ℕ) → EndAndFit n → (row n ≡ []) ⊎ IsRow c n (row n) → EndAndFit (suc n)
  row_fits n before (inl empty) limit by =
      omega (arith, ap length empty, before limit (λ j s e below is. by j s e (omega (arith, below)) is))
  row_fits n before (inr is) limit by =
      let s = is.slice in
      let above = before s.start s.after in
      let own = by n s.start s.end (omega arith) s.span in
      omega (arith, ap length s.row_is, length-take (s.end - s.start) (drop s.start c.bytes.now))

  rows_end_and_fit : (n : ℕ) → ((i : ℕ) → i < n → (row i ≡ []) ⊎ IsRow c i (row i)) → EndAndFit n
  rows_end_and_fit zero rows = λ limit by. omega arith
  rows_end_and_fit (suc n) rows =
      row_fits n (rows_end_and_fit n (λ i below. rows i (omega (arith, below)))) (rows n (omega arith))

pub rows_fit : RowsFit
rows_fit c row n rows = rows_end_and_fit c row n rows (length c.bytes.now) (λ j s e below is. is.inside)
