-- The rows of a column (Apache Arrow columnar format: variable-size binary layout, validity bitmaps), and their
-- statuses.
use Rattle.std.specs.Prelude.{◌≡◌, ◌⊎◌, ℕ, ◌+◌, ◌-◌, ◌*◌, ◌/◌, ◌%◌, ◌^◌, ◌<◌, ◌≤◌, Bool, true, false, List, length}
use Rattle.std.specs.Prelude.{Option, Some, None, zero, suc, [], drop, slice_get, slice_range, slice_index}
use Rattle.std.specs.Prelude.{slice_index_or, nat_eq}
use Rattle.wkb_check.specs.Inputs.{IsAccepted}
use Rattle.wkb_laws.specs.Prelude.{number, LittleEndian}
use Rattle.wkb_abi.specs.declared.{column.Column.Column, fault.WkbFault.WkbFault, status.TheConstants.OK}
use Rattle.wkb_abi.specs.declared.{status.TheConstants.NULL_ROW, status.TheConstants.BAD_OFFSETS}
use Rattle.wkb_abi.specs.Statuses.{IsFault}

-- whether this bit of a byte is 0, counted from the lowest; without a byte no bit is
abbrev pub is_zero_bit : Option ℕ → ℕ → Bool
is_zero_bit None k = false
is_zero_bit (Some byte) k = nat_eq (byte / 2 ^ k % 2) 0

-- whether this bit of a bitmap is 0
abbrev pub is_unset_bit : List ℕ → ℕ → Bool
is_unset_bit bitmap bit = is_zero_bit (slice_get bitmap (bit / 8)) (bit % 8)

-- whether a row is null
abbrev pub is_null_row : Column → ℕ → Bool
is_null_row c i = is_unset_bit c.validity.now (c.validity_offset + i)

-- offset i is this number: it has 4 or 8 bytes, is little endian and signed, and isn't negative
pub record IsOffset (offsets : List ℕ) (size i n : ℕ) : Type 0 where
  pub size_is : (size ≡ 4) ⊎ (size ≡ 8)
  pub inside : size * (i + 1) ≤ length offsets
  pub number_is : n ≡ number LittleEndian size (drop (size * i) offsets)
  pub not_negative : n < 2 ^ (8 * size - 1)

-- row i has the bytes from here up to there: its offsets are not negative, and neither decrease nor pass the end
pub record IsSpan (bytes offsets : List ℕ) (size i start end : ℕ) : Type 0 where
  pub start_is : IsOffset offsets size i start
  pub end_is : IsOffset offsets size (i + 1) end
  pub rise : start ≤ end
  pub inside : end ≤ length bytes

-- row i has no such bytes: an offset is missing or negative, or they decrease or pass the end
abbrev pub HasNoSpan : List ℕ → List ℕ → ℕ → ℕ → Type 0
HasNoSpan bytes offsets size i = (start end : ℕ) → IsSpan bytes offsets size i start end → ⊥

-- no row before row i ends after this byte
abbrev pub EndBy : List ℕ → List ℕ → ℕ → ℕ → ℕ → Type 0
EndBy bytes offsets size i limit = (j start end : ℕ) → j < i → IsSpan bytes offsets size j start end → end ≤ limit

-- the bytes of row i, which begins no earlier than a row before it ends
pub record IsRowSlice (bytes offsets : List ℕ) (size i : ℕ) (row : List ℕ) : Type 0 where
  pub start : ℕ
  pub end : ℕ
  pub span : IsSpan bytes offsets size i start end
  pub after : EndBy bytes offsets size i start
  pub row_is : row ≡ slice_range bytes start end

-- there are no such bytes
abbrev pub HasNoSlice : List ℕ → List ℕ → ℕ → ℕ → Type 0
HasNoSlice bytes offsets size i = (row : List ℕ) → IsRowSlice bytes offsets size i row → ⊥

-- row i isn't null, and has these bytes
pub record IsRow (c : Column) (i : ℕ) (row : List ℕ) : Type 0 where
  pub present : is_null_row c i ≡ false
  pub slice : IsRowSlice c.bytes.now c.offsets.now c.offset_size i row

-- how far the rows before row i reach: no row ends later, and no smaller number is as much
pub record IsReach (bytes offsets : List ℕ) (size i reach : ℕ) : Type 0 where
  pub enough : EndBy bytes offsets size i reach
  pub least : (limit : ℕ) → EndBy bytes offsets size i limit → reach ≤ limit

-- how far the rows of a column before row i reach
abbrev pub Reach : Column → ℕ → ℕ → Type 0
Reach c i reach = IsReach c.bytes.now c.offsets.now c.offset_size i reach

-- of two rows with bytes the later one begins where the earlier one ends, or after that
abbrev pub RowsFollow : Type 0
RowsFollow = (c : Column) (i j : ℕ) (row later : List ℕ) → i < j → (a : IsRow c i row) → (b : IsRow c j later)
    → a.slice.end ≤ b.slice.start

-- how long the rows below this number are together
abbrev pub total_length : (ℕ → List ℕ) → ℕ → ℕ
total_length row zero = 0
total_length row (suc i) = total_length row i + length (row i)

-- all rows with bytes are together no longer than the bytes of the column
abbrev pub RowsFit : Type 0
RowsFit = (c : Column) (row : ℕ → List ℕ) (rows : ℕ)
    → ((i : ℕ) → i < rows → (row i ≡ []) ⊎ IsRow c i (row i)) → total_length row rows ≤ length c.bytes.now

-- row i has no bytes, and this status says why
pub data LacksRow (c : Column) (i status : ℕ) : Type 0 where
  null_row : is_null_row c i ≡ true → status ≡ NULL_ROW → LacksRow c i status
  bad_offsets : is_null_row c i ≡ false → HasNoSlice c.bytes.now c.offsets.now c.offset_size i → status ≡ BAD_OFFSETS
      → LacksRow c i status

-- the bytes are rejected, and this status says why
abbrev pub IsRefusedWith : List ℕ → ℕ → Type 0
IsRefusedWith row status = (fault : WkbFault) × IsFault row status fault

-- Row i is accepted, and its item shows this of its bytes; or it is refused, or has no bytes, and its item is `none`.
-- The status says which.
pub data RowShows {A : Type 0} (Shows : List ℕ → A → Type 0) (none : A) (c : Column) (i status : ℕ) (item : A) : Type 0
  where
    accepted : (row : List ℕ) → IsRow c i row → status ≡ OK → Shows row item → RowShows Shows none c i status item
    refused : (row : List ℕ) → IsRow c i row → IsRefusedWith row status → item ≡ none
        → RowShows Shows none c i status item
    no_row : LacksRow c i status → item ≡ none → RowShows Shows none c i status item

-- each row below this number has its status and its item
pub record RowsShow {A : Type 0} (Shows : List ℕ → A → Type 0) (none : A) (c : Column) (rows : ℕ) (statuses : List ℕ)
    (items : List A) : Type 0 where
  pub each : (i : ℕ) → i < rows → RowShows Shows none c i (slice_index statuses i) (slice_index_or items i none)

-- the bytes are accepted, and no item is asked for
abbrev pub ShowsNothing : List ℕ → Unit {0} → Type 0
ShowsNothing row item = IsAccepted row

-- the status of row i
abbrev pub IsStatusOfRow : Column → ℕ → ℕ → Type 0
IsStatusOfRow c i status = RowShows ShowsNothing tt c i status tt

-- each row below this number has its status
abbrev pub AreStatuses : Column → ℕ → List ℕ → Type 0
AreStatuses c rows statuses = (i : ℕ) → i < rows → IsStatusOfRow c i (slice_index statuses i)
