-- What rows write one after another: the items of a row begin where those of the row before it end.
use Rattle.std.specs.Prelude.{◌≡◌, ℕ, ◌+◌, ◌-◌, ◌^◌, ◌<◌, ◌≤◌, List, length, drop, min, slice_range, slice_index}
use lib.Seq.{sets}
use Rattle.wkb_abi.specs.Columns.{IsRow, LacksRow, IsRefusedWith}
use Rattle.wkb_abi.specs.declared.{column.Column.Column, options.Options.Options, parts.Part.Part}
use Rattle.wkb_abi.specs.declared.{status.TheConstants.OK, status.TheConstants.NO_ROOM}
use Rattle.wkb_abi.specs.Subjects.{HasTable}
use Rattle.wkb_abi.specs.Writings.{HasEncoding, FailsToWrite}
use Rattle.wkb_levels.specs.Cuts.{start_at}

-- as many rows as both of these lists have entries for
abbrev pub rows_of : {A : Type 0} → List ℕ → List A → ℕ
rows_of statuses items = min (length statuses) (length items)

-- where they end; a 64-bit integer goes no further than this
abbrev pub end_of : ℕ → ℕ → ℕ
end_of start n = min (start + n) (2 ^ 64 - 1)

-- from one index up to another a list holds these items
pub record HoldsItems {A : Type 0} (out : List A) (from to : ℕ) (items : List A) : Type 0 where
  pub many : to ≡ from + length items
  pub within : to ≤ length out
  pub are : slice_range out from to ≡ items

-- The status of row i, and where its items begin and end in `out`. `Has i items`: these are the items of row i.
-- `Fails i status`: it has none, and this status says why.
pub data IsRowAnswer {A : Type 0} (Has : ℕ → List A → Type 0) (Fails : ℕ → ℕ → Type 0)
    (i status start end : ℕ) (out : List A) : Type 0 where
  handed : (items : List A) → Has i items → status ≡ OK → HoldsItems out start end items
      → IsRowAnswer Has Fails i status start end out
  no_room : (items : List A) → Has i items → status ≡ NO_ROOM
      → end ≡ end_of start (length items) → length out < start + length items
      → IsRowAnswer Has Fails i status start end out
  failed : Fails i status → end ≡ start → IsRowAnswer Has Fails i status start end out

-- each row below this number has such an answer
abbrev pub AreRowAnswers : {A : Type 0} → (ℕ → List A → Type 0) → (ℕ → ℕ → Type 0) → ℕ → List ℕ → List ℕ → List A
    → Type 0
AreRowAnswers Has Fails rows statuses ends out =
    (i : ℕ) → i < rows
    → IsRowAnswer Has Fails i (slice_index statuses i) (start_at 0 ends i) (slice_index ends i) out

-- row i has bytes, and these are their items
pub record RowHas {Items : Type 0} (Has : List ℕ → Items → Type 0) (c : Column) (i : ℕ) (items : Items) : Type 0 where
  pub row : List ℕ
  pub is : IsRow c i row
  pub has : Has row items

-- row i has no bytes, or they have no items, and this status says why
pub data RowFails (Fails : List ℕ → ℕ → Type 0) (c : Column) (i status : ℕ) : Type 0 where
  fails : (row : List ℕ) → IsRow c i row → Fails row status → RowFails Fails c i status
  has_no_row : LacksRow c i status → RowFails Fails c i status

-- the tables of the rows of a column
abbrev pub AreTables : Column → List ℕ → List ℕ → List Part → Type 0
AreTables c statuses ends parts =
    AreRowAnswers (RowHas HasTable c) (RowFails IsRefusedWith c) (rows_of statuses ends) statuses ends parts

-- the encodings of the rows of a column
abbrev pub AreEncodings : Options → Column → List ℕ → List ℕ → List ℕ → Type 0
AreEncodings o c statuses ends out =
    AreRowAnswers (RowHas (HasEncoding o) c) (RowFails (FailsToWrite o) c) (rows_of statuses ends) statuses ends out

-- after the last items of these rows nothing has changed
abbrev pub KeepsAfter : {A : Type 0} → ℕ → List ℕ → List ℕ → List A → List A → Type 0
KeepsAfter rows statuses ends before after =
    (k : ℕ) → ((i : ℕ) → i < rows → slice_index statuses i ≡ OK → slice_index ends i ≤ k) → drop k after ≡ drop k before

-- after the last items of the rows that both lists have entries for nothing has changed
abbrev pub KeepsRest : {A : Type 0} → List ℕ → List ℕ → List A → List A → Type 0
KeepsRest statuses ends before after = KeepsAfter (rows_of statuses ends) statuses ends before after

-- with this room none of the rows below this number lacks room
abbrev pub NoneLacksRoom : Type 0 → ℕ → List ℕ → Type 0
NoneLacksRoom Room rows statuses = Room → (i : ℕ) → i < rows → slice_index statuses i ≡ NO_ROOM → ⊥

-- with room up to the end of the last of these rows none of them lacks room
abbrev pub LastEndSuffices : {A : Type 0} → ℕ → List ℕ → List ℕ → List A → Type 0
LastEndSuffices rows statuses ends out = NoneLacksRoom (start_at 0 ends rows ≤ length out) rows statuses

-- from this index on nothing has changed
abbrev pub KeepsFrom : {A : Type 0} → ℕ → List A → List A → Type 0
KeepsFrom n before after = drop n after ≡ drop n before

-- in the list of statuses and in another one the entries of the rows below this number are set, and no others
pub record AreSet {A : Type 0} (rows : ℕ) (before statuses : List ℕ) (before' others : List A) : Type 0 where
  pub as_many : length statuses ≡ length before
  pub as_many_others : length others ≡ length before'
  pub statuses_kept : KeepsFrom rows before statuses
  pub others_kept : KeepsFrom rows before' others

-- those of the rows that both lists have entries for
abbrev pub SetsRows : {A : Type 0} → List ℕ → List ℕ → List A → List A → Type 0
SetsRows before statuses before' others = AreSet (rows_of before before') before statuses before' others

-- The status of row i, and how many items it has, where those before it end at `start`: they are laid there, if there
-- is room for them.
pub data IsRowStep {A : Type 0} (Has : ℕ → List A → Type 0) (Fails : ℕ → ℕ → Type 0)
    (i status count start : ℕ) (before after : List A) : Type 0 where
  laid : (items : List A) → Has i items → status ≡ OK → count ≡ length items → start + count ≤ length before
      → after ≡ sets before start items → IsRowStep Has Fails i status count start before after
  lacks : (items : List A) → Has i items → status ≡ NO_ROOM → count ≡ length items
      → length before < start + count → after ≡ before
      → IsRowStep Has Fails i status count start before after
  nothing : Fails i status → count ≡ 0 → after ≡ before → IsRowStep Has Fails i status count start before after

-- the step of row i, whose items are the entries of its table of parts
abbrev pub IsTableStep : Column → ℕ → ℕ × ℕ → ℕ → List Part → List Part → Type 0
IsTableStep c i result start before after =
    IsRowStep (RowHas HasTable c) (RowFails IsRefusedWith c) i result.0 result.1 start before after

-- the step of row i, whose items are the bytes of its encoding
abbrev pub IsEncodingStep : Options → Column → ℕ → ℕ × ℕ → ℕ → List ℕ → List ℕ → Type 0
IsEncodingStep o c i result start before after =
    IsRowStep (RowHas (HasEncoding o) c) (RowFails (FailsToWrite o) c) i result.0 result.1 start before after
