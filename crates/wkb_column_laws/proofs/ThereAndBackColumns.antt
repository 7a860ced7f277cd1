-- Columns whose rows are all null, or come back from their levels, come back as a whole.
use Rattle.wkb_abi.proofs.Common.{◌≡◌, ℕ, zero, suc, ◌+◌, ◌≤◌, ◌<◌, List, [], ◌++◌, length, drop, Option, Some, refl}
use Rattle.wkb_abi.proofs.Common.{sym, ap, ◌∙◌, subst, arith, Spelling, Value, slice_index}
use Rattle.wkb_abi.specs.declared.{column.Column.Column, options.Options.Options, level_column.LevelColumn.LevelColumn}
use Rattle.wkb_abi.specs.declared.{level_column.LevelTarget.LevelTarget, options.Request.Request}
use Rattle.wkb_abi.specs.declared.{status.TheConstants.OK, status.TheConstants.NO_ROOM, status.TheConstants.NULL_ROW}
use Rattle.std.specs.Prelude.{take, true}
use lib.Seq.{take-add}
use Rattle.wkb_geom.specs.Fronts.{Front}
use Rattle.wkb_levels.specs.Cuts.{start_at}
use Rattle.wkb_abi.specs.Columns.{IsRow, is_null_row, is_unset_bit}
use Rattle.wkb_abi.specs.Columns as columns
use Rattle.wkb_abi.specs.LevelRows.{EncodeLevels, LacksLevels}
use Rattle.wkb_abi.specs.Requests.{request_of}
use Rattle.wkb_abi.specs.RowItems.{IsRowAnswer, RowFails, fails, has_no_row}
use Rattle.wkb_abi.specs.Writings.{FailsToWrite, unknown, refused}
use Rattle.wkb_abi.proofs.OneRow.{one_row, never_lacks, never_refused}
use Rattle.wkb_column_laws.specs.ThereAndBack.{ComesBack, stays_null, is_levelled, AreTheSame, ColumnsComeBack}
use Rattle.wkb_column_laws.proofs.ThereAndBack.{there_and_back}

-- a call gives a row this status, and writes these bytes of it
record Tells (s : ℕ) (bytes : List ℕ) (status start end : ℕ) (out : List ℕ) : Type 0 where
  status_is : status ≡ s
  end_is : end ≡ start + length bytes
  range : take (length bytes) (drop start out) ≡ bytes

-- a row with an encoding
never_fails : {c : Column} {o : Options} {i status : ℕ} {row rest : List ℕ} {s : Spelling} {t : Value}
    {request : Request} → IsRow c i row → Front row s t rest → request_of o ≡ Some request
    → RowFails (FailsToWrite o) c i status → ⊥
never_fails is front asked (has_no_row lacks) = never_lacks is lacks
never_fails {o = o} {request = request} is front asked (fails other is' (unknown none is_status)) = grind arith
never_fails {status = status} {rest = rest} {s = s} {t = t} is front asked (fails other is' (refused some fault why)) =
    never_refused (record { s = s; t = t; rest = rest; front = front })
    (subst (λ z. columns.IsRefusedWith z status) (one_row is' is) (fault, why))

-- up to its end there are its bytes more than up to its start
grown : {s status start end : ℕ} {bytes out : List ℕ} → Tells s bytes status start end out
    → take end out ≡ take start out ++ bytes
grown {start = start} {bytes = bytes} {out} t = grind (arith, take-add)

module _ {Has : ℕ → List ℕ → Type 0} {Fails : ℕ → ℕ → Type 0} {i status start end : ℕ} {out : List ℕ} where
  -- of a row that is written
  tells_ok : (Fails i status → ⊥) → (status ≡ NO_ROOM → ⊥) → IsRowAnswer Has Fails i status start end out
      → (bytes : List ℕ) × (Has i bytes × Tells OK bytes status start end out)
  tells_ok fine room x = grind arith

  -- and of a null row
  tells_null : ((bytes : List ℕ) → Has i bytes → ⊥) → (Fails i status → status ≡ NULL_ROW)
      → IsRowAnswer Has Fails i status start end out → Tells NULL_ROW [] status start end out
  tells_null none null x = grind arith

-- a null row has no other status, in the column and in the levels
null_status : {c : Column} {o : Options} {i status : ℕ} → is_null_row c i ≡ true
    → RowFails (FailsToWrite o) c i status → status ≡ NULL_ROW
null_status null x = grind arith

null_back : {l : LevelColumn} {asked : Option LevelTarget} {i status : ℕ}
    → is_unset_bit l.validity.now (l.validity_offset + i) ≡ true → LacksLevels l asked i status → status ≡ NULL_ROW
null_back null x = grind arith

-- ---- all rows

-- both calls tell the same of row i
record SameRow (statuses ends out back_statuses back_ends back : List ℕ) (i : ℕ) : Type 0 where
  status : ℕ
  bytes : List ℕ
  first : Tells status bytes (slice_index statuses i) (start_at 0 ends i) (slice_index ends i) out
  second : Tells status bytes (slice_index back_statuses i) (start_at 0 back_ends i) (slice_index back_ends i) back

module _ {statuses ends out back_statuses back_ends back : List ℕ} {rows : ℕ}
    (each : (i : ℕ) → i < rows → SameRow statuses ends out back_statuses back_ends back i) where
  -- so they write the same up to each row
  up_to : (n : ℕ) → n ≤ rows
      → (start_at 0 ends n ≡ start_at 0 back_ends n)
      × (take (start_at 0 ends n) out ≡ take (start_at 0 back_ends n) back)
  up_to zero below = (refl, refl)
  up_to (suc n) below =
      let before = up_to n (omega (arith, below)) in
      let row = each n (omega (arith, below)) in (
        row.first.end_is ∙ ap (λ k. k + length row.bytes) before.0 ∙ sym row.second.end_is,
        grown row.first ∙ ap (λ z. z ++ row.bytes) before.1 ∙ sym (grown row.second),
      )

  -- and up to all
  columns_same : AreTheSame rows statuses ends out back_statuses back_ends back
  columns_same = record {
    statuses = λ i below. let row = each i below in row.first.status_is ∙ sym row.second.status_is;
    ends_are = λ i below. (up_to (suc i) (omega (arith, below))).0;
    bytes = (up_to rows (omega arith)).1;
  }

-- each row is null, or comes back
pub columns_come_back : ColumnsComeBack
columns_come_back c dimension asked statuses rows l g k o request asked_so come row_statuses ends out each there room
    back_statuses back_ends back each_back there' room' =
    columns_same (λ i below. same i below (come i below))
  where
    same : (i : ℕ) → i < rows → ComesBack c asked statuses o k i
        → SameRow row_statuses ends out back_statuses back_ends back i
    same i below (stays_null null) =
        let back_null = (λ j. is_unset_bit (g.levels.validity j) (g.levels.validity_offset j + i)) ∙ null in
        record {
          status = NULL_ROW;
          bytes = [];
          first = tells_null (λ bytes has. cc) (null_status null) (each i (omega (arith, below, there)));
          second = tells_null (λ bytes has. cc) (null_back back_null) (each_back i (omega (arith, below, there')));
        }
    same i below (is_levelled s t lv kind_is empty srid) =
        let first = tells_ok (never_fails lv.is_row lv.front asked_so) (room i below)
        (each i (omega (arith, below, there))) in
        let own = subst (λ n. EncodeLevels n dimension o l back_statuses back_ends back) (sym kind_is) each_back in
        let second = tells_ok (λ why. why) (room' i below)
        (there_and_back c dimension asked statuses rows l g i below s t lv empty o srid first.0 first.1.0 back_statuses
        back_ends back own (omega (arith, below, there'))) in
        record { status = OK; bytes = first.0; first = first.1.1; second = rw second.1.0 at second.1.1 }
