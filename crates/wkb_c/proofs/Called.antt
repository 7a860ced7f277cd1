-- The table of the parts of what was found.
use Rattle.wkb_abi.proofs.Common.{[], length, append-nil, Spelling, DescribesFront, Summary, subjects, subjects_of_each}
use Rattle.wkb_abi.proofs.Common.{◌≡◌, ℕ, ◌+◌, ◌≤◌, ◌<◌, List, ◌∷◌, sym, ap, ◌∙◌, arith, node, Value, sets, set, Piece}
use Rattle.std.proofs.lemmas.List.{nil_from_length}
use Rattle.std.proofs.Common.{rules}
use Rattle.wkb_check.specs.Prelude.{HasGeometries, last_end, IsPieceAt, whole}
use Rattle.wkb_abi.specs.Tables.{geometry_entries, FitGeometries, entry_at, entry_of}
use Rattle.wkb_abi.specs.declared.parts.Part.{Part}
use Rattle.wkb_check.proofs.Placing.{spelled_end, alone}
use Rattle.wkb_check.proofs.Joining.{geometry_of_front}
use Rattle.wkb_abi.specs.Room.{AreWritten, FindsNoRoom}
use Rattle.wkb_abi.specs.Subjects.{HasTable}
use Rattle.wkb_abi.proofs.Telling.{begins}
use Rattle.wkb_c.proofs.RowItems.{first_held}
use Rattle.wkb_c.proofs.Words.{holds, counted, entries_many}

-- a table has an entry
pub some_entry : (input : List ℕ) (parts : List Part) → HasTable input parts → 0 < length parts
some_entry input parts h = omega (arith, h.many)

one_entry : (s : Spelling) (t : Value) → length (geometry_entries 0 0 s t) ≡ 1
    → geometry_entries 0 0 s t ≡ entry_at 0 0 (whole s t) ∷ []
one_entry (node h words ss) t is = grind (arith, node, nil_from_length)

-- the table of what was found
module _ {input : List ℕ} {f : Summary} (d : DescribesFront input f) where
  abbrev entries : List Part
  entries = geometry_entries 0 0 d.spelled d.value

  table : HasTable input entries
  table = search (rules, holds, begins, entries_many)

  long : f.parts ≡ length entries
  long = omega (arith, d.described.parts, entries_many d.spelled d.value d.front.front d.front.spelled)

  -- the geometry, as the only one of some
  abbrev pub one_geometry : HasGeometries 1 input d.rest
  one_geometry = alone (geometry_of_front d.front)

  pub fits_table : (parts : List Part) → f.parts ≤ length parts → FitGeometries 1 input 0 (length parts)
  fits_table parts fit =
      let alone_is : length (subjects_of_each one_geometry.spelled one_geometry.values)
      ≡ length (subjects d.spelled d.value) = ap length (append-nil (subjects d.spelled d.value)) in
      record {
        more = d.rest;
        all = one_geometry;
        fit = omega (arith, fit, d.described.parts, counted d.spelled d.value d.front.front d.front.spelled, alone_is);
      }

  pub lacks_table : {parts : List Part} → length parts < f.parts → FindsNoRoom (HasTable input) parts f.parts
  lacks_table short = grind (arith, table, long)

  pub table_laid : {parts new : List Part} → f.parts ≤ length parts → new ≡ sets parts 0 entries
      → AreWritten (HasTable input) parts new f.parts
  table_laid fit laid = record { items = entries; is = table; held = first_held long fit laid }

  pub whole_laid : {parts new : List Part} (p : Piece) → IsPieceAt input 0 p → f.parts ≡ 1 → f.parts ≤ length parts
      → new ≡ set parts 0 (entry_of p f.bytes 1) → AreWritten (HasTable input) parts new f.parts
  whole_laid {parts} {new} p is one fit laid =
      let front = d.front in
      let far = spelled_end 0 d.spelled d.value front.front front.spelled in
      let only = one_entry d.spelled d.value (omega (arith, long, one)) in
      let end : f.bytes ≡ last_end 0 (subjects d.spelled d.value) = omega (arith, d.described.bytes_are, far) in
      let next : 1 ≡ 0 + length (subjects d.spelled d.value) =
      omega (arith, one, d.described.parts, counted d.spelled d.value front.front front.spelled) in
      table_laid fit
      (laid ∙ (λ i. set parts 0 (entry_of (is (geometry_of_front front) i) (end i) (next i)))
      ∙ ap (sets parts 0) (sym only))
