-- Rows that write their items one after another.
use Rattle.wkb_abi.proofs.Common.{slice_index, append-nil, append_assoc, length-append, drop-drop, sets-eq, length-sets}
use Rattle.wkb_abi.proofs.Common.{◌≡◌, List, ◌++◌, length, drop, refl, arith, IsRow, IsRowStep, RowFails, RowHas, Reach}
use Rattle.wkb_abi.proofs.Common.{◌≢◌, ℕ, suc, ◌+◌, ◌≤◌, ◌<◌, ◌^◌, ◌⊎◌, inl, inr, [], ap, sym, ◌∙◌, ◌-◌, set, sets}
use Rattle.std.proofs.Common.{length-drop, take, min}
use Rattle.wkb_abi.specs.declared.{column.Column.Column, status.TheConstants.NO_ROOM, status.TheConstants.OK}
use Rattle.std.proofs.lemmas.List.{take-append-drop, drop-set-lt, drop_all, take_rest}
use lib.ListN.{length-set}
use lib.Seq.{get_or-set_same, get_or-set_other}
use Rattle.wkb_abi.specs.Room.{IsHeld, Exceeds, AreWritten, FindsNoRoom}
use Rattle.wkb_levels.specs.Cuts.{start_at}
use Rattle.wkb_abi.specs.RowItems.{rows_of, end_of, IsRowAnswer, handed, no_room, failed, AreRowAnswers, KeepsAfter}
use Rattle.wkb_abi.specs.RowItems.{AreSet, laid, lacks, nothing, LastEndSuffices}
use Rattle.wkb_abi.specs.Columns.{RowShows, RowsShow}
use Rattle.wkb_abi.proofs.Reasons.{TellsOther}
use borrow.Author.Count.{below_more}
use Rattle.wkb_abi.proofs.Rooms.{held_laid, front_laid, behind_laid, fewer, held_on}
use Rattle.wkb_abi.proofs.Rows.{shown_more}

-- ---- a step of one row

-- what a step says of the list that it changes, and of its row
record StepSays {A : Type 0} (Has : ℕ → List A → Type 0) (Fails : ℕ → ℕ → Type 0) (i status start end : ℕ)
    (before after : List A) : Type 0 where
  pub long : length after ≡ length before
  pub front : take start after ≡ take start before
  pub behind : (k : ℕ) → (status ≡ OK → end ≤ k) → drop k after ≡ drop k before
  pub answer : IsRowAnswer Has Fails i status start end after

module _ {A : Type 0} {Has : ℕ → List A → Type 0} {Fails : ℕ → ℕ → Type 0} {i status start : ℕ} where
  -- one that lays nothing
  stays : {end : ℕ} {before after : List A} → after ≡ before → IsRowAnswer Has Fails i status start end before
      → StepSays Has Fails i status start end before after
  stays same answer = rw same (record { long = refl; front = refl; behind = λ k far. refl; answer = answer })

  step_says : {count : ℕ} {before after : List A} → IsRowStep Has Fails i status count start before after
      → length before < 2 ^ 63 → start < 2 ^ 64
      → StepSays Has Fails i status start (end_of start count) before after
  step_says {count} {before} (laid items has ok many there laid_is) small fits =
      let room : start + length items ≤ length before = rw many at there in
      let end : end_of start count ≡ start + length items = omega (arith, there, small, many) in
      rw (laid_is, end)
      (record {
        long = length-sets before start items;
        front = front_laid before items start room;
        behind = λ k far. behind_laid before items start k room (far ok);
        answer = handed items has ok (held_laid before items start _ refl room);
      })
  step_says (lacks items has is many short same) small fits =
      stays same (no_room items has is (ap (end_of start) many) (omega (arith, many, short)))
  step_says (nothing why none same) small fits = stays same (failed why (omega (arith, none, fits)))

  -- what is laid after a row doesn't change its answer
  kept_answer : {end : ℕ} {out new : List A} (at : ℕ) → IsRowAnswer Has Fails i status start end out
      → end ≤ at → length new ≡ length out → take at new ≡ take at out
      → IsRowAnswer Has Fails i status start end new
  kept_answer {out = out} {new} at (handed items has ok held) below same front =
      handed items has ok (held_on held (fewer _ at new out below front))
  kept_answer at (no_room items has ok end_is short) below same front =
      no_room items has ok end_is (omega (arith, short, same))
  kept_answer at (failed why end_is) below same front = failed why end_is

  -- with room up to its end a row doesn't lack room
  never_lacks : {end : ℕ} {out : List A} → IsRowAnswer Has Fails i status start end out → TellsOther Fails
      → length out < 2 ^ 63 → end ≤ length out → status ≡ NO_ROOM → ⊥
  never_lacks x other small room none = grind arith

-- ---- all rows

pub set_more : {A : Type 0} {rows : ℕ} {before statuses : List ℕ} {before' others : List A}
    → AreSet rows before statuses before' others → (i status : ℕ) (x : A) → i < rows
    → AreSet rows before (set statuses i status) before' (set others i x)
set_more are i status x below = grind (arith, length-set, drop-set-lt)

-- the rows below this number show their items, they reach this far, and nothing else has changed
pub record AreShown {A : Type 0} (Shows : List ℕ → A → Type 0) (none : A) (c : Column) (rows i reach : ℕ)
    (before statuses : List ℕ) (before' items : List A) : Type 0 where
  pub reaches : Reach c i reach
  pub lists : AreSet rows before statuses before' items
  pub done : RowsShow Shows none c i statuses items

pub row_shown : {A : Type 0} {Shows : List ℕ → A → Type 0} {none : A} {c : Column} {rows i reach to status : ℕ}
    {item : A} {before statuses : List ℕ} {before' items : List A}
    → AreShown Shows none c rows i reach before statuses before' items → Reach c (i + 1) to
    → RowShows Shows none c i status item → i < rows → rows ≡ rows_of before before'
    → AreShown Shows none c rows (i + 1) to before (set statuses i status) before' (set items i item)
row_shown {i = i} {status = status} {item = item} shown reach row below few = record {
  reaches = reach;
  lists = set_more shown.lists i status item below;
  done =
      shown_more i status item (omega (arith, below, few, shown.lists.as_many))
      (omega (arith, below, few, shown.lists.as_many_others)) shown.done row;
}

-- the rows below this number are done, and their items end here
pub record RowsDone {A : Type 0} (Has : ℕ → List A → Type 0) (Fails : ℕ → ℕ → Type 0) (rows i at : ℕ)
    (before_statuses statuses before_ends ends : List ℕ) (before out : List A) : Type 0 where
  pub lists : AreSet rows before_statuses statuses before_ends ends
  pub at_is : at ≡ start_at 0 ends i
  pub fits : at < 2 ^ 64
  pub long : length out ≡ length before
  pub each : AreRowAnswers Has Fails i statuses ends out
  pub below : (j : ℕ) → j < i → slice_index ends j ≤ at
  pub kept : KeepsAfter i statuses ends before out

start_kept : (ends : List ℕ) (i e j : ℕ) → j ≤ i → start_at 0 (set ends i e) j ≡ start_at 0 ends j
start_kept ends i e j h = grind (arith, get_or-set_other)

module _ {A : Type 0} {Has : ℕ → List A → Type 0} {Fails : ℕ → ℕ → Type 0} {i at : ℕ} {statuses ends : List ℕ}
    {before out new : List A} {status count end rows : ℕ} {before_statuses before_ends : List ℕ}
    (done : RowsDone Has Fails rows i at before_statuses statuses before_ends ends before out)
    (step : IsRowStep Has Fails i status count at out new)
    (end_is : end ≡ end_of at count) (small : length before < 2 ^ 63) (below : i < rows)
    (few : rows ≤ rows_of before_statuses before_ends) where
  says : StepSays Has Fails i status at (end_of at count) out new
  says = step_says step (omega (arith, done.long)) done.fits

  status_here : slice_index (set statuses i status) i ≡ status
  status_here = get_or-set_same statuses i status 0 (omega (arith, below, few, done.lists.as_many))

  end_here : slice_index (set ends i end) i ≡ end_of at count
  end_here = get_or-set_same ends i end 0 (omega (arith, below, few, done.lists.as_many_others)) ∙ end_is

  status_above : (j : ℕ) → j < i → slice_index (set statuses i status) j ≡ slice_index statuses j
  status_above j above = get_or-set_other statuses i j status 0 (λ same. omega (arith, same, above))

  end_above : (j : ℕ) → j < i → slice_index (set ends i end) j ≡ slice_index ends j
  end_above j above = start_kept ends i end (suc j) (omega (arith, above))

  pub row_done : RowsDone Has Fails rows (i + 1) end before_statuses (set statuses i status) before_ends
      (set ends i end) before new
  row_done = record {
    lists = set_more done.lists i status end below;
    at_is =
        let next : suc i ≡ i + 1 = omega arith in end_is ∙ sym end_here ∙ ap (start_at 0 (set ends i end)) next;
    fits = omega (arith, end_is);
    long = says.long ∙ done.long;
    each =
        below_more (λ j. IsRowAnswer Has Fails j (slice_index (set statuses i status) j) (start_at 0 (set ends i end) j)
        (slice_index (set ends i end) j) new) i
        (λ j above. rw (status_above j above, end_above j above, start_kept ends i end j (omega (arith, above)))
        (kept_answer at (done.each j above) (done.below j above) says.long says.front))
        (rw (status_here, end_here, start_kept ends i end i (omega arith), sym done.at_is)
        says.answer);
    below = grind (arith, end_above, end_here);
    kept = λ k far.
        says.behind k (λ ok. omega (arith, far i (omega arith) (status_here ∙ ok), end_here))
        ∙ done.kept k
        (λ j above ok. omega (arith, far j (omega (arith, above)) (status_above j above ∙ ok), end_above j above));
  }

-- with room up to the last end no row lacks room
pub last_end_suffices : {A : Type 0} {Has : ℕ → List A → Type 0} {Fails : ℕ → ℕ → Type 0} {end i at rows : ℕ}
    {statuses' statuses ends' ends : List ℕ} {before out : List A}
    → RowsDone Has Fails end i at statuses' statuses ends' ends before out → TellsOther Fails
    → length before < 2 ^ 63 → i ≡ rows → LastEndSuffices rows statuses ends before
last_end_suffices done other small all = grind arith

-- ---- a call for one row

-- what is written as one thing is written as another that it also is
pub written_as : {A : Type 0} {Is Other : List A → Type 0} {before after : List A} {count : ℕ}
    → ((items : List A) → Is items → Other items) → AreWritten Is before after count → AreWritten Other before after count
written_as also w = record { items = w.items; is = also w.items w.is; held = w.held }

pub no_room_as : {A : Type 0} {Is Other : List A → Type 0} {before : List A} {count : ℕ}
    → ((items : List A) → Is items → Other items) → FindsNoRoom Is before count → FindsNoRoom Other before count
no_room_as also w = record { items = w.items; is = also w.items w.is; lacks = w.lacks }

-- what is laid at the start of a list
pub first_held : {A : Type 0} {items before after : List A} {count : ℕ} → count ≡ length items → count ≤ length before
    → after ≡ sets before 0 items → IsHeld items before after count
first_held many room is = grind (arith, sets-eq)

-- a call is lent what is at `start` or after it, and makes `sub` of it
pub record IsLent {A : Type 0} (start : ℕ) (before lent sub after : List A) : Type 0 where
  pub at : ℕ
  pub at_is : at ≡ min start (length before)
  pub lent_is : lent ≡ drop at before
  pub after_is : after ≡ take at before ++ sub
  pub long : length sub ≡ length lent

-- what is borrowed from an index on, and what comes of it
abbrev pub lent_rest : {A : Type 0} {start : ℕ} (xs sub : List A) (at : ℕ) → at ≡ min start (length xs)
    → length sub ≡ length (take (length xs - at) (drop at xs))
    → IsLent start xs (take (length xs - at) (drop at xs)) sub
    (take at xs ++ (sub ++ drop (length xs - at) (drop at xs)))
lent_rest xs sub at at_is long =
    let k = length xs - at in
    let none : drop k (drop at xs) ≡ [] = drop_all k (drop at xs) (omega (arith, length-drop at xs)) in
    record {
      at = at;
      at_is = at_is;
      lent_is = take_rest xs at;
      after_is = rw (none, append-nil sub);
      long = long;
    }

module _ {A : Type 0} {start : ℕ} {before lent sub after : List A} (l : IsLent start before lent sub after) where
  pub unchanged : sub ≡ lent → after ≡ before
  unchanged same = grind (arith, take-append-drop)

  many_lent : length lent ≡ length before - l.at
  many_lent = ap length l.lent_is ∙ length-drop l.at before

  -- what is laid at the start of what is lent
  pub lent_laid : (items : List A) → start + length items ≤ length before
      → (length items ≤ length lent → sub ≡ items ++ drop (length items) lent) → after ≡ sets before start items
  lent_laid items room lays = grind (arith, drop-drop, many_lent, sets-eq, append_assoc)

module _ {A : Type 0} {Has : ℕ → List A → Type 0} {Fails : ℕ → ℕ → Type 0} {i status count start : ℕ}
    {before lent sub after : List A} (l : IsLent start before lent sub after) where
  -- its items were laid
  pub laid_step : (items : List A) → Has i items → status ≡ OK → 0 < length items → IsHeld items lent sub count
      → IsRowStep Has Fails i status count start before after
  laid_step items has ok some held =
      let n = length items in
      let room : start + n ≤ length before =
      omega (arith, l.at_is, some, l.long, ap length held.whole, length-append items (drop n lent), many_lent l) in
      laid items has ok held.count_is (omega (arith, room, held.count_is)) (lent_laid l items room (λ fit. held.whole))

  -- they have no room
  pub lacks_step : (items : List A) → Has i items → status ≡ NO_ROOM → Exceeds items lent count → sub ≡ lent
      → IsRowStep Has Fails i status count start before after
  lacks_step items has is short same =
      lacks items has is short.count_is
      (omega (arith, short.count_is, short.short, l.at_is, many_lent l)) (unchanged l same)

-- what was written for the bytes of a row is the step of that row
pub row_step : {A : Type 0} {Has : List ℕ → List A → Type 0} {Fails : List ℕ → ℕ → Type 0} {c : Column}
    {i status count start : ℕ} {before lent sub after : List A} {row : List ℕ} → IsRow c i row
    → ((row : List ℕ) (items : List A) → Has row items → 0 < length items) → IsLent start before lent sub after
    → (status ≡ OK → AreWritten (Has row) lent sub count) → (status ≡ NO_ROOM → FindsNoRoom (Has row) lent count)
    → (status ≢ OK → sub ≡ lent) → (status ≡ OK) ⊎ (status ≡ NO_ROOM)
    → IsRowStep (RowHas Has c) (RowFails Fails c) i status count start before after
row_step {row = row} is some l lays short kept (inl ok) =
    let h = lays ok in
    laid_step l h.items (record { row = row; is = is; has = h.is }) ok (some row h.items h.is) h.held
row_step {row = row} is some l lays short kept (inr none) =
    let h = short none in
    lacks_step l h.items (record { row = row; is = is; has = h.is }) none h.lacks (kept (λ ok. omega (arith, ok, none)))
