-- Items that are laid into lists row by row, and that with room for the totals no row lacks room.
use Rattle.wkb_abi.proofs.Common.{◌≡◌, ℕ, zero, suc, ◌+◌, ◌*◌, ◌≤◌, ◌<◌, ◌^◌, List, length, drop, Some, refl, sym, ap}
use Rattle.wkb_abi.proofs.Common.{◌∙◌, subst, arith, Dimension, width, set, sets, sets-eq, length-sets, ◌-◌}
use Rattle.wkb_abi.proofs.Common.{DescribesFront, Summary, IsRow, Column, Totals, OK, NO_ROOM, subjects, length-append}
use Rattle.wkb_abi.proofs.Common.{append_assoc, levels_of, HasGeometry, here}
use Rattle.std.proofs.Common.{length-take, mul-add, lt-ltb, rules, flat_map, take, sum, nat_lt, if◌then◌else◌, le-ltb}
use Rattle.std.proofs.lemmas.List.{take_at, drop_at, take-take, drop-take, length-take-le}
use Rattle.std.proofs.lemmas.Slice.{drop-append-drop}
use borrow.Author.Count.{below_more, below_none}
use lib.Seq.{get_or-set_same, get_or-set_other}
use Rattle.wkb_geom.specs.Codes.{dimension_of_thousands}
use Rattle.wkb_abi.specs.Coordinates.{LevelsSuffice, list_of, IsCoordinatesRow, AreColumnCoordinates, IsCoordinatesStep}
use Rattle.wkb_abi.specs.Coordinates.{LevelLists, HasRoomUpTo, totals_after, ring_counts, no_totals, of_singles, handed}
use Rattle.wkb_abi.specs.Coordinates.{Level, of_words, of_rings, many_in, items_of, AreLaid, written, no_room, failed}
use Rattle.wkb_abi.specs.LevelLists.{LaysAny, LaysLevels}
use Rattle.wkb_abi.specs.RowItems.{HoldsItems, KeepsFrom, end_of}
use Rattle.wkb_abi.specs.declared.level_slices.LevelSlices.{LevelSlices}
use Rattle.wkb_abi.proofs.Levels.{AreSmall, ends_length, wide_enough, subjects_words}
use Rattle.wkb_abi.proofs.Rows.{statuses_more}

-- ---- items in a list

module _ {A : Type 0} where
  -- a list has the items that are laid into it
  pub held_laid : (xs items : List A) (from to : ℕ) → to ≡ from + length items → to ≤ length xs
      → HoldsItems (sets xs from items) from to items
  held_laid xs items from to many within =
      grind (arith, many, length-sets, items, length-take-le, sets-eq, append_assoc, drop_at, take_at)

  -- what is in front of them stays, and so does what is behind them
  pub front_laid : (xs items : List A) (at : ℕ) → at + length items ≤ length xs
      → take at (sets xs at items) ≡ take at xs
  front_laid xs items at there = grind (arith, sets-eq, items, there, append_assoc, take_at, length-take-le)

  pub behind_laid : (xs items : List A) (at n : ℕ) → at + length items ≤ length xs → at + length items ≤ n
      → KeepsFrom n xs (sets xs at items)
  behind_laid xs items at n there far =
      grind (arith, items, sets-eq, there, drop-append-drop, far, length-append, length-take-le)

  -- lists that are the same up to a number are so up to fewer
  pub fewer : (m n : ℕ) (xs ys : List A) → m ≤ n → take n xs ≡ take n ys → take m xs ≡ take m ys
  fewer m n xs ys h same = sym (take-take m n xs h) ∙ ap (take m) same ∙ take-take m n ys h

  -- and have the same items there
  pub held_on : {xs ys items : List A} {from to : ℕ} → HoldsItems xs from to items → take to ys ≡ take to xs
      → HoldsItems ys from to items
  held_on {xs} {ys} {items} {from} {to} h same = record {
    many = h.many;
    within = omega (arith, h.within, length-take to ys, length-take to xs, ap length same);
    are =
        let up : from + (to - from) ≡ to = omega (arith, h.many) in
        sym (drop-take from (to - from) ys) ∙ ap (λ n. drop from (take n ys)) up ∙ ap (drop from) same
        ∙ ap (λ n. drop from (take n xs)) (sym up) ∙ drop-take from (to - from) xs ∙ h.are;
  }

-- ---- the levels of one row

-- a number names one dimension
pub one_dimension : (P : Dimension → Type 0) (n : ℕ) (a b : Dimension) → dimension_of_thousands n ≡ Some a
    → dimension_of_thousands n ≡ Some b → P a → P b
one_dimension P n a b f g = let one : a ≡ b = cc in subst P one

-- there is room in each list
room_at : {asked : Dimension} {out : LevelLists} {to : Totals} → HasRoomUpTo asked out to → (k : Level)
    → many_in k asked to ≤ length (list_of k out)
room_at room k = grind arith

pub room_of : (asked : Dimension) (out : LevelLists) (to : Totals)
    → ((k : Level) → many_in k asked to ≤ length (list_of k out)) → HasRoomUpTo asked out to
room_of asked out to fits =
    record { words_fit = fits of_words; rings_fit = fits of_rings; singles_fit = fits of_singles }

-- a row that is laid into no list
pub unchanged : {c : Column} {dimension i status : ℕ} {from to : Totals} {out : LevelLists}
    → IsCoordinatesRow c dimension i status from to out → IsCoordinatesStep c dimension i status from to out out
unchanged row = record { row = row; long = λ k. refl; front = λ k asked named. refl; kept = λ k n far. refl }

module _ {asked : Dimension} {row : List ℕ} {found : Summary} {from to : Totals} (before : LevelSlices)
    (d : DescribesFront row found)
    (after_is : (g : HasGeometry row) → to ≡ totals_after from (subjects g.spelled g.value)) where
  -- what becomes of a row in which the check found this
  in_row : {c : Column} {dimension i status : ℕ} {out : LevelLists} → IsRow c i row
      → dimension_of_thousands dimension ≡ Some asked → AreLaid asked (subjects d.spelled d.value) status from to out
      → IsCoordinatesRow c dimension i status from to out
  in_row is named laid =
      handed asked named row is (record { s = d.spelled; t = d.value; rest = d.rest; front = d.front }) laid

  pub lacks_row : (HasRoomUpTo asked (levels_of before) to → ⊥) → LaysAny asked row NO_ROOM from to before before
  lacks_row short = λ c dimension i is named. unchanged (in_row is named (no_room refl (after_is (here d)) short))

  pub laid_row : (after : LevelSlices) → length before.words.now < 2 ^ 63 → length before.ring_ends.now < 2 ^ 63
      → length before.single_ends.now < 2 ^ 63 → HasRoomUpTo asked (levels_of before) to
      → LaysLevels asked row from before after → LaysAny asked row OK from to before after
  laid_row after words ring_ends single_ends room lays = λ c dimension i is named. record {
    row =
        in_row is named (written refl (after_is (here d))
        (λ k. rw (now k) (held_laid (old k) _ _ _ (many k) (room_at room k))));
    long = λ k. ap length (now k) ∙ length-sets (old k) (many_in k asked from) (items k);
    front = λ k other named'.
        one_dimension (λ d. take (many_in k d from) (list_of k (levels_of after)) ≡ take (many_in k d from) (old k))
        dimension asked other named named'
        (ap (take (many_in k asked from)) (now k) ∙ front_laid (old k) _ _ (there k));
    kept = λ k n far.
        ap (drop n) (now k) ∙ behind_laid (old k) _ _ n (there k) (omega (arith, many k, far refl asked named));
  }
    where
      old : (k : Level) → List ℕ
      old k = list_of k (levels_of before)

      items : (k : Level) → List ℕ
      items k = items_of k asked (subjects d.spelled d.value) from

      now : (k : Level) → list_of k (levels_of after) ≡ sets (old k) (many_in k asked from) (items k)
      now of_words = ap (λ out. out.words) (lays (here d))
      now k = ap (list_of k) (lays (here d))

      fits : (k : Level) → many_in k asked (totals_after from (subjects d.spelled d.value)) ≤ length (old k)
      fits k = rw (after_is (here d)) at (room_at room k)

      -- where there is room, totals grow by as many as there are items
      many : (k : Level) → many_in k asked to ≡ many_in k asked from + length (items k)
      many of_words =
          let xs = subjects d.spelled d.value in
          let n = sum (flat_map ring_counts xs) in
          let end : end_of from.coordinates n ≡ from.coordinates + n =
          omega (arith, fits of_words, words, wide_enough asked (end_of from.coordinates n)) in
          rw (after_is (here d), subjects_words asked xs, ← mul-add) (ap (λ n. width asked * n) end)
      many of_rings = rw (after_is (here d)) (omega (arith, fits of_rings, ring_ends, ends_length))
      many of_singles = rw (after_is (here d)) (omega (arith, fits of_singles, single_ends, ends_length))

      there : (k : Level) → many_in k asked from + length (items k) ≤ length (old k)
      there k = omega (arith, many k, room_at room k)

-- ---- all rows

-- items after some totals go no less far
record Rises (from to : Totals) : Type 0 where
  small : AreSmall to
  far : (k : Level) (asked : Dimension) → many_in k asked from ≤ many_in k asked to

-- those of a row
row_rises : {c : Column} {dimension i status : ℕ} {from to : Totals} {out : LevelLists}
    → IsCoordinatesRow c dimension i status from to out → AreSmall from → Rises from to
row_rises x small = grind arith

-- with room up to its end a row doesn't lack room
pub row_lacks : {c : Column} {dimension i status : ℕ} {asked : Dimension} {from to : Totals} {out : LevelLists}
    → dimension_of_thousands dimension ≡ Some asked → IsCoordinatesRow c dimension i status from to out
    → HasRoomUpTo asked out to → status ≡ NO_ROOM → ⊥
row_lacks named (handed other named' row is a (written ok to_is held)) room lacks = omega (arith, ok, lacks)
row_lacks {dimension = dimension} {asked} {to = to} {out} named
    (handed other named' row is a (no_room is_status to_is short)) room lacks =
    short (one_dimension (λ d. HasRoomUpTo d out to) dimension asked other named named' room)
row_lacks {c = c} {dimension} {i} named (failed why to_is) room lacks = grind arith

module _ {c : Column} {dimension : ℕ} {statuses row_ends : List ℕ} {out : LevelLists} {rows : ℕ} {at : Totals}
    {before : LevelLists} (r : AreColumnCoordinates c dimension statuses row_ends out rows at before) where
  small_at : (i : ℕ) → i ≤ rows → AreSmall (r.at i)
  small_at zero below = rw r.first (record { coordinates = omega arith; rings = omega arith; singles = omega arith })
  small_at (suc i) below = (row_rises (r.each i (omega (arith, below))) (small_at i (omega (arith, below)))).small

  -- no row ends before an earlier one
  pub rise_at : (k : Level) (asked : Dimension) (i : ℕ) → i ≤ rows → (j : ℕ) → j < i + 1
      → many_in k asked (r.at j) ≤ many_in k asked (r.at i)
  rise_at k asked zero below = grind arith
  rise_at k asked (suc i) below =
      let row = row_rises (r.each i (omega (arith, below))) (small_at i (omega (arith, below))) in
      below_more (λ j. many_in k asked (r.at j) ≤ many_in k asked (r.at (suc i))) (suc i)
      (λ j up. omega (arith, rise_at k asked i (omega (arith, below)) j (omega (arith, up)), row.far k asked))
      (omega arith)

  -- nor after the last
  pub end_at : (k : Level) (asked : Dimension) (i : ℕ) → i ≤ rows → many_in k asked (r.at i) ≤ many_in k asked at
  end_at k asked i below = grind (arith, rise_at)

  pub levels_suffice : LevelsSuffice dimension out at rows statuses
  levels_suffice asked named room i below = search (rules, row_lacks, room_of, end_at, room_at)

  -- a row more
  module _ {status : ℕ} {to : Totals} {after : LevelLists}
      (step : IsCoordinatesStep c dimension rows status at to before after) where
    -- the rows above stay
    kept_row : {i status : ℕ} {from end : Totals} → IsCoordinatesRow c dimension i status from end before
        → ((k : Level) (asked : Dimension) → many_in k asked end ≤ many_in k asked at)
        → IsCoordinatesRow c dimension i status from end after
    kept_row (handed asked named row is a (written ok to_is held)) far =
        handed asked named row is a
        (written ok to_is (λ k.
        held_on (held k) (fewer _ _ (list_of k after) (list_of k before) (far k asked) (step.front k asked named))))
    kept_row (handed asked named row is a (no_room is_status to_is short)) far =
        handed asked named row is a
        (no_room is_status to_is
        (λ room. short (room_of asked before _ (λ k. omega (arith, room_at room k, step.long k)))))
    kept_row (failed why to_is) far = failed why to_is

    abbrev begin : ℕ → Totals
    begin i = if nat_lt rows i then to else r.at i

    begin_above : (i : ℕ) → i ≤ rows → begin i ≡ r.at i
    begin_above i above = ap (λ b. if b then to else r.at i) (le-ltb rows i above)

    begin_next : (i : ℕ) → rows < i → begin i ≡ to
    begin_next i next = ap (λ b. if b then to else r.at i) (lt-ltb rows i next)

    pub row_more : rows < length statuses → rows < length row_ends
        → AreColumnCoordinates c dimension (set statuses rows status) (set row_ends rows to.singles) out (rows + 1) to
        after
    row_more there there' = record {
      at = begin;
      first = begin_above 0 (omega arith) ∙ r.first;
      last = begin_next (rows + 1) (omega arith);
      each =
          statuses_more (λ i s. IsCoordinatesRow c dimension i s (begin i) (begin (suc i)) after) statuses rows status
          there
          (λ i below. rw (begin_above i (omega (arith, below)), begin_above (suc i) (omega (arith, below)))
          (kept_row (r.each i below) (λ k asked. end_at k asked (suc i) (omega (arith, below)))))
          (rw (begin_above rows (omega arith), r.last, begin_next (suc rows) (omega arith)) step.row);
      row_ends_are =
          statuses_more (λ i end. end ≡ (begin (suc i)).singles) row_ends rows to.singles there'
          (λ i below. r.row_ends_are i below ∙ ap (λ t. t.singles) (sym (begin_above (suc i) (omega (arith, below)))))
          (ap (λ t. t.singles) (sym (begin_next (suc rows) (omega arith))));
      long = λ k. step.long k ∙ r.long k;
      kept = λ k n far.
          step.kept k n (λ ok asked named.
          let h = far rows (omega arith) (get_or-set_same statuses rows status 0 there ∙ ok) asked named in
          omega (arith, h, ap (many_in k asked) (begin_next (suc rows) (omega arith))))
          ∙ r.kept k n (λ i below ok asked named.
          let same = get_or-set_other statuses rows i status 0 (λ same. omega (arith, same, below)) in
          let h = far i (omega (arith, below)) (same ∙ ok) asked named in
          omega (arith, h, ap (many_in k asked) (begin_above (suc i) (omega (arith, below)))));
    }

-- no rows
pub no_rows : {c : Column} {dimension : ℕ} {statuses row_ends : List ℕ} {before after : LevelLists} → after ≡ before
    → AreColumnCoordinates c dimension statuses row_ends before 0 no_totals after
no_rows same = record {
  at = λ i. no_totals;
  first = refl;
  last = refl;
  each = below_none _;
  row_ends_are = below_none _;
  long = λ k. ap (λ out. length (list_of k out)) same;
  kept = λ k n far. ap (λ out. drop n (list_of k out)) same;
}
