-- What the lists of a column's levels hold of each row, and where it begins in the levels that are given on.
use Rattle.wkb_abi.proofs.Common.{ℕ, length, subst, arith, Dimension, width, Spelling, Value, Subject, subjects}
use Rattle.wkb_abi.specs.declared.totals.Totals.{Totals}
use Rattle.wkb_abi.proofs.Common.{◌≡◌, zero, suc, ◌+◌, ◌*◌, ◌≤◌, ◌<◌, List, [], ◌∷◌, Some, refl, sym, ap, ◌∙◌, IsRow}
use Rattle.std.specs.Borrow.{Bor}
use Rattle.std.proofs.Common.{eqb-true, mul-add, rules, ◌==◌, if◌then◌else◌, sum, flat_map, take}
use Rattle.std.proofs.lemmas.Bool.{cond_both}
use Rattle.std.proofs.lemmas.List.{take-take, nil_from_length}
use Rattle.std.proofs.lemmas.List.Sums.{sum_by-cons}
use Rattle.wkb_geom.specs.Codes.{dimension_of_thousands}
use Rattle.wkb_geom.specs.Fronts.{Front}
use Rattle.wkb_laws.proofs.OneFront.{one_front_lem}
use Rattle.wkb_levels.specs.declared.{ends.Ends.Ends, ends.Ends.TheVariants.Each, ends.Ends.TheVariants.At}
use Rattle.wkb_levels.specs.declared.levels.Levels.{Levels}
use Rattle.wkb_levels.specs.Cuts.{start_at}
use Rattle.wkb_levels.specs.EndLists.{ends_of, begin_of}
use Rattle.wkb_levels.proofs.Pieces.{start_behind, last_of_part}
use Rattle.wkb_abi.specs.Coordinates.{LevelLists, levels, Level, of_words, of_rings, of_singles, list_of, many_in}
use Rattle.wkb_abi.specs.Coordinates.{HoldLevels, written, no_room, IsCoordinatesRow, handed, failed, no_row, unknown}
use Rattle.wkb_abi.specs.Coordinates.{refused, ends, ring_counts, single_counts}
use Rattle.wkb_abi.specs.LevelTargets.{levels_in}
use Rattle.wkb_abi.specs.RowItems.{HoldsItems}
use Rattle.wkb_abi.specs.declared.{level_column.LevelColumn.LevelColumn, column.Column.Column, status.TheConstants.OK}
use Rattle.wkb_abi.proofs.OneRow.{one_row, never_lacks}
use Rattle.wkb_abi.proofs.Levels.{ends_length, subjects_words}
use Rattle.wkb_abi.proofs.Rooms.{one_dimension, row_lacks, room_of, held_on, rise_at, end_at}
use Rattle.wkb_column_laws.specs.ThereAndBack.{AreGivenOn}
use Rattle.wkb_column_laws.proofs.ThereAndBackKinds.{counted}

-- ---- what a row has

pub unscaled : (d : Dimension) (a b : ℕ) → width d * a ≤ width d * b → a ≤ b
unscaled d a b h = grind arith

-- how many rings and coordinates more there are after levels that lists hold
module _ {asked : Dimension} {xs : List Subject} {from to : Totals} {out : LevelLists}
    (held : HoldLevels asked xs from to out) where
  pub rings_more : to.rings ≡ from.rings + length (flat_map ring_counts xs)
  rings_more = omega (arith, (held of_rings).many, ends_length from.coordinates (flat_map ring_counts xs))

  pub coordinates_more : to.coordinates ≡ from.coordinates + sum (flat_map ring_counts xs)
  coordinates_more =
      let end = from.coordinates + sum (flat_map ring_counts xs) in
      let same : width asked * to.coordinates ≡ width asked * end =
      (held of_words).many ∙ rw (subjects_words asked xs, ← mul-add) refl in
      let most = unscaled asked to.coordinates end (omega (arith, same)) in
      omega (arith, most, unscaled asked end to.coordinates (omega (arith, same)))

module _ {c : Column} {dimension i status : ℕ} {asked : Dimension} {from to : Totals} {out : LevelLists}
    (named : dimension_of_thousands dimension ≡ Some asked) where
  -- the levels of a row of the status OK are there, if it begins with this geometry
  pub row_there : {row rest : List ℕ} {s : Spelling} {t : Value} → status ≡ OK → IsRow c i row → Front row s t rest
      → IsCoordinatesRow c dimension i status from to out → HoldLevels asked (subjects s t) from to out
  row_there {row} {rest} {s} {t} ok is front (handed other named' own is' a (written is_status to_is held)) =
      let one = one_front_lem row a.s s a.t t a.rest rest (subst (λ z. Front z a.s a.t a.rest) (one_row is' is) a.front)
      front in grind (arith, one_dimension)
  row_there ok is front (handed other named' own is' a (no_room lacks to_is short)) = absurd (omega (arith, ok, lacks))
  row_there ok is front (failed (no_row lacks) to_is) = absurd (never_lacks is lacks)
  row_there ok is front (failed (unknown other is' none is_status) to_is) = absurd (cc named)
  row_there {s = s} {t = t} ok is front (failed (refused other d is' n why) to_is) = grind arith

-- ---- where the next row begins

-- the levels up to these totals end where the totals say
pub record IsPlaced (now : LevelLists) (at : Totals) : Type 0 where
  pub singles : start_at 0 now.single_ends at.singles ≡ at.rings
  pub rings : start_at 0 now.ring_ends at.rings ≡ at.coordinates

-- the last end is the sum
ends_last : (start : ℕ) (ns : List ℕ) → start_at start (ends start ns) (length (ends start ns)) ≡ start + sum ns
ends_last start [] = omega arith
ends_last start (n ∷ ns) =
    let others = ends (start + n) ns in
    sym (start_behind start (start + n) others (length others)) ∙ ends_last (start + n) ns
    ∙ omega (arith, sum_by-cons (λ n. n) n ns)

-- what comes behind ends that a list holds begins where the last of them ends
held_ends : {xs : List ℕ} {from to : ℕ} (start : ℕ) (ns : List ℕ) → HoldsItems xs from to (ends start ns)
    → start_at 0 xs from ≡ start → start_at 0 xs to ≡ start + sum ns
held_ends {xs} {from} {to} start ns h is = grind (arith, last_of_part, ends_last)

-- ---- the levels that are given on

-- ends that are given, or none if there are no items, and where items begin by them
pub record AreGivenEnds (e : Ends) (xs : List ℕ) : Type 0 where
  pub ends : ends_of e ≡ xs
  pub begins : (k : ℕ) → begin_of e k ≡ start_at 0 xs k

-- those of a level are
given_ends : (xs : Bor (List ℕ)) (n : ℕ) → n ≡ length xs.now
    → AreGivenEnds (if length xs.now == 0 then Each 0 n else At 0 xs) xs.now
given_ends xs n many = grind (arith, cond_both, eqb-true, nil_from_length)

-- where row j begins at each level of a column
pub record BeginsAt (l : Levels) (j : ℕ) (at : Totals) : Type 0 where
  pub singles : begin_of l.row_ends j ≡ at.singles
  pub rings : begin_of l.single_ends (begin_of l.row_ends j) ≡ at.rings
  pub coordinates : begin_of l.ring_ends (begin_of l.single_ends (begin_of l.row_ends j)) ≡ at.coordinates

-- ---- the rows of a column

module _ {c : Column} {dimension : ℕ} {asked : Dimension} {statuses : List ℕ} {rows : ℕ} {l : LevelColumn}
    (g : AreGivenOn c dimension asked statuses rows l) where
  -- the lists that are given on
  abbrev pub given : LevelLists
  given = levels l.words.now l.ring_ends.now l.single_ends.now

  given_is : (k : Level) → list_of k given ≡ take (many_in k asked g.to) (list_of k g.now)
  given_is of_words = g.levels.words
  given_is k = grind arith

  abbrev pub at : ℕ → Totals
  at i = g.written.at i

  -- the lists have room up to where a row ends
  abbrev pub Fits : ℕ → Type 0
  Fits i = (k : Level) → many_in k asked (at i) ≤ length (list_of k g.now)

  pub fits_before : (i j : ℕ) → j ≤ i → i ≤ rows → Fits i → Fits j
  fits_before i j up below fits k = omega (arith, fits k, rise_at g.written k asked i below j (omega (arith, up)))

  -- what a row has in the lists it has in those that are given on
  pub held_given : {i : ℕ} {xs : List Subject} → i < rows → HoldLevels asked xs (at i) (at (suc i)) g.now
      → HoldLevels asked xs (at i) (at (suc i)) given
  held_given {i} below held k =
      held_on (held k)
      (ap (take (many_in k asked (at (suc i)))) (given_is k)
      ∙ take-take _ _ (list_of k g.now) (end_at g.written k asked (suc i) (omega (arith, below))))

  placed_next : (i : ℕ) {status : ℕ} → i < rows → Fits (suc i) → IsPlaced given (at i)
      → IsCoordinatesRow c dimension i status (at i) (at (suc i)) g.now → IsPlaced given (at (suc i))
  placed_next i below fits p (handed other named own is a (written ok to_is held)) =
      let h =
      held_given below (one_dimension (λ d. HoldLevels d (subjects a.s a.t) (at i) (at (suc i)) g.now) dimension other
      asked named g.asked_is held) in
      record {
        singles =
            held_ends (at i).rings (flat_map single_counts (subjects a.s a.t)) (h of_singles) p.singles
            ∙ omega (arith, counted a.s a.t, rings_more h);
        rings =
            held_ends (at i).coordinates (flat_map ring_counts (subjects a.s a.t)) (h of_rings) p.rings
            ∙ sym (coordinates_more h);
      }
  placed_next i below fits p (handed other named own is a (no_room lacks to_is short)) =
      absurd (row_lacks {dimension = dimension} g.asked_is (handed other named own is a (no_room lacks to_is short))
      (room_of asked g.now (at (suc i)) fits) lacks)
  placed_next i below fits p (failed why to_is) = rw to_is p

  placed : (i : ℕ) → i ≤ rows → Fits i → IsPlaced given (at i)
  placed zero below fits = rw g.written.first (record { singles = refl; rings = refl })
  placed (suc i) below fits =
      placed_next i (omega (arith, below)) fits (placed i (omega (arith, below))
      (fits_before (suc i) i (omega arith) below fits)) (g.written.each i (omega (arith, below)))

  -- where singles and rings end in them
  pub single_level : AreGivenEnds (levels_in l).single_ends l.single_ends.now
  single_level = given_ends l.single_ends l.singles g.levels.singles

  pub ring_level : AreGivenEnds (levels_in l).ring_ends l.ring_ends.now
  ring_level = given_ends l.ring_ends l.rings g.levels.rings

  -- so a row begins in them where those before it end
  pub begins_at : (j : ℕ) → j ≤ rows → Fits j → BeginsAt (levels_in l) j (at j)
  begins_at j below fits = search (rules, placed, given_ends, single_level, ring_level)
