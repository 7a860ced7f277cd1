-- A row whose levels hold some singles, each behind the one before it, has these singles.
use Rattle.std.proofs.Common.{◌≡◌, ℕ, zero, suc, ◌+◌, ◌-◌, ◌*◌, ◌/◌, ◌<◌, ◌≤◌, refl, sym, ap, ◌∙◌, arith, List, [], ◌∷◌}
use Rattle.std.proofs.Common.{◌++◌, length, take, drop, map, slice_index, slice_range, length-append}
use Rattle.std.specs.List.{AllByRecursion, flat_map, sum}
use Rattle.std.proofs.Math.Nat.{mul-div_cancel_left, sub-zero}
use Rattle.std.proofs.lemmas.List.{take_at, drop_at, take-take, drop-take, drop-drop}
use Rattle.wkb_laws.specs.Prelude.{Dimensions, size}
use Rattle.wkb_plain.specs.Runs.{runs, coordinates_in}
use Rattle.wkb_plain.proofs.Runs.{length-runs}
use Rattle.wkb_levels.specs.declared.levels.Levels.{Levels}
use Rattle.wkb_levels.specs.Columns.{AreRowLevels, SpansCoordinates, column_rings, singles_of, row_begin, row_end}
use Rattle.wkb_levels.specs.Columns.{rings_begin, rings_end, coordinates_begin, coordinates_end}
use Rattle.wkb_levels.specs.Cuts.{start_at, AreEnds, pieces_from}
use Rattle.wkb_levels.specs.EndLists.{ends_of}
use Rattle.wkb_levels.proofs.Pieces.{length-pieces, start_behind, slice_range-pieces, coordinates_between}
use Rattle.wkb_abi.specs.Coordinates.{ends}
use Rattle.wkb_abi.specs.RowItems.{HoldsItems}
use Rattle.std.proofs.lemmas.List.Sums.{sum_by-cons}

-- ---- lists one behind another, cut where they end

-- lists one behind another
abbrev pub joined : {A : Type 0} → List (List A) → List A
joined xss = flat_map (λ x. x) xss

-- how long each is
abbrev pub sizes_of : {A : Type 0} → List (List A) → List ℕ
sizes_of xss = map (λ x. length x) xss

module _ {A : Type 0} where
  -- together they are as long
  pub sizes_sum : (xss : List (List A)) → sum (sizes_of xss) ≡ length (joined xss)
  sizes_sum [] = refl
  sizes_sum (x ∷ xss) =
      omega (arith, sum_by-cons (λ n. n) (length x) (sizes_of xss), sizes_sum xss, length-append x (joined xss))

  -- what is held in two parts
  held_parts : {xs : List A} {from to : ℕ} (x y : List A) → HoldsItems xs from to (x ++ y)
      → (slice_range xs from (from + length x) ≡ x) × HoldsItems xs (from + length x) to y
  held_parts {xs} {from} {to} x y h =
      let both = length-append x y in
      let wide : from + length x - from ≡ length x = omega arith in
      let long : length x + (to - (from + length x)) ≡ to - from = omega (arith, h.many) in
      let front = take-take (length x) (to - from) (drop from xs) (omega (arith, h.many)) in (
        rw wide (sym front ∙ ap (take (length x)) h.are ∙ take_at x y (length x) refl),
        record {
          many = omega (arith, h.many);
          within = h.within;
          are = rw (← drop-drop (length x) from xs, ← drop-take, long, h.are) (drop_at x y (length x) refl);
        },
      )

  -- where one list holds them, its pieces are these
  pieces_held : (xss : List (List A)) (items : List A) (start end : ℕ) → HoldsItems items start end (joined xss)
      → pieces_from 0 items start (ends start (sizes_of xss)) ≡ xss
  pieces_held [] items start end held = refl
  pieces_held (x ∷ xss) items start end held =
      let parts = held_parts x (joined xss) held in
      simp (sub-zero, parts.0, pieces_held xss items (start + length x) end parts.1)

  -- their ends don't fall, nor pass the limit
  ends_rise : (limit start : ℕ) (xss : List (List A)) → start + length (joined xss) ≤ limit
      → AreEnds limit start (ends start (sizes_of xss))
  ends_rise limit start [] h = (omega (arith, h), λ i below. absurd (omega (arith, below)))
  ends_rise limit start (x ∷ xss) h =
      let behind = ends_rise limit (start + length x) xss (omega (arith, h, length-append x (joined xss))) in
      (omega (arith, h), each behind)
    where
      each : AreEnds limit (start + length x) (ends (start + length x) (sizes_of xss)) → (i : ℕ)
          → i < length (ends start (sizes_of (x ∷ xss)))
          → (start_at start (ends start (sizes_of (x ∷ xss))) i ≤ slice_index (ends start (sizes_of (x ∷ xss))) i)
          × (slice_index (ends start (sizes_of (x ∷ xss))) i ≤ limit)
      each behind zero below = (omega arith, behind.0)
      each behind (suc i) below = grind (arith, start_behind, behind.1 i (omega (arith, below)))

-- ---- words that are cut into coordinates

-- each has so many words
abbrev pub AreWide : ℕ → List (List ℕ) → Type 0
AreWide w cs = AllByRecursion (λ c. length c ≡ w) cs

-- together they have so many times as many
pub joined_length : (w : ℕ) (cs : List (List ℕ)) → AreWide w cs → length (joined cs) ≡ w * length cs
joined_length w [] wide = omega arith
joined_length w (c ∷ cs) wide = omega (arith, length-append c (joined cs), joined_length w cs wide.1, wide.0)

-- cut by so many words they are as before
runs_held : (w : ℕ) (cs : List (List ℕ)) → AreWide w cs → runs w (length cs) (joined cs) ≡ cs
runs_held w [] wide = refl
runs_held w (c ∷ cs) wide = rw (take_at c _ w wide.0, drop_at c _ w wide.0, runs_held w cs wide.1)

-- ---- the levels of a row

-- at each level the row has the items of these singles, each of which is a list of rings
pub record HoldsSingles (l : Levels) (d : Dimensions) (i : ℕ) (singles : List (List (List (List ℕ)))) : Type 0 where
  pub some_words : 0 < size d
  pub wide : AreWide (size d) (joined (joined singles))
  pub single_ends : HoldsItems (ends_of l.single_ends) (row_begin l i) (row_end l i)
      (ends (rings_begin l i) (sizes_of singles))
  pub ring_ends : HoldsItems (ends_of l.ring_ends) (rings_begin l i) (rings_end l i)
      (ends (coordinates_begin l i) (sizes_of (joined singles)))
  pub words : HoldsItems l.words.now (size d * coordinates_begin l i) (size d * coordinates_end l i)
      (joined (joined (joined singles)))
  pub rings : rings_end l i ≡ rings_begin l i + length (joined singles)
  pub coordinates : coordinates_end l i ≡ coordinates_begin l i + length (joined (joined singles))

module _ {l : Levels} {d : Dimensions} {i : ℕ} {singles : List (List (List (List ℕ)))}
    (h : HoldsSingles l d i singles) where
  -- its coordinates are within the words
  within : coordinates_end l i ≤ length l.words.now / size d
  within = grind arith

  -- the coordinates that it has, and its rings
  coordinates_are : HoldsItems (coordinates_in d l.words.now) (coordinates_begin l i) (coordinates_end l i)
      (joined (joined singles))
  coordinates_are =
      let cs = joined (joined singles) in
      let held : coordinates_in d (joined cs) ≡ cs =
      rw (joined_length (size d) cs h.wide, mul-div_cancel_left (length cs) h.some_words)
      (runs_held (size d) cs h.wide) in grind (arith, within, length-runs, coordinates_between)

  rings_are : HoldsItems (column_rings l d) (rings_begin l i) (rings_end l i) (joined singles)
  rings_are = record {
    many = h.rings;
    within = grind (arith, length-pieces);
    are =
        sym (grind (arith, slice_range-pieces))
        ∙ ap (pieces_from 0 (coordinates_in d l.words.now) (coordinates_begin l i)) h.ring_ends.are
        ∙ pieces_held (joined singles) (coordinates_in d l.words.now) (coordinates_begin l i) (coordinates_end l i)
        coordinates_are;
  }

  -- they are the row's singles
  pub singles_are : singles_of l d i ≡ singles
  singles_are =
      sym (grind (arith, slice_range-pieces))
      ∙ ap (pieces_from 0 (column_rings l d) (rings_begin l i)) h.single_ends.are
      ∙ pieces_held singles (column_rings l d) (rings_begin l i) (rings_end l i) rings_are

  -- and its levels are in order
  pub levels_are : AreRowLevels l d i
  levels_are = record {
    some_words = h.some_words;
    order = omega (arith, h.single_ends.many);
    within = h.single_ends.within;
    singles = rw h.single_ends.are (ends_rise (length (ends_of l.ring_ends)) (rings_begin l i) singles
        (omega (arith, h.rings, h.ring_ends.within)));
    rings = rw h.ring_ends.are (ends_rise (length l.words.now / size d) (coordinates_begin l i) (joined singles)
        (omega (arith, h.coordinates, within)));
  }

  -- and it spans items of each
  pub spans_are : SpansCoordinates l d i
  spans_are = grind arith
