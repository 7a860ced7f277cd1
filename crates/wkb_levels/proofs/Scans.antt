-- Lemmas: no item of a level is looked at for two rows, since rows that are clear span none together.
use Rattle.std.proofs.Common.{arith, ℕ, ◌/◌, ◌≤◌, ◌<◌, List, [], ◌∷◌, length}
use Rattle.std.specs.List.{AllByRecursion}
use Rattle.wkb_geom.specs.declared.common.Dimensions.{Dimensions}
use Rattle.wkb_geom.specs.Dimensions.{size}
use Rattle.wkb_levels.specs.declared.levels.Levels.{Levels}
use Rattle.wkb_levels.specs.EndLists.{ends_of}
use Rattle.wkb_levels.specs.Columns.{row_begin, row_end, rings_begin, rings_end, coordinates_begin, coordinates_end}
use Rattle.wkb_levels.specs.Columns.{SpansSingles, SpansRings, SpansCoordinates, EndUpTo, IsClear, spanned, AreFromLast}

-- a row spans items of the level, and begins behind the earlier rows that do
record Stands (Spans : ℕ → Type 0) (begin end : ℕ → ℕ) (i : ℕ) : Type 0 where
  spans : Spans i
  order : begin i ≤ end i
  behind : EndUpTo Spans end i (begin i)

in_all : {P Q : ℕ → Type 0} → ((i : ℕ) → P i → Q i) → (rows : List ℕ) → AllByRecursion P rows → AllByRecursion Q rows
in_all f [] all = tt
in_all f (i ∷ rows) all = (f i all.0, in_all f rows all.1)

-- rows that stand span no more together than the number at which each ends, or before it
spanned_within : {P Spans : ℕ → Type 0} (begin end : ℕ → ℕ) → ((i : ℕ) → P i → Stands Spans begin end i)
    → (rows : List ℕ) (n : ℕ) → AreFromLast rows → AllByRecursion P rows
    → AllByRecursion (λ j. Spans j → end j ≤ n) rows → spanned begin end rows ≤ n
spanned_within begin end stands [] n order all up = omega arith
spanned_within begin end stands (i ∷ rows) n order all up =
    let s = stands i all.0 in
    let before = spanned_within begin end stands rows (begin i) order.1 all.1 (in_all s.behind rows order.0) in
    omega (arith, before, s.order, up.0 s.spans)

-- rows that are clear span no more singles, rings and coordinates together than there are
pub no_item_twice : (l : Levels) (d : Dimensions) (rows : List ℕ) → AreFromLast rows → AllByRecursion (IsClear l d) rows
    → (spanned (row_begin l) (row_end l) rows ≤ length (ends_of l.single_ends))
    × (spanned (rings_begin l) (rings_end l) rows ≤ length (ends_of l.ring_ends))
    × (spanned (coordinates_begin l) (coordinates_end l) rows ≤ length l.words.now / size d)
no_item_twice l d rows order clear = (
  spanned_within {Spans = SpansSingles l} (row_begin l) (row_end l)
      (λ i c. record { spans = c.spans.rings.0; order = c.spans.rings.0.order; behind = c.singles }) rows _ order clear
      (in_all (λ i c s. s.within) rows clear),
  spanned_within {Spans = SpansRings l} (rings_begin l) (rings_end l)
      (λ i c. record { spans = c.spans.rings; order = c.spans.rings.1.order; behind = c.rings }) rows _ order clear
      (in_all (λ i c s. s.1.within) rows clear),
  spanned_within {Spans = SpansCoordinates l d} (coordinates_begin l) (coordinates_end l)
      (λ i c. record { spans = c.spans; order = c.spans.coordinates.order; behind = c.coordinates }) rows _ order clear
      (in_all (λ i c s. s.coordinates.within) rows clear),
)
