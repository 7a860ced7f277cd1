-- The singles of a row, from what its ends are.
use Rattle.std.proofs.Common.{rules, ◌≡◌, ℕ, zero, suc, ◌+◌, ◌-◌, ◌/◌, ◌<◌, ◌≤◌, ◌↔◌, refl, subst, arith, List, [], ◌∷◌}
use Rattle.std.proofs.Common.{length, length-take, length-drop, slice_range, Option, None, IsSome, IfSome}
use Rattle.std.proofs.lemmas.Bool.{false≢true}
use Rattle.std.proofs.lemmas.List.{drop-drop, take-take, drop-take}
use Rattle.wkb_geom.specs.declared.common.Dimensions.{Dimensions}
use Rattle.wkb_geom.specs.Dimensions.{size}
use Rattle.wkb_levels.specs.declared.{ends.Ends.Ends, levels.Levels.Levels}
use Rattle.wkb_levels.specs.Cuts.{start_at, AreEnds, pieces_from}
use Rattle.wkb_levels.specs.EndLists.{start_of, ends_of, begin_of, AreEndsWithin}
use Rattle.wkb_levels.specs.RingLists.{rings_in}
use Rattle.wkb_levels.specs.Columns.{AreRowLevels, singles_of, row_begin, row_end}
use Rattle.wkb_levels.proofs.Pieces.{length-pieces, slice_range-pieces, start_within, start_from}
use Rattle.wkb_levels.proofs.Pieces.{rest_fit, last_of_part}

-- some of some of the items
inner_range : {A : Type 0} (items : List A) (r0 r1 s e : ℕ) → r0 ≤ s → s ≤ e → e ≤ r1
    → slice_range (slice_range items r0 r1) (s - r0) (e - r0) ≡ slice_range items (s - 0) (e - 0)
inner_range items r0 r1 s e a b c =
    let whole : r1 - r0 ≡ s - r0 + (r1 - s) = omega (arith, a, b, c) in
    let there : r0 + (s - r0) ≡ s = omega (arith, a) in
    grind (arith, drop-take, take-take, drop-drop)

-- the pieces of some of the items are those of all, where the ends are within them
pieces_within : {A : Type 0} (items : List A) (r0 r1 start : ℕ) (ends : List ℕ) → r0 ≤ start
    → AreEnds r1 start ends → pieces_from r0 (slice_range items r0 r1) start ends ≡ pieces_from 0 items start ends
pieces_within items r0 r1 start [] h are = refl
pieces_within items r0 r1 start (e ∷ ends) h are =
    let first = are.1 0 (omega arith) in
    grind (
      arith,
      inner_range items r0 r1 start e h first.0 first.1,
      pieces_within items r0 r1 e ends (omega (arith, h, first.0)) (rest_fit r1 start e ends are),
    )

-- ---- some items of a level

-- these are the items of a level from one number up to another
pub record HasPart (e : Ends) (from to : ℕ) (part : Ends) : Type 0 where
  pub order : from ≤ to
  pub within : to ≤ length (ends_of e)
  pub start : start_of part ≡ begin_of e from
  pub ends : ends_of part ≡ slice_range (ends_of e) from to

pub has_part : (e : Ends) (b t : ℕ) (part : Ends) (from to : ℕ) → b ≡ from → t ≡ to → (b ≤ t) × (t ≤ length (ends_of e))
    → start_of part ≡ begin_of e b → ends_of part ≡ slice_range (ends_of e) b t → HasPart e from to part
has_part e b t part from to at till are start ends = grind arith

-- the last of them ends where the level does there
pub part_last : (e : Ends) (from to : ℕ) (part : Ends) → HasPart e from to part
    → begin_of part (length (ends_of part)) ≡ begin_of e to
part_last e from to part has = grind (arith, last_of_part)

-- where ends are in order the first is not behind the last
pub rises : (limit : ℕ) (e : Ends) → AreEndsWithin limit e
    → (start_of e ≤ begin_of e (length (ends_of e))) × (begin_of e (length (ends_of e)) ≤ limit)
rises limit e are = search (rules, start_from, start_within)

ascend : (limit start : ℕ) (ends : List ℕ) (i k : ℕ) → AreEnds limit start ends → i + k ≤ length ends
    → start_at start ends i ≤ start_at start ends (i + k)
ascend limit start ends i zero are h = let same : i ≡ i + 0 = omega arith in rw (← same) (omega arith)
ascend limit start ends i (suc k) are h = grind (arith, ascend limit start ends i k are (omega (arith, h)))

-- the last end is a limit
pub to_last : (limit : ℕ) (e : Ends) (n : ℕ) → n ≡ begin_of e (length (ends_of e)) → AreEndsWithin limit e
    → AreEndsWithin n e
to_last limit e n last are = (
  omega (arith, last, (rises limit e are).0),
  λ i h.
      let rest : suc i + (length (ends_of e) - suc i) ≡ length (ends_of e) = omega (arith, h) in
      let up = rw rest at
      (ascend limit (start_of e) (ends_of e) (suc i) (length (ends_of e) - suc i) are (omega (arith, h))) in
      ((are.1 i h).0, omega (arith, up, last)),
)

pub up_to : (n limit : ℕ) (e : Ends) → n ≤ limit → AreEndsWithin n e → AreEndsWithin limit e
up_to n limit e more are = grind arith

-- ---- a row: its singles `s`, and the rings that these span, `r`

module _ (l : Levels) (d : Dimensions) (i : ℕ) (s : Ends)
    (has : HasPart l.single_ends (row_begin l i) (row_end l i) s) where
  -- if its levels are in order, its singles span some of the rings
  pub spans_some : AreRowLevels l d i
      → (start_of s ≤ begin_of s (length (ends_of s)))
      × (begin_of s (length (ends_of s)) ≤ length (ends_of l.ring_ends))
  spans_some are = rises (length (ends_of l.ring_ends)) s (grind arith)

  module _ (r : Ends) (spans : HasPart l.ring_ends (start_of s) (begin_of s (length (ends_of s))) r) where
    -- these are in order
    pub rings_fit : AreRowLevels l d i → (0 < size d) × AreEndsWithin (length l.words.now / size d) r
    rings_fit are = (
      are.some_words,
      rw (spans.start, spans.ends)
          (rw (part_last l.single_ends (row_begin l i) (row_end l i) s has, has.start) are.rings),
    )

    pub count_rings : (rings : List (List (List ℕ))) → rings ≡ rings_in d l.words.now r
        → start_of s + length rings ≡ begin_of s (length (ends_of s))
    count_rings rings are = grind (arith, length-pieces, length-drop, length-take)

    -- the singles end within them exactly if the row's levels are in order
    pub levels_are : (rings : List (List (List ℕ))) → rings ≡ rings_in d l.words.now r
        → (0 < size d) × AreEndsWithin (length l.words.now / size d) r
        → AreEndsWithin (start_of s + length rings) s ↔ AreRowLevels l d i
    levels_are rings given fit = (
      λ are.
          record {
            some_words = fit.0;
            order = has.order;
            within = has.within;
            singles = grind (arith, up_to, count_rings);
            rings = grind (arith, part_last);
          },
      λ are.
          to_last (length (ends_of l.ring_ends)) s _ (count_rings rings given)
          (rw (has.start, has.ends) are.singles),
    )

    -- and then the polygons of the rings are the row's singles
    pub polygons_are : (rings : List (List (List ℕ))) → rings ≡ rings_in d l.words.now r
        → AreEndsWithin (start_of s + length rings) s
        → pieces_from (start_of s) rings (start_of s) (ends_of s) ≡ singles_of l d i
    polygons_are rings given fit = grind (arith, slice_range, slice_range-pieces, pieces_within, count_rings)

-- ---- what follows from an option

pub none_exactly : {A P : Type 0} (o : Option A) → o ≡ None → (P → ⊥) → IsSome o ↔ P
none_exactly o is differ = (λ some. absurd (false≢true (subst IsSome is some)), λ p. absurd (differ p))

pub some_told : {A B F : Type 0} (f : A → B) (x y : B) (o : Option A) → IsSome o ↔ F → IfSome o (λ a. f a ≡ x)
    → (F → x ≡ y) → IfSome o (λ a. f a ≡ y)
some_told f x y o some are same = grind arith

pub follows_on : {A F G : Type 0} (o : Option A) → IsSome o ↔ F → F ↔ G → IsSome o ↔ G
follows_on o some same = (λ s. same.0 (some.0 s), λ g. some.1 (same.1 g))
