-- What a range says of the numbers that it was widened by, and of those of a value on an axis.
use Rattle.std.proofs.Common.{◌≡◌, ℕ, zero, suc, ◌+◌, ◌≤◌, List, [], ◌∷◌, ◌++◌, length, drop, false, Some, refl, slice_get}
use Rattle.std.proofs.Common.{arith}
use Rattle.std.proofs.lemmas.Bool.Decides.{nat_tests}
use Rattle.std.proofs.lemmas.List.{drop_all, drop_more}
use Rattle.std.proofs.lemmas.Option.{slice_get_within, get_or_from_slice_get}
use Rattle.wkb_geom.specs.declared.common.Dimension.{Dimension}
use Rattle.wkb_geom.specs.Numbers.{is_nan, IsWord}
use Rattle.wkb_geom.specs.Values.{Coordinate, Value}
use Rattle.wkb_laws.proofs.Doubles.{in_order}
use Rattle.wkb_bounds.specs.declared.{range.Range.Range, range.Bounds.Bounds}
use Rattle.wkb_bounds.specs.Bounded.{AreBounds}
use Rattle.wkb_bounds.specs.Ordinates.{Axis, x_axis, y_axis, z_axis, m_axis, axis_place, word_at, words_of_each, words_in}
use Rattle.wkb_bounds.specs.Ranges.{no_numbers, with_word, widened, range_of}
use Rattle.wkb_bounds.specs.Within.{IsWithin, BringsWithin, WidenedBefore, HasNumbers, IsBetween}
use Rattle.wkb_bounds.proofs.Widening.{widened-append}

-- ---- a range that is widened by a word

kept_within : (r : Range) (w x : ℕ) → IsWithin r x → IsWithin (with_word r w) x
kept_within r w x h = grind (arith, nat_tests)

word_within : (r : Range) (w x : ℕ) → w ≡ x → is_nan x ≡ false → IsWithin (with_word r w) x
word_within r w x same number = grind (arith, nat_tests)

-- What is within a range is within it when it is wider.
pub stays_within : (r : Range) (ws : List ℕ) (x : ℕ) → IsWithin r x → IsWithin (widened r ws) x
stays_within r [] x h = h
stays_within r (w ∷ ws) x h = stays_within (with_word r w) ws x (kept_within r w x h)

-- ---- the words that bring a number within

-- A number that words bring within any range is within the range of these words.
pub within_range_of : (ws : List ℕ) (x : ℕ) → BringsWithin ws x → IsWithin (range_of ws) x
within_range_of ws x h = h no_numbers

-- Words bring each number of them within.
pub number_within : (ws : List ℕ) (i x : ℕ) → slice_get ws i ≡ Some x → is_nan x ≡ false → BringsWithin ws x
number_within [] i x at number r = absurd cc
number_within (w ∷ ws) zero x at number r = stays_within (with_word r w) ws x (word_within r w x (cc) number)
number_within (w ∷ ws) (suc i) x at number r = number_within ws i x at number (with_word r w)

before_others : (ws more : List ℕ) (x : ℕ) → BringsWithin ws x → BringsWithin (ws ++ more) x
before_others ws more x h r = rw (widened-append r ws more) (stays_within (widened r ws) more x (h r))

after_others : (before ws : List ℕ) (x : ℕ) → BringsWithin ws x → BringsWithin (before ++ ws) x
after_others before ws x h r = rw (widened-append r before ws) (h (widened r before))

-- What the words of one item of a list bring within, the words of all its items do, as of a polygon's rings.
pub item_within : {A : Type 0} (f : A → List ℕ) (items : List A) (i : ℕ) (a : A) (x : ℕ) → slice_get items i ≡ Some a
    → BringsWithin (f a) x → BringsWithin (words_of_each f items) x
item_within f [] i a x at h = absurd cc
item_within f (b ∷ items) zero a x at h =
    before_others (f b) (words_of_each f items) x (let same : a ≡ b = cc in rw (← same) h)
item_within f (b ∷ items) (suc i) a x at h =
    after_others (f b) (words_of_each f items) x (item_within f items i a x at h)

-- The items from an index on are the one there and those behind it.
pub drop_at : {A : Type 0} (xs : List A) (i : ℕ) (x : A) → slice_get xs i ≡ Some x → drop i xs ≡ x ∷ drop (i + 1) xs
drop_at xs i x at = grind (arith, drop_more xs i x, slice_get_within, get_or_from_slice_get xs i x x)

word_on : (a : Axis) (d : Dimension) (c : Coordinate) (n w : ℕ) → axis_place a d ≡ Some n → slice_get c n ≡ Some w
    → word_at (axis_place a d) c ≡ w ∷ []
word_on a d c n w place at = grind (arith, drop_at)

-- Coordinates bring each number of them on the axis within.
pub ordinate_within : (a : Axis) (d : Dimension) (cs : List Coordinate) (i n x : ℕ) (c : Coordinate)
    → axis_place a d ≡ Some n → slice_get cs i ≡ Some c → slice_get c n ≡ Some x → is_nan x ≡ false
    → BringsWithin (words_in a d cs) x
ordinate_within a d cs i n x c place at word number =
    item_within (word_at (axis_place a d)) cs i c x at
    (rw (word_on a d c n x place word) (number_within (x ∷ []) 0 x refl number))

-- ---- a loop over coordinates

-- Before the first coordinate the range has no number.
pub widening_starts : (a : Axis) (d : Dimension) (r : Range) (cs : List Coordinate) → r ≡ no_numbers
    → WidenedBefore a d r cs 0
widening_starts a d r cs empty = grind arith

-- The word of the coordinate at an index widens it.
pub widens_next : (a : Axis) (d : Dimension) (r next : Range) (cs : List Coordinate) (i n w : ℕ) (c : Coordinate)
    → WidenedBefore a d r cs i → axis_place a d ≡ Some n → slice_get cs i ≡ Some c → slice_get c n ≡ Some w
    → next ≡ with_word r w → WidenedBefore a d next cs (i + 1)
widens_next a d r next cs i n w c so_far place at word is = grind (arith, drop_at, word_on)

-- Behind the last coordinate it is the range of all.
pub widening_ends : (a : Axis) (d : Dimension) (r : Range) (cs : List Coordinate) (i : ℕ) → WidenedBefore a d r cs i
    → length cs ≤ i → r ≡ range_of (words_in a d cs)
widening_ends a d r cs i so_far all = grind (arith, drop_all)

-- ---- the bounds of a value

-- A value has one set of bounds.
pub same_bounds : (b c : Bounds) (t : Value) → AreBounds b t → AreBounds c t → b ≡ c
same_bounds b c t h g = grind (arith, h x_axis, g x_axis, h y_axis, g y_axis, h z_axis, g z_axis, h m_axis, g m_axis)

-- ---- the order of numbers

one_more : (r : Range) (w : ℕ) → HasNumbers r → HasNumbers (with_word r w)
one_more r w h = grind arith

-- A range of numbers that is widened is one.
pub stay_numbers : (r : Range) (ws : List ℕ) → HasNumbers r → HasNumbers (widened r ws)
stay_numbers r [] h = h
stay_numbers r (w ∷ ws) h = stay_numbers (with_word r w) ws (one_more r w h)

-- The range of any words is one, of no word too: from infinity to minus infinity.
pub range_has_numbers : (ws : List ℕ) → HasNumbers (range_of ws)
range_has_numbers ws = stay_numbers no_numbers ws (record { least = refl; greatest = refl })

-- What is within a range of numbers is between its least and its greatest.
pub between : (r : Range) (w : ℕ) → IsWord r.least → IsWord r.greatest → IsWord w → HasNumbers r
    → is_nan w ≡ false → IsWithin r w → IsBetween r.least r.greatest w
between r w low high fits numbers number h = grind (arith, in_order)
