-- Lemmas: which numbers a collection brings within a range, and how the coordinates of a view widen one.
use Rattle.std.proofs.Common.{◌≡◌, ℕ, ◌+◌, List, ◌++◌, Some, refl, ap, slice_get, slice_index}
use Rattle.wkb.specs.Prelude.{Dimension}
use Rattle.wkb.specs.Values.{Coordinate, Value, Values, no_members, member}
use Rattle.wkb.specs.Checks.{Range, with_word, Axis, words_on, words_of_each, words_on_each, x_axis, y_axis}
use Rattle.wkb.specs.Lawful.{x_is_there, y_is_there}
use Rattle.wkb.specs.Ranges.{BringsWithin, WidenedBefore, item_within, widening_starts, widens_next, widening_ends}
use Rattle.wkb.specs.Reads.{list_of_values, Coord, words_seen}

words_of_members : (a : Axis) (ts : Values) → words_on_each a ts ≡ words_of_each (words_on a) (list_of_values ts)
words_of_members a no_members = refl
words_of_members a (member t ts) = ap (λ ws. words_on a t ++ ws) (words_of_members a ts)

-- A collection brings within what one of its members does.
pub member_within : (a : Axis) (ts : Values) (k : ℕ) (t : Value) (x : ℕ) → slice_get (list_of_values ts) k ≡ Some t
    → BringsWithin (words_on a t) x → BringsWithin (words_on_each a ts) x
member_within a ts k t x at h =
    rw (words_of_members a ts) (item_within (words_on a) (list_of_values ts) k t x at h)

-- The x of a coordinate that was read widens the range on the axis of x; and its y that on the axis of y.
pub widens_x : (d : Dimension) (r next : Range) (cs : List Coordinate) (i w : ℕ) (c : Coord)
    → WidenedBefore x_axis d r cs i → slice_get cs i ≡ Some (words_seen c) → w ≡ slice_index (words_seen c) 0
    → next ≡ with_word r w → WidenedBefore x_axis d next cs (i + 1)
widens_x d r next cs i w c so_far at word =
    widens_next x_axis d r next cs i 0 w (words_seen c) so_far refl at (x_is_there c w word)

pub widens_y : (d : Dimension) (r next : Range) (cs : List Coordinate) (i w : ℕ) (c : Coord)
    → WidenedBefore y_axis d r cs i → slice_get cs i ≡ Some (words_seen c) → w ≡ slice_index (words_seen c) 1
    → next ≡ with_word r w → WidenedBefore y_axis d next cs (i + 1)
widens_y d r next cs i w c so_far at word =
    widens_next y_axis d r next cs i 1 w (words_seen c) so_far refl at (y_is_there c w word)

pub ruleset widening_laws = (widening_starts, widens_x, widens_y, widening_ends)
