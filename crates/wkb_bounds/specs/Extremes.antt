-- What some words say of their range.
use Rattle.std.specs.Prelude.{◌≡◌, ℕ, ◌+◌, ◌-◌, ◌^◌, ◌<◌, ◌≤◌, List, nat_lt, max, min, if◌then◌else◌}
use Rattle.wkb_bounds.specs.declared.{range.Range.Range, extremes.Extremes.Extremes}
use Rattle.wkb_bounds.specs.Ranges.{with_word, widened}

-- the word with its sign turned
abbrev pub turned : ℕ → ℕ
turned w = if nat_lt w (2 ^ 63) then w + 2 ^ 63 else w - 2 ^ 63

-- the least number of those with this lowest and this highest word
abbrev pub least_by : ℕ → ℕ → ℕ
least_by lowest highest = if nat_lt highest (2 ^ 63) then min lowest 0x7ff0000000000000 else highest

-- the greatest number of those with this lowest word, and this highest one if those with a sign are below others
abbrev pub greatest_by : ℕ → ℕ → ℕ
greatest_by lowest highest = if nat_lt highest (2 ^ 63) then highest else max lowest (2 ^ 63)

-- the range of the words, of whose count n are to come
abbrev pub range_by : ℕ → Extremes → Range
range_by n k = record {
  least = least_by k.lowest k.highest;
  greatest = greatest_by k.lowest k.highest_turned;
  count = k.count - n;
}

-- so many words are counted that are to come
pub record CountsAhead (old new : Extremes) (words : ℕ) : Type 0 where
  pub range : range_by words new ≡ range_by 0 old
  pub count : words ≤ new.count

-- a word that was counted widens the range
pub record CountsWord (old new : Extremes) (w : ℕ) : Type 0 where
  pub range : (n : ℕ) → n < old.count → range_by n new ≡ with_word (range_by (n + 1) old) w
  pub count : (n : ℕ) → n < old.count → n ≤ new.count

-- the range is widened by some words
abbrev pub WidensRange : Extremes → Extremes → List ℕ → Type 0
WidensRange old new words = range_by 0 new ≡ widened (range_by 0 old) words
