-- Words and the least and the greatest of their numbers.
use Rattle.std.proofs.Common.{◌≡◌, ℕ, ◌<◌, ◌≤◌, ◌^◌, sym, ap, ◌∙◌, arith, false, nat_lt, min, max, if◌then◌else◌, ◌%◌}
use Rattle.std.proofs.lemmas.Nat.{and_mask}
use Rattle.std.proofs.lemmas.Bool.Decides.{nat_tests}
use Rattle.std.proofs.lemmas.Bool.{cond-false, ltb-false}
use Rattle.wkb_geom.specs.Numbers.{is_nan}
use Rattle.wkb_bounds.specs.declared.range.Range.{Range}
use Rattle.wkb_bounds.specs.Extremes.{turned, least_by, greatest_by}
use Rattle.wkb_bounds.specs.Ranges.{no_numbers, lower, higher, with_word}

-- a number is the least and the greatest of itself
number_below : (w : ℕ) → is_nan w ≡ false → w % 2 ^ 63 ≤ 0x7ff0000000000000
number_below w number =
    ltb-false 0x7ff0000000000000 (w % 2 ^ 63) (ap (nat_lt 0x7ff0000000000000) (sym (and_mask w 63)) ∙ number)

higher_alone : (w : ℕ) → w < 2 ^ 64 → w % 2 ^ 63 ≤ 0x7ff0000000000000 → w ≡ higher 0xfff0000000000000 w
higher_alone w fits below = grind (arith, nat_tests)

pub one_number : (w : ℕ) → w < 2 ^ 64 → is_nan w ≡ false
    → ◌≡◌ {A = Range} (record { least = w; greatest = w; count = 1 }) (with_word no_numbers w)
one_number w fits number = grind (arith, number_below, higher_alone, cond-false)

-- what a word makes of the least and of the greatest number
pub least_widens : (l h w : ℕ) → l < 2 ^ 64 → h < 2 ^ 64 → w < 2 ^ 64
    → least_by (min l w) (max h w) ≡ lower (least_by l h) w
least_widens l h w low high fits = grind (arith, nat_tests)

pub greatest_widens : (l h w : ℕ) → l < 2 ^ 64 → h < 2 ^ 64 → w < 2 ^ 64
    → greatest_by (min l w) (if nat_lt (turned h) (turned w) then w else h) ≡ higher (greatest_by l h) w
greatest_widens l h w low high fits = grind (arith, nat_tests)

pub ruleset extremes = (least_widens, greatest_widens)
