-- The range of some words.
use Rattle.std.specs.Prelude.{ℕ, ◌+◌, List, [], ◌∷◌, nat_lt, if◌then◌else◌}
use Rattle.wkb_geom.specs.Numbers.{is_nan}
use Rattle.wkb_geom.specs.Ranks.{rank}
use Rattle.wkb_bounds.specs.declared.range.Range.{Range}

-- the lower and the higher of two numbers
abbrev pub lower : ℕ → ℕ → ℕ
lower v w = if nat_lt (rank w) (rank v) then w else v

abbrev pub higher : ℕ → ℕ → ℕ
higher v w = if nat_lt (rank v) (rank w) then w else v

-- the range of no number: from infinity to minus infinity
abbrev pub no_numbers : Range
no_numbers = record { least = 0x7ff0000000000000; greatest = 0xfff0000000000000; count = 0 }

-- a range widened by a number
abbrev pub with_number : Range → ℕ → Range
with_number r w = record { least = lower r.least w; greatest = higher r.greatest w; count = r.count + 1 }

-- a range widened by a word, which counts if it is a number
abbrev pub with_word : Range → ℕ → Range
with_word r w = if is_nan w then r else with_number r w

-- a range widened by some words
abbrev pub widened : Range → List ℕ → Range
widened r [] = r
widened r (w ∷ ws) = widened (with_word r w) ws

-- the range of some words
abbrev pub range_of : List ℕ → Range
range_of ws = widened no_numbers ws
