-- The order of numbers on their words (IEEE 754, section 5.10). A number is at most another as a double wherever its
-- rank is at most the other's (the lemma `ranks_in_order`). Minus zero is below zero, which as doubles are equal.
use Rattle.std.specs.Prelude.{ℕ, ◌+◌, ◌-◌, ◌^◌, nat_lt, if◌then◌else◌}

-- The rank of a word in the order of numbers: negative numbers come first, those of greater size before others, so that
-- minus zero is below zero.
abbrev pub rank : ℕ → ℕ
rank w = if nat_lt w (2 ^ 63) then w + 2 ^ 63 else 2 ^ 64 - 1 - w

-- the bits that a word and its rank differ in
abbrev pub mask_of : ℕ → ℕ
mask_of w = if nat_lt w (2 ^ 63) then 2 ^ 63 else 2 ^ 64 - 1
