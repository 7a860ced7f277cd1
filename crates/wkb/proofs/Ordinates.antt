-- The number that a word stands for.
use Rattle.std.proofs.Common.{◌≡◌, ℕ, ◌<◌, ◌^◌, false, to_bits, from_bits}
use Rattle.std.specs.Float.{binary64}
use lib.Ieee.Bits.{to_bits-of_bits}
use Rattle.wkb.specs.Order.{is_number, not_nan}
use Rattle.wkb.specs.Prelude.{is_nan}

-- a word that is no NaN is the bits of its number
pub has_bits : (w : ℕ) → w < 2 ^ 64 → is_nan w ≡ false → to_bits binary64 (from_bits binary64 w) ≡ w
has_bits w fits h =
    to_bits-of_bits binary64 w fits (not_nan w h)

pub ruleset ordinate_laws = (is_number, not_nan, has_bits)
