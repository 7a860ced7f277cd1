-- Doubles are in the order of the ranks of their words.
use Rattle.std.proofs.Common.{◌≡◌, ℕ, zero, suc, ◌+◌, ◌-◌, ◌*◌, ◌/◌, ◌%◌, ◌^◌, ◌≤◌, ◌<◌, Bool, true, false, inl, inr}
use Rattle.std.proofs.Common.{refl, ◌∙◌, subst, arith, ltb-false, bit_and, from_bits, not}
use Rattle.std.proofs.lemmas.Float.{le_of_not-lt, not_nan_f64_bits}
use Rattle.std.proofs.lemmas.Nat.{and_mask}
use Rattle.std.specs.Float.{NotNan}
use Rattle.std.specs.Float.Ieee.{nan_bits}
use borrow.Author.Tests.{le-ltb, le-leb, lt-leb, ne_eqb}
use lib.Dec.{T, leb}
use lib.Ieee.{Float, nan, inf, fin, binary64, lt, below, of_bits, of_fields, up, down}
use lib.Ieee.Bits.{nan_bits_is}
use lib.Ieee.Exact.{HasValue, odd_sign}
use lib.Ieee.Order.{transfer}
use lib.Pow.{pow-add, pow_mono, pow_pos}
use native.Mathlib.Nat.{eq-zero-or-pos, mul-le-mul, mul-le-mul_right}
use Rattle.wkb_geom.specs.Numbers.{IsWord, is_nan}
use Rattle.wkb_geom.specs.Ranks.{rank}
use Rattle.wkb_laws.specs.Laws.{RanksInOrder}

-- how many times 2 ^ -1074 the double of an exponent's field below infinity's is, and of the digits behind it
abbrev units : ℕ → ℕ → ℕ
units zero t = t * 2 ^ 0
units (suc j) t = (2 ^ 52 + t) * 2 ^ j

value_of : (s : Bool) (x t : ℕ) → x < 2047 → HasValue (of_fields binary64 s x t) s (units x t) (2 ^ 1074)
unfolding of_fields
value_of s zero t h = odd_sign 53 s t 0 1074
value_of s (suc j) t h = rw (ne_eqb (suc j) 2047 (omega arith)) (odd_sign 53 s (2 ^ 52 + t) j 1074)

-- these grow with the pattern
grow : (x t y u : ℕ) → t < 2 ^ 52 → u < 2 ^ 52 → x * 2 ^ 52 + t ≤ y * 2 ^ 52 + u → units x t ≤ units y u
grow zero t zero u T U h = omega arith
grow zero t (suc k) u T U h =
    let most : t ≤ 2 ^ 52 + u = omega arith in omega (arith, mul-le-mul most (pow_pos k))
grow (suc j) t zero u T U h = absurd (omega arith)
grow (suc j) t (suc k) u T U h =
    elim (eq-zero-or-pos (k - j)) [
      | inl z ↦
          let same : j ≡ k = omega arith in
          subst (λ i. (2 ^ 52 + t) * 2 ^ j ≤ (2 ^ 52 + u) * 2 ^ i) same (mul-le-mul_right (2 ^ j) (omega arith))
      | inr more ↦
          let next : 2 ^ (j + 1) ≤ 2 ^ k = pow_mono (omega arith) in
          omega (arith, next, mul-le-mul_right (2 ^ 52 + u) next, mul-le-mul_right (2 ^ j) T, pow-add 2 j 1)
    ]

-- the size of a word's pattern, and what its double is: an infinity, or so many units
abbrev size : ℕ → ℕ
size w = w % 2 ^ 63

abbrev units_of : ℕ → ℕ
units_of w = units (size w / 2 ^ 52) (w % 2 ^ 52)

finite : (w : ℕ) → size w < 2047 * 2 ^ 52 → HasValue (of_bits binary64 w) (leb (2 ^ 63) w) (units_of w) (2 ^ 1074)
unfolding of_bits
finite w h = value_of (leb (2 ^ 63) w) (size w / 2 ^ 52) (w % 2 ^ 52) (omega arith)

infinite : (w : ℕ) → size w ≡ 2047 * 2 ^ 52 → of_bits binary64 w ≡ inf (leb (2 ^ 63) w)
unfolding of_bits of_fields
infinite w h = grind arith

-- of two words of these signs the second is no lower, by what these numbers are the sizes of
abbrev Ordered : Bool → ℕ → Bool → ℕ → Type 0
Ordered false a false b = a ≤ b
Ordered false a true b = ⊥
Ordered true a false b = Unit {0}
Ordered true a true b = b ≤ a

not_below : (s t : Bool) (x y : Float) (a b c : ℕ) → 0 < c → HasValue x s a c → HasValue y t b c → Ordered s a t b
    → lt y x ≡ false
unfolding lt
not_below s t nan y a b c C p q h = absurd p
not_below s t (inf r) y a b c C p q h = absurd p
not_below s t (fin r m e) nan a b c C p q h = absurd q
not_below s t (fin r m e) (inf u) a b c C p q h = absurd q
not_below s t (fin r m e) (fin u n d) a b c C p q h =
    (λ i. below (q.0 i) (n * up d * down e) (p.0 i) (m * up e * down d)) ∙ by s t h
  where
    by : (s t : Bool) → Ordered s a t b → below t (n * up d * down e) s (m * up e * down d) ≡ false
    by false false h =
        le-ltb _ _ (transfer (m * up e) (n * up d) (down e) (down d) a b c c C C p.1 q.1 (mul-le-mul_right c h))
    by true false h = refl
    by true true h =
        le-ltb _ _ (transfer (n * up d) (m * up e) (down d) (down e) b a c c C C q.1 p.1 (mul-le-mul_right c h))
    by false true h = absurd h

finite_order : (v w : ℕ) → size v < 2047 * 2 ^ 52 → size w < 2047 * 2 ^ 52
    → Ordered (leb (2 ^ 63) v) (units_of v) (leb (2 ^ 63) w) (units_of w)
    → lt (of_bits binary64 w) (of_bits binary64 v) ≡ false
finite_order v w V W h = not_below _ _ _ _ _ _ (2 ^ 1074) (pow_pos 1074) (finite v V) (finite w W) h

top_below_none : (x : Float) → lt (inf false) x ≡ false
unfolding lt
top_below_none x = grind arith

bottom_above_none : (x : Float) → lt x (inf true) ≡ false
unfolding lt
bottom_above_none x = grind arith

at_most : (w : ℕ) → is_nan w ≡ false → size w ≤ 2047 * 2 ^ 52
at_most w number =
    subst (λ n. n ≤ 2047 * 2 ^ 52) (and_mask w 63) (ltb-false (2047 * 2 ^ 52) (bit_and w 0x7fffffffffffffff) number)

-- A word that is no NaN has no bits of one.
pub is_number : (w : ℕ) → is_nan w ≡ false → T (not (nan_bits binary64 w))
is_number w number = not_nan_f64_bits w (at_most w number)

-- So its number is none either.
pub not_nan : (w : ℕ) → is_nan w ≡ false → NotNan (from_bits binary64 w)
not_nan w number = subst (λ b. T (not b)) (nan_bits_is binary64 w) (is_number w number)

order : (v w : ℕ) → IsWord v → IsWord w → is_nan v ≡ false → is_nan w ≡ false → rank v ≤ rank w
    → lt (of_bits binary64 w) (of_bits binary64 v) ≡ false
order v w V W number another h =
    grind (arith, le-leb, lt-leb, finite_order, infinite, top_below_none, bottom_above_none, grow, at_most)

-- Of two numbers the one whose rank is no higher is no greater.
pub in_order : RanksInOrder
in_order v w V W number another h = grind (arith, le_of_not-lt, not_nan, order)
