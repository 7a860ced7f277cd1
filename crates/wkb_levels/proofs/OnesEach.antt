-- Ends of items that are one each: the numbers from one to another.
use Rattle.std.proofs.Common.{◌≡◌, ℕ, zero, suc, ◌+◌, ◌-◌, ◌<◌, ◌≤◌, refl, ap, arith}
use Rattle.std.proofs.Common.{◌⊎◌, ◌∷◌, length, take, drop, slice_index, slice_range}
use Rattle.std.specs.List.{range_with_len}
use Rattle.std.proofs.lemmas.List.FromFn.{length-range_with_len, get_or-range_with_len}
use Rattle.wkb_levels.specs.declared.ends.Ends.{Ends}
use Rattle.wkb_levels.specs.declared.ends.Ends.TheVariants as variants
use Rattle.wkb_levels.specs.EndLists.{ends_of}
use Rattle.wkb_levels.specs.Cuts.{start_at, AreEnds, AreOnes}

pub each-length : (n k : ℕ) → length (range_with_len (suc n) k) ≡ k
each-length n k = length-range_with_len (suc n) k

pub each-end : (n k i : ℕ) → i < k → slice_index (range_with_len (suc n) k) i ≡ n + i + 1
each-end n k i h = omega (arith, get_or-range_with_len (suc n) k i 0 h)

pub each-begin : (n k i : ℕ) → i ≤ k → start_at n (range_with_len (suc n) k) i ≡ n + i
each-begin n k i h = grind (arith, each-end)

drop-each : (n k from : ℕ) → from ≤ k
    → drop from (range_with_len (suc n) k) ≡ range_with_len (suc (n + from)) (k - from)
drop-each n k zero h = grind arith
drop-each n zero (suc from) h = absurd (omega arith)
drop-each n (suc k) (suc from) h = grind (arith, drop-each (suc n) k from (omega arith))

take-each : (n k to : ℕ) → to ≤ k → take to (range_with_len n k) ≡ range_with_len n to
take-each n k zero h = refl
take-each n zero (suc to) h = absurd (omega arith)
take-each n (suc k) (suc to) h = ap (λ l. n ∷ l) (take-each (n + 1) k to (omega arith))

pub each-part : (n k from to : ℕ) → from ≤ to → to ≤ k
    → range_with_len (suc (n + from)) (n + to - (n + from)) ≡ slice_range (range_with_len (suc n) k) from to
each-part n k from to order within = grind (arith, drop-each, take-each)

pub each-ones : (n k : ℕ) → AreOnes n (range_with_len (suc n) k)
each-ones n k i h = grind (arith, each-length, each-end, each-begin)

pub each-within : (limit from to : ℕ) → from ≤ limit → to ≤ limit
    → AreEnds limit from (range_with_len (suc from) (to - from))
each-within limit from to a b = grind (arith, each-length, each-end, each-begin)

-- items of one each end within the numbers
pub each-number : (e : Ends) (from to i : ℕ) → e ≡ variants.Each from to → i ≤ length (ends_of e)
    → (i ≡ 0) ⊎ (from + i ≤ to)
each-number e from to is_each is h = grind (arith, each-length)

pub each-inside : (e : Ends) (from to i : ℕ) → e ≡ variants.Each from to → i < length (ends_of e) → from + i < to
each-inside e from to i is h = grind (arith, each-length)

pub ruleset each_laws = (each-length, each-end, each-begin, each-part, each-ones, each-within, each-number, each-inside)
