-- Ranges that are widened word by word, and bounds coordinate by coordinate.
use Rattle.std.proofs.Common.{◌≡◌, ◌≢◌, ℕ, zero, suc, ◌+◌, ◌*◌, ◌/◌, ◌<◌, ◌≤◌, List, [], ◌∷◌, ◌++◌, length, take, drop}
use Rattle.std.proofs.Common.{Option, Some, None, IfSome, refl, sym, ap, ◌∙◌, arith, drop-drop, length-append}
use Rattle.wkb_laws.specs.Prelude.{Dimension, Endianness, width, length-items, number, items, coordinates, Coordinate}
use Rattle.wkb_bounds.specs.declared.{range.Range.Range, range.Bounds.Bounds, extremes.Extremes.Extremes, run.Run.Run}
use Rattle.wkb_bounds.specs.Ranges.{with_word, widened}
use Rattle.wkb_bounds.specs.Extremes.{range_by, CountsAhead, CountsWord, WidensRange}
use Rattle.wkb_bounds.specs.Ordinates.{Axis, axis_place, word_at, words_of_each, words_at, words_in, place_words}
use Rattle.wkb_bounds.specs.Bounded.{on, Widens}
use Rattle.wkb_bounds.specs.Runs.{run_coordinates, rows, first_word, IsRun, IsBehindFirst}

-- ---- words

pub widened-append : (r : Range) (xs ys : List ℕ) → widened r (xs ++ ys) ≡ widened (widened r xs) ys
widened-append r [] ys = refl
widened-append r (x ∷ xs) ys = widened-append (with_word r x) xs ys

word_counts : (r : Range) (w : ℕ) → (with_word r w).count ≤ r.count + 1
word_counts r w = grind arith

widened_count : (r : Range) (ws : List ℕ) → (widened r ws).count ≤ r.count + length ws
widened_count r [] = omega arith
widened_count r (w ∷ ws) = omega (arith, widened_count (with_word r w) ws, word_counts r w)

-- ---- coordinates

item_there : {A : Type 0} (f : List ℕ → A) (w k : ℕ) (bytes : List ℕ) → k < w
    → take 1 (drop k (items 8 f w bytes)) ≡ f (drop (8 * k) bytes) ∷ []
item_there f zero k bytes lt = absurd (omega arith)
item_there f (suc w) zero bytes lt = refl
item_there f (suc w) (suc k) bytes lt =
    let start : 8 * suc k ≡ 8 + 8 * k = omega arith in
    rw (start, ← drop-drop (8 * k) 8 bytes) (item_there f w k (drop 8 bytes) (omega arith))

first_words : (r : Run) (k n : ℕ) → r.count ≡ suc n → k < r.size / 8
    → words_at (Some k) (run_coordinates r)
    ≡ first_word k r ∷ words_at (Some k) (rows r.order r.size n (drop r.size r.bytes.now))
first_words r k n count there = grind (arith, item_there)

-- the word of one coordinate
pub one_word_at : (order : Endianness) (d : Dimension) (k : ℕ) (bytes : List ℕ) → k < width d
    → number order 8 (drop (8 * k) bytes) ∷ [] ≡ place_words (Some k) order d 1 bytes
one_word_at order d k bytes there = grind (arith, item_there)

-- what widens this range by the words of what is left of a run widens the first one by those of all of it
pub record RunLeft (k : ℕ) (now : Extremes) (left : Run) (first : Extremes) (run : Run) : Type 0 where
  pub there : k < left.size / 8
  pub counted : left.count ≤ now.count
  pub goes : (r : Range) → r ≡ widened (range_by left.count now) (words_at (Some k) (run_coordinates left))
      → r ≡ widened (range_by 0 first) (words_at (Some k) (run_coordinates run))

pub run_first : (k : ℕ) {first now : Extremes} {run : Run} → k < run.size / 8 → CountsAhead first now run.count
    → RunLeft k now run first run
run_first k {run = run} there ahead = record {
  there = there;
  counted = ahead.count;
  goes = λ r is. is ∙ ap (λ q. widened q (words_at (Some k) (run_coordinates run))) ahead.range;
}

pub run_next : {k : ℕ} {now first : Extremes} {left run : Run} → RunLeft k now left first run
    → {w : ℕ} {new : Extremes} {rest : Run} → w ≡ first_word k left → CountsWord now new w
    → IsBehindFirst left rest
    → RunLeft k new rest first run
run_next {k} {now} {left = left} l {w} {new} {rest} w-is counts behind =
    let words : (w ∷ words_at (Some k) (run_coordinates rest)) ≡ words_at (Some k) (run_coordinates left) =
    (λ i. w-is i
    ∷ words_at (Some k) (rows (behind.order_is i) (behind.size_is i) rest.count (behind.bytes_are i)))
    ∙ sym (first_words left k rest.count (omega arith) l.there) in
    let more : rest.count < now.count = omega (arith, l.counted) in grind arith

pub run_done : {k : ℕ} {now first : Extremes} {left run : Run} → RunLeft k now left first run → left.count ≡ 0
    → WidensRange first now (words_at (Some k) (run_coordinates run))
run_done {k} {now} {left = left} l none =
    l.goes (range_by 0 now)
    (λ i. widened (range_by (sym none i) now) (words_at (Some k) (rows left.order left.size (sym none i) left.bytes.now)))

-- the last word of a run widens no range more
pub run_last : {k : ℕ} {now first : Extremes} {left run : Run} → RunLeft k now left first run → left.count ≡ 1
    → {w : ℕ} {new : Extremes} → w ≡ first_word k left → CountsWord now new w
    → WidensRange first new (words_at (Some k) (run_coordinates run))
run_last {k} {now} {left = left} l one {w} {new} w-is counts =
    let words : (w ∷ []) ≡ words_at (Some k) (run_coordinates left) =
    (λ i. w-is i ∷ []) ∙ sym (first_words left k 0 one l.there) in grind arith

pub ruleset run_laws = (run_first, run_done)

no_column : (cs : List Coordinate) → words_of_each (word_at None) cs ≡ []
no_column [] = refl
no_column (c ∷ cs) = no_column cs

pub no_ordinates : (p : Option ℕ) (r : Range) (cs : List Coordinate) → ((k : ℕ) → p ≢ Some k)
    → r ≡ widened r (words_of_each (word_at p) cs)
no_ordinates None r cs none = ap (widened r) (sym (no_column cs))
no_ordinates (Some k) r cs none = absurd (none k refl)

pub place_there : (p : Option ℕ) (width : ℕ) {size : ℕ} → size ≡ 8 * width → IfSome p (λ k. k < width)
    → IfSome p (λ k. k < size / 8)
place_there p width is there = grind arith

one_word : (p : Option ℕ) (c : Coordinate) → length (word_at p c) ≤ 1
one_word p c = grind arith

words_few : (p : Option ℕ) (cs : List Coordinate) → length (words_of_each (word_at p) cs) ≤ length cs
words_few p [] = omega arith
words_few p (c ∷ cs) = grind (arith, length-append, one_word, words_few p cs)

pub run_widens : {order : Endianness} (d : Dimension) {size n : ℕ} {bytes : List ℕ} {r : Run} (old new : Bounds)
    → IsRun order size n bytes r → size ≡ 8 * width d → Widens old new (λ a. words_in a d (run_coordinates r))
    → Widens old new (λ a. words_in a d (coordinates order d n bytes))
run_widens {order} d {size} {n} {bytes} old new is sized widens a = grind arith

-- n coordinates add at most n to a count
pub counts_more : (order : Endianness) (d : Dimension) (n : ℕ) (bytes : List ℕ) (old new : Bounds) (a : Axis)
    → Widens old new (λ a. words_in a d (coordinates order d n bytes))
    → (on a new).count ≤ (on a old).count + n
counts_more order d n bytes old new a widens =
    let cs = coordinates order d n bytes in
    omega (
      arith,
      ap (λ (r : Range). r.count) (widens a),
      widened_count (on a old) (words_in a d cs),
      words_few (axis_place a d) cs,
      length-items (8 * width d) (items 8 (number order 8) (width d)) n bytes,
    )
