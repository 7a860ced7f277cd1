-- The pieces between ends, one by one, and some of them; and the coordinates in some of the words.
use Rattle.std.proofs.Common.{◌≡◌, ℕ, zero, suc, ◌+◌, ◌-◌, ◌*◌, ◌/◌, ◌<◌, ◌≤◌, refl, sym, ap, ◌∙◌, arith, List, [], ◌∷◌}
use Rattle.std.proofs.Common.{length, take, drop, length-take, length-drop, Option, Some, slice_get, option_map}
use Rattle.std.proofs.Common.{option_and_then, slice_index, slice_range, None, inl, inr}
use Rattle.std.proofs.lemmas.Bool.{cases_eq}
use Rattle.std.proofs.Math.Nat.{mul-div-le, mul-div_cancel_left, mul-sub, mul-zero}
use Rattle.std.proofs.lemmas.List.{drop-drop, take-take, drop-take, get_or-drop, get_or-take}
use Rattle.wkb_geom.specs.declared.common.Dimensions.{Dimensions}
use Rattle.wkb_geom.specs.Dimensions.{size}
use Rattle.wkb_plain.specs.Runs.{runs, coordinates_in}
use Rattle.wkb_levels.specs.Cuts.{start_at, AreEnds, AreOnes, pieces_from, only, only_each}

pub length-range : {A : Type 0} (items : List A) (from to : ℕ) → to ≤ length items
    → length (slice_range items from to) ≡ to - from
length-range items from to within = grind (arith, length-take, length-drop)

pub length-pieces : {A : Type 0} (base : ℕ) (items : List A) (start : ℕ) (ends : List ℕ)
    → length (pieces_from base items start ends) ≡ length ends
length-pieces base items start [] = refl
length-pieces base items start (e ∷ ends) = omega (arith, length-pieces base items e ends)

-- where an item begins, seen from the end of the first
pub start_behind : (start e : ℕ) (ends : List ℕ) (i : ℕ) → start_at e ends i ≡ start_at start (e ∷ ends) (suc i)
start_behind start e ends i = grind arith

pub slice_get-pieces : {A : Type 0} (base : ℕ) (items : List A) (start : ℕ) (ends : List ℕ) (i : ℕ) → i < length ends
    → slice_get (pieces_from base items start ends) i
    ≡ Some (slice_range items (start_at start ends i - base) (slice_index ends i - base))
slice_get-pieces base items start [] i h = absurd (omega arith)
slice_get-pieces base items start (e ∷ ends) zero h = refl
slice_get-pieces base items start (e ∷ ends) (suc i) h =
    grind (arith, start_behind, slice_get-pieces base items e ends i (omega arith))

drop-pieces : {A : Type 0} (base : ℕ) (items : List A) (start : ℕ) (ends : List ℕ) (k : ℕ) → k ≤ length ends
    → drop k (pieces_from base items start ends) ≡ pieces_from base items (start_at start ends k) (drop k ends)
drop-pieces base items start ends zero h = refl
drop-pieces base items start [] (suc k) h = absurd (omega arith)
drop-pieces base items start (e ∷ ends) (suc k) h = grind (arith, drop-pieces base items e ends k (omega arith))

take-pieces : {A : Type 0} (base : ℕ) (items : List A) (start : ℕ) (ends : List ℕ) (k : ℕ)
    → take k (pieces_from base items start ends) ≡ pieces_from base items start (take k ends)
take-pieces base items start ends zero = refl
take-pieces base items start [] (suc k) = refl
take-pieces base items start (e ∷ ends) (suc k) = grind (arith, take-pieces base items e ends k)

-- some of the pieces are the pieces between some of the ends
pub slice_range-pieces : {A : Type 0} (base : ℕ) (items : List A) (start : ℕ) (ends : List ℕ) (from to : ℕ)
    → from ≤ length ends
    → pieces_from base items (start_at start ends from) (slice_range ends from to)
    ≡ slice_range (pieces_from base items start ends) from to
slice_range-pieces base items start ends from to h = grind (arith, drop-pieces, take-pieces)

-- ---- ends

pub start_within : (limit start : ℕ) (ends : List ℕ) (i : ℕ) → AreEnds limit start ends → i ≤ length ends
    → start_at start ends i ≤ limit
start_within limit start ends i are h = grind arith

pub start_from : (limit start : ℕ) (ends : List ℕ) (i : ℕ) → AreEnds limit start ends → i ≤ length ends
    → start ≤ start_at start ends i
start_from limit start ends zero are h = omega arith
start_from limit start ends (suc i) are h = grind (arith, start_from limit start ends i are (omega arith))

part_index : (ends : List ℕ) (from k i : ℕ) → i < k
    → slice_index (take k (drop from ends)) i ≡ slice_index ends (from + i)
part_index ends from k i h = get_or-take k (drop from ends) i 0 h ∙ get_or-drop from ends i 0

pub part_start : (start : ℕ) (ends : List ℕ) (from k b i : ℕ) → b ≡ start_at start ends from → i ≤ k
    → start_at b (take k (drop from ends)) i ≡ start_at start ends (from + i)
part_start start ends from k b i at h = grind (arith, part_index)

-- the last of some of the ends
pub last_of_part : (start : ℕ) (ends : List ℕ) (from to : ℕ) → from ≤ to → to ≤ length ends
    → start_at (start_at start ends from) (slice_range ends from to) (length (slice_range ends from to))
    ≡ start_at start ends to
last_of_part start ends from to order within =
    let there : from + (to - from) ≡ to = omega (arith, order) in
    let first = part_start start ends from (to - from) _ (to - from) refl (omega arith) in
    rw (length-range ends from to within, first, there) refl

-- some of the ends are in order too
pub part_fits : (limit start : ℕ) (ends : List ℕ) (from to b : ℕ) → AreEnds limit start ends → from ≤ to
    → to ≤ length ends → b ≡ start_at start ends from → AreEnds limit b (take (to - from) (drop from ends))
part_fits limit start ends from to b are order within at =
    grind (arith, length-take, length-drop, part_start, part_index, start_within)

-- ---- items of one item each

one_more : {A : Type 0} (items : List A) (start : ℕ) → start < length items
    → (x : A) × (drop start items ≡ x ∷ drop (suc start) items)
one_more [] start h = absurd (omega arith)
one_more (x ∷ items) zero h = (x, refl)
one_more (x ∷ items) (suc start) h = one_more items start (omega arith)

pub ones_at : (start : ℕ) (ends : List ℕ) (i : ℕ) → AreOnes start ends → i ≤ length ends
    → start_at start ends i ≡ start + i
ones_at start ends zero ones h = omega arith
ones_at start ends (suc i) ones h = grind (arith, ones_at start ends i ones (omega arith))

pub ones_only : {A : Type 0} (base : ℕ) (items : List A) (start : ℕ) (ends : List ℕ) → base ≤ start → AreOnes start ends
    → start - base + length ends ≤ length items
    → only_each (pieces_from base items start ends) ≡ Some (take (length ends) (drop (start - base) items))
ones_only base items start [] low ones h = refl
ones_only base items start (e ∷ ends) low ones h =
    let next : e ≡ start + 1 = ones 0 (omega arith) in
    let k = start - base in
    let rest = ones_only base items e ends (omega (arith, low, next)) (λ i lt. ones (suc i) (omega (arith, lt)) ∙ ap (λ
    b. b + 1) (sym (start_behind start e ends i))) (omega (arith, next, low, h)) in
    let wide : e - base - k ≡ 1 = omega (arith, next, low) in
    let up : e - base ≡ suc k = omega (arith, next, low) in
    rw (rest, wide, up, (one_more items k (omega arith)).1) refl

pub not_only : {A : Type 0} (items : List A) → (length items ≡ 1 → ⊥) → only items ≡ None
not_only items differ = grind arith

no_rest : {A B C : Type 0} (f : A → B → C) (o : Option A) → option_and_then (λ a. option_map (f a) None) o ≡ None
no_rest f o = grind arith

pub rest_fit : (limit start e : ℕ) (ends : List ℕ) → AreEnds limit start (e ∷ ends) → AreEnds limit e ends
rest_fit limit start e ends are = (
  (are.1 0 (omega arith)).1,
  λ i h. let a = are.1 (suc i) (omega (arith, h)) in (rw (start_behind start e ends i) a.0, a.1),
)

-- where not each end is one more, not each has one item
pub not_ones : {A : Type 0} (base : ℕ) (items : List A) (limit start : ℕ) (ends : List ℕ) → base ≤ start
    → limit - base ≤ length items → AreEnds limit start ends → (AreOnes start ends → ⊥)
    → only_each (pieces_from base items start ends) ≡ None
not_ones base items limit start [] low whole are differ = absurd (differ (λ i h. absurd (omega (arith, h))))
not_ones base items limit start (e ∷ ends) low whole are differ =
    let first = slice_range items (start - base) (e - base) in
    let here = are.1 0 (omega arith) in
    elim (cases_eq e (start + 1)) [
      | inl one ↦
          let none = not_ones base items limit e ends (omega (arith, low, one)) whole (rest_fit limit start e ends are)
          (λ ones. differ (λ i h. each_one i h one ones)) in
          rw none (no_rest (λ a more. a ∷ more) (only first))
      | inr other ↦ grind (arith, not_only first, length-take, length-drop)
    ] where
      each_one : (i : ℕ) → i < length (e ∷ ends) → e ≡ start + 1 → AreOnes e ends
          → slice_index (e ∷ ends) i ≡ start_at start (e ∷ ends) i + 1
      each_one zero h one ones = one
      each_one (suc i) h one ones = ones i (omega (arith, h)) ∙ ap (λ k. k + 1) (start_behind start e ends i)

-- ---- coordinates

drop-runs : (width count k : ℕ) (words : List ℕ) → k ≤ count
    → drop k (runs width count words) ≡ runs width (count - k) (drop (width * k) words)
drop-runs width count zero words h = grind (arith, mul-zero)
drop-runs width zero (suc k) words h = absurd (omega arith)
drop-runs width (suc count) (suc k) words h =
    grind (arith, drop-drop, drop-runs width count k (drop width words) (omega arith))

take-runs : (width count k : ℕ) (words : List ℕ) → k ≤ count
    → take k (runs width count words) ≡ runs width k (take (width * k) words)
take-runs width count zero words h = refl
take-runs width zero (suc k) words h = absurd (omega arith)
take-runs width (suc count) (suc k) words h =
    ap (λ rest. take width words ∷ rest) (take-runs width count k (drop width words) (omega arith) ∙ ap (runs width k)
    (sym (drop-take width (width * k) words))) ∙ ap (λ first. first ∷ runs width k
    (drop width (take (width + width * k) words))) (sym (take-take width (width + width * k) words (omega arith))) ∙ ap
    (λ n. take width (take n words) ∷ runs width k (drop width (take n words))) (omega arith)

-- some of the coordinates are those in some of the words
pub coordinates_between : (d : Dimensions) (words : List ℕ) (from to : ℕ) → 0 < size d → from ≤ to
    → to ≤ length words / size d
    → coordinates_in d (slice_range words (size d * from) (size d * to)) ≡ slice_range (coordinates_in d words) from to
coordinates_between d words from to some order within =
    grind (arith, mul-div_cancel_left, length-drop, length-take, mul-div-le, mul-sub, drop-runs, take-runs)

pub ruleset piece_laws = (length-pieces, slice_get-pieces, slice_range-pieces)
