-- A ring's words are inside the words, and are the coordinates of the piece.
use Rattle.std.proofs.Common.{◌≡◌, ℕ, ◌+◌, ◌-◌, ◌*◌, ◌/◌, ◌%◌, ◌<◌, ◌≤◌, sym, ap, ◌∙◌, arith, ◌↔◌, length, take, drop}
use Rattle.std.proofs.Common.{Option, Some, None, IfSome, IsSome, option_map, slice_get, slice_index, slice_range}
use Rattle.std.proofs.Math.Nat.{mul-le-mul_left, mul-div-le, mul-sub, mul-mod_right, mul-add}
use Rattle.std.proofs.lemmas.Bool.{false≢true}
use Rattle.std.proofs.lemmas.Option.{slice_get_past}
use Rattle.wkb_geom.specs.Dimensions.{size}
use Rattle.wkb_plain.specs.Runs.{coordinates_in}
use Rattle.wkb_plain.proofs.Runs.{length-runs}
use Rattle.wkb_plain.specs.Kinds.{line_string_coordinates}
use Rattle.wkb_plain.specs.declared.line_string.LineString.{LineString}
use Rattle.wkb_levels.specs.Cuts.{AreOnes, only_each}
use Rattle.wkb_levels.specs.EndLists.{start_of, ends_of, begin_of}
use Rattle.wkb_levels.specs.RingLists.{rings_rings}
use Rattle.wkb_levels.specs.declared.rings.Rings.{Rings}
use Rattle.wkb_levels.proofs.Pieces.{length-range, length-pieces, slice_get-pieces, slice_range-pieces, start_within}
use Rattle.wkb_levels.proofs.Pieces.{coordinates_between, ones_at, ones_only, not_ones}

-- a ring for each end
pub count_rings : (r : Rings) → length (rings_rings r) ≡ length (ends_of r.ends)
count_rings r = length-pieces 0 (coordinates_in r.dim r.words.now) (start_of r.ends) (ends_of r.ends)

pub below : (r : Rings) (i : ℕ) → i < length (rings_rings r) → i < length (ends_of r.ends)
below r i h = omega (arith, h, count_rings r)

-- no ring begins past the words
pub begins_within : (r : Rings) (w b i : ℕ) → w ≡ size r.dim → b ≡ begin_of r.ends i
    → i ≤ length (ends_of r.ends) → w * b ≤ length r.words.now
begins_within r w b i wide at h = grind (arith, mul-le-mul_left, start_within, mul-div-le)

-- none ends past the words
pub ends_within : (r : Rings) (w e i : ℕ) → w ≡ size r.dim → e ≡ slice_index (ends_of r.ends) i
    → i < length (ends_of r.ends) → w * e ≤ length r.words.now
ends_within r w e i wide to h = grind (arith, mul-le-mul_left, mul-div-le)

-- none ends before it begins
pub ends_behind : (r : Rings) (w b e i : ℕ) → b ≡ begin_of r.ends i → e ≡ slice_index (ends_of r.ends) i
    → i < length (ends_of r.ends) → w * b ≤ w * e
ends_behind r w b e i at to h = rw at (rw to (mul-le-mul_left w (r.fit.1 i h).0))

-- its words are whole coordinates
pub whole_ring : (r : Rings) (w b e i : ℕ) → w ≡ size r.dim → b ≡ begin_of r.ends i
    → e ≡ slice_index (ends_of r.ends) i → i < length (ends_of r.ends)
    → length (slice_range r.words.now (w * b) (w * e)) % size r.dim ≡ 0
whole_ring r w b e i wide at to h =
    rw (length-range r.words.now (w * b) (w * e) (ends_within r w e i wide to h), ← mul-sub w e b, wide)
    (mul-mod_right (size r.dim) (e - b))

-- they are the ring
pub ring_at : (r : Rings) (w b e i : ℕ) → w ≡ size r.dim → b ≡ begin_of r.ends i → e ≡ slice_index (ends_of r.ends) i
    → i < length (ends_of r.ends)
    → slice_get (rings_rings r) i ≡ Some (coordinates_in r.dim (slice_range r.words.now (w * b) (w * e)))
ring_at r w b e i wide at to h = grind (arith, coordinates_between, slice_get-pieces)

-- ---- rings of one coordinate each

-- they end within the words
pub ones_within : (r : Rings) (w s n : ℕ) → w ≡ size r.dim → s ≡ start_of r.ends → n ≡ length (ends_of r.ends)
    → AreOnes (start_of r.ends) (ends_of r.ends) → w * s + w * n ≤ length r.words.now
ones_within r w s n wide at count ones =
    let there = ones_at (start_of r.ends) (ends_of r.ends) n ones (omega (arith, count)) in
    omega (arith, mul-add w s n, begins_within r w (s + n) n wide (omega (arith, at, there)) (omega (arith, count)))

-- their coordinates are those of the words
pub ones_are : (r : Rings) (w s n : ℕ) (o : Option LineString) → w ≡ size r.dim → s ≡ start_of r.ends
    → n ≡ length (ends_of r.ends) → AreOnes (start_of r.ends) (ends_of r.ends)
    → IsSome o ↔ ((0 < size r.dim) × (length (slice_range r.words.now (w * s) (w * s + w * n)) % size r.dim ≡ 0))
    → IfSome o
    (λ l. line_string_coordinates l ≡ coordinates_in r.dim (slice_range r.words.now (w * s) (w * s + w * n)))
    → option_map line_string_coordinates o ≡ only_each (rings_rings r)
ones_are r w s n None wide at count ones some is =
    let long = length-range r.words.now (w * s) (w * s + w * n) (ones_within r w s n wide at count ones) in
    let same : w * s + w * n - w * s ≡ w * n = omega arith in
    absurd (false≢true (some.1 (r.some_words, rw (long, same, wide) (mul-mod_right (size r.dim) n))))
ones_are r w s n (Some l) wide at count ones some is =
    let d = r.dim in
    let words = r.words.now in
    let cs = coordinates_in d words in
    let last : s + n ≤ length words / size d = omega (
      arith,
      at,
      count,
      ones_at (start_of r.ends) (ends_of r.ends) n ones (omega (arith, count)),
      start_within (length words / size d) (start_of r.ends) (ends_of r.ends) n r.fit (omega (arith, count)),
    ) in
    let long = length-runs (size d) (length words / size d) words in
    let zero : s ≡ start_of r.ends - 0 = omega (arith, at) in
    let same : s + n - s ≡ n = omega arith in
    ap (λ c. Some c) (is ∙ ap (λ k. coordinates_in d (slice_range words (k * s) (k * s + k * n))) wide ∙ ap
    (λ k. coordinates_in d (slice_range words (size d * s) k)) (sym (mul-add (size d) s n)) ∙ coordinates_between d
    words s (s + n) r.some_words (omega arith) last ∙ ap (λ k. take k (drop s cs)) (same ∙ count) ∙ ap
    (λ k. take (length (ends_of r.ends)) (drop k cs)) zero) ∙ sym (grind (arith, ones_only))

-- where they aren't, not each has one
pub not_ones_are : (r : Rings) → (AreOnes (start_of r.ends) (ends_of r.ends) → ⊥) → only_each (rings_rings r) ≡ None
not_ones_are r differ =
    not_ones 0 (coordinates_in r.dim r.words.now) (length r.words.now / size r.dim) (start_of r.ends) (ends_of r.ends)
    (omega arith) (omega (arith, length-runs (size r.dim) (length r.words.now / size r.dim) r.words.now)) r.fit differ

pub ruleset ring_laws = (
  length-pieces,
  slice_get-pieces,
  slice_range-pieces,
  count_rings,
  below,
  begins_within,
  ends_within,
  ends_behind,
  whole_ring,
  ring_at,
  ones_within,
  ones_are,
  not_ones_are,
  slice_get_past,
)
